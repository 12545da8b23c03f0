use Rattle.std.proofs.Common.{◌≡◌}
use Rattle.std.specs.Prelude.{option_copied}
use Rattle.rd_names.specs.Options.{first_space}
use Rattle.rd_names.specs.Names.{told_by, known_of}
use Rattle.rd_names.proofs.Walking.{six_parts}
use Rattle.rd_names.proofs.names.judge_module.Goals as goal

pub returns : goal.returns
returns c =
    let known : told_by c.in_ok-known.known ≡ known_of c.args.module.now.functions = rw c.as_slice-functions.ensures at c.in_ok-known.ensures.known in
    let space : option_copied c.first_namespace.result ≡ first_space c.args.module.now.namespaces = rw c.as_slice-namespaces.ensures at c.first_namespace.ensures in
    six_parts c.new-all.result.items c.judge_spaces.new.all.items c.known_functions.new.all.items c.judge_taken.new.all.items c.note_tasks.new.all.items c.judge_functions.new.all.items _ _ _ _ _ _ c.new-all.ensures.items
    (rw c.as_slice-namespaces.ensures at c.in_ok-judge_spaces.ensures) (rw c.as_slice-functions.ensures at c.in_ok-known.ensures.all) (rw c.as_slice-functions.ensures at c.in_ok-judge_taken.ensures)
    (rw (space, c.as_slice-functions.ensures) at c.in_ok-note_tasks.ensures) (rw (known, c.as_slice-functions.ensures) at c.in_ok-judge_functions.ensures)
