use Rattle.std.proofs.Common.{List, ℕ, ◌∙◌, Bor}
use Rattle.rd_bencode.proofs.Frames.{found_name, name_only}
use Rattle.rd_bencode.proofs.form.task_name.Goals as goal

pub returns-clause-found : goal.returns-clause-found
returns-clause-found c = found_name (λ (r : Bor (List ℕ)). r.now) c.args.structure.now c.front_name.result c.front_name.ensures

pub returns-clause-only : goal.returns-clause-only
returns-clause-only c = λ name n. c.front_name.ensures ∙ name_only c.args.structure.now name n
