use Rattle.std.proofs.Common.{◌≡◌, ◌≤◌, [], length, drop, arith}
use Rattle.std.proofs.lemmas.List.{drop_all}
use Rattle.rd_names.proofs.RefusalLaws.{first_of}
use Rattle.rd_names.proofs.refusal.first.Goals as goal

pub returns : goal.returns
returns c =
    let past : length c.args.refusals.now ≤ c.loop-refusal.refusal-index = omega arith in
    let ended : drop c.loop-refusal.refusal-index c.args.refusals.now ≡ [] = drop_all c.loop-refusal.refusal-index c.args.refusals.now past in
    first_of c.args.refusals.now c.loop-refusal.found (rw ended at c.loop-refusal.invariant)
