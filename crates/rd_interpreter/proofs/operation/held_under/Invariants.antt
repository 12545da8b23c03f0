use Rattle.std.proofs.Common.{◌≡◌, drop}
use Rattle.rd_interpreter.specs.Operations.{held_under}
use Rattle.rd_interpreter.specs.Running.{own}
use Rattle.rd_interpreter.proofs.operation.held_under.Given as goal

abbrev pub invariant-loop-other : goal.invariant-loop-other
invariant-loop-other l = held_under own l.key (drop l.other-index l.pairs) ≡ held_under own l.key l.pairs
