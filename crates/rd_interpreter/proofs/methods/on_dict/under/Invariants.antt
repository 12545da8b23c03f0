use Rattle.std.proofs.Common.{◌≡◌, drop}
use Rattle.rd_interpreter.specs.Methods.{value_under}
use Rattle.rd_interpreter.specs.Running.{own}
use Rattle.rd_interpreter.proofs.methods.on_dict.under.Given as goal

abbrev pub invariant-loop-other : goal.invariant-loop-other
invariant-loop-other g l = value_under own l.key (drop l.other-index l.pairs) ≡ value_under own l.key l.pairs
