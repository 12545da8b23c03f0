use Rattle.std.proofs.Common.{◌≡◌, drop, pos}
use Rattle.rd_interpreter.specs.Builtins.{sum_from}
use Rattle.rd_interpreter.proofs.builtins.total.total.Given as goal

abbrev pub invariant-loop-value : goal.invariant-loop-value
invariant-loop-value l = sum_from l.total (drop l.value-index l.values) ≡ sum_from (pos 0) l.values
