use Rattle.std.proofs.Common.{◌≡◌, drop}
use Rattle.rd_interpreter.specs.Builtins.{best_from, better}
use Rattle.rd_interpreter.specs.Running.{own}
use Rattle.rd_interpreter.proofs.builtins.order.best_of.Given as goal

abbrev pub invariant-loop-value : goal.invariant-loop-value
invariant-loop-value l = best_from (better own l.greatest) l.best (drop l.value-index l.others) ≡ best_from (better own l.greatest) l.first l.others
