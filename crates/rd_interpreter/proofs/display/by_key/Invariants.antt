use Rattle.std.proofs.Common.{[], drop}
use Rattle.rd_interpreter.specs.Body.{with_pairs}
use Rattle.rd_interpreter.specs.Running.{own}
use Rattle.rd_interpreter.proofs.Displays.{Onto}
use Rattle.rd_value.proofs.Deciding.{value_same, value_decides}
use Rattle.rd_interpreter.proofs.display.by_key.Given as goal

abbrev pub invariant-loop-shown : goal.invariant-loop-shown
invariant-loop-shown l = Onto value_same value_decides (drop l.shown-index l.pairs) l.entries.entries (with_pairs own l.pairs [])
