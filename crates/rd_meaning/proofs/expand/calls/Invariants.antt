use Rattle.std.proofs.Common.{◌≡◌, map, take}
use Rattle.rd_value.specs.Expand.{call_with}
use Rattle.rd_meaning.proofs.expand.calls.Given as goal

abbrev pub invariant-loop-value : goal.invariant-loop-value
invariant-loop-value l = l.calls.items ≡ map (call_with l.task) (take l.value-index l.values)
