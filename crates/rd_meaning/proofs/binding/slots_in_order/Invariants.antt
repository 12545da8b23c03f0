use Rattle.std.proofs.Common.{◌≡◌, ◌++◌, drop, map, length}
use Rattle.rd_meaning.specs.Binding.{parameter_of, slot_of, in_order}
use Rattle.rd_meaning.proofs.binding.slots_in_order.Given as goal

abbrev pub invariant-loop-parameter : goal.invariant-loop-parameter
invariant-loop-parameter l = map slot_of l.slots.items ++ in_order (length l.slots.items) (map parameter_of (drop l.parameter-index l.parameters)) l.positional ≡ in_order 0 (map parameter_of l.parameters) l.positional
