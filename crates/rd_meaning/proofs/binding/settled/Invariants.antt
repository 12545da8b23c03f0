use Rattle.std.proofs.Common.{◌≡◌, ◌++◌, drop, map, Ok}
use Rattle.rd_value.specs.Bind.{and_then, all_settled}
use Rattle.rd_meaning.specs.Binding.{slot_of}
use Rattle.rd_meaning.proofs.binding.settled.Given as goal

abbrev pub invariant-loop-slot : goal.invariant-loop-slot
invariant-loop-slot l = and_then (all_settled (map slot_of (drop l.slot-index l.slots))) (λ vs. Ok (l.values.items ++ vs)) ≡ all_settled (map slot_of l.slots)
