use Rattle.std.proofs.Common.{◌≡◌, ◌+◌, drop, map}
use Rattle.std.specs.Option.{option_map}
use Rattle.rd_meaning.specs.Binding.{slot_of, place_of}
use Rattle.rd_meaning.proofs.binding.place_of.Given as goal

abbrev pub invariant-loop-slot : goal.invariant-loop-slot
invariant-loop-slot l = record {
  place : l.place ≡ l.slot-index;
  left : option_map (λ k. l.slot-index + k) (place_of l.name (map slot_of (drop l.slot-index l.slots))) ≡ place_of l.name (map slot_of l.slots);
}
