use Rattle.std.proofs.Common.{◌≡◌, ◌+◌, drop, map}
use Rattle.std.specs.Option.{option_map}
use Rattle.rd_interpreter.specs.Binding.{slot_of, place_of}
use Rattle.rd_interpreter.proofs.binding.place_of.Given as goal

abbrev pub invariant-loop-argument : goal.invariant-loop-argument
invariant-loop-argument l = record {
  place : l.place ≡ l.argument-index;
  left : option_map (λ k. l.argument-index + k) (place_of l.name (map slot_of (drop l.argument-index l.arguments))) ≡ place_of l.name (map slot_of l.arguments);
}
