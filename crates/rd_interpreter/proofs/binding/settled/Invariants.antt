use Rattle.std.proofs.Common.{◌≡◌, ◌++◌, drop, map, Ok}
use Rattle.rd_value.specs.Bind.{and_then, all_settled}
use Rattle.rd_interpreter.specs.Binding.{slot_of}
use Rattle.rd_interpreter.proofs.binding.settled.Given as goal

abbrev pub invariant-loop-argument : goal.invariant-loop-argument
invariant-loop-argument l = and_then (all_settled (map slot_of (drop l.argument-index l.arguments))) (λ vs. Ok (l.values.items ++ vs)) ≡ all_settled (map slot_of l.arguments)
