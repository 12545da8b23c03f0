use Rattle.std.proofs.Common.{◌≡◌, ◌++◌, drop, map}
use Rattle.rd_interpreter.proofs.methods.on_dict.held_values.Given as goal

abbrev pub invariant-loop-value : goal.invariant-loop-value
invariant-loop-value g l = l.values ++ map (λ p. g.V.Held.held p.1) (drop l.value-index l.pairs) ≡ map (λ p. g.V.Held.held p.1) l.pairs
