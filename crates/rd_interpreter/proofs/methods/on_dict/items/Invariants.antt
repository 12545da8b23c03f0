use Rattle.std.proofs.Common.{◌≡◌, ◌++◌, drop, map}
use Rattle.rd_interpreter.specs.Methods.{item}
use Rattle.rd_interpreter.specs.Running.{own}
use Rattle.rd_interpreter.proofs.methods.on_dict.items.Given as goal

abbrev pub invariant-loop-key : goal.invariant-loop-key
invariant-loop-key g l = l.items ++ map (λ p. item own (p.0, g.V.Held.held p.1)) (drop l.key-index l.pairs) ≡ map (λ p. item own (p.0, g.V.Held.held p.1)) l.pairs
