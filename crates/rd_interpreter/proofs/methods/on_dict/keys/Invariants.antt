use Rattle.std.proofs.Common.{◌≡◌, ◌++◌, drop, map}
use Rattle.rd_value.specs.declared.expr.Lazy.TheVariants as lazy
use Rattle.rd_interpreter.proofs.methods.on_dict.keys.Given as goal

abbrev pub invariant-loop-key : goal.invariant-loop-key
invariant-loop-key g l = l.keys ++ map (λ p. lazy.Val p.0) (drop l.key-index l.pairs) ≡ map (λ p. lazy.Val p.0) l.pairs
