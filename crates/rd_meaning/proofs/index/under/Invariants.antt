use Rattle.std.proofs.Common.{◌≡◌, drop}
use Rattle.rd_value.specs.Operators.{under}
use Rattle.rd_meaning.proofs.index.under.Given as goal

abbrev pub invariant-loop-other : goal.invariant-loop-other
invariant-loop-other l = under (λ f. f) l.key (drop l.other-index l.pairs) ≡ under (λ f. f) l.key l.pairs
