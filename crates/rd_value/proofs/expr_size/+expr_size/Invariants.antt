use Rattle.std.proofs.Common.{◌≡◌, ◌+◌, ◌*◌, ◌<◌, ◌^◌, ◌-◌, min, drop, map, length}
use Rattle.rd_value.specs.Canon.{canon_expr, joined, named, under_key}
use denote.Param.Weighed.{most}
use Rattle.rd_value.specs.declared.value.FileValue.{FileValue}
use Rattle.rd_value.specs.declared.expr.Lazy.{size-Lazy}
use Rattle.rd_value.proofs.expr_size.+expr_size.Given as goal

abbrev pub invariant-parts_size-loop-part : goal.invariant-parts_size-loop-part
invariant-parts_size-loop-part l = (l.total < 2 ^ 32) × (min (l.total + length (joined (map (canon_expr (λ f. f)) (drop l.part-index l.parts)))) (2 ^ 32 - 1) ≡ min (length (joined (map (canon_expr (λ f. f)) l.parts))) (2 ^ 32 - 1))

abbrev pub invariant-keywords_size-loop-name : goal.invariant-keywords_size-loop-name
invariant-keywords_size-loop-name l = (l.total < 2 ^ 32) × (min (l.total + length (joined (map named (map (λ p. (p.0, canon_expr (λ f. f) p.1)) (drop l.name-index l.keywords))))) (2 ^ 32 - 1) ≡ min (length (joined (map named (map (λ p. (p.0, canon_expr (λ f. f) p.1)) l.keywords)))) (2 ^ 32 - 1))

abbrev pub invariant-pairs_size-loop-key : goal.invariant-pairs_size-loop-key
invariant-pairs_size-loop-key l = (l.total < 2 ^ 32) × (min (l.total + length (joined (map (under_key (λ f. f)) (map (λ p. (p.0, canon_expr (λ f. f) p.1)) (drop l.key-index l.pairs))))) (2 ^ 32 - 1) ≡ min (length (joined (map (under_key (λ f. f)) (map (λ p. (p.0, canon_expr (λ f. f) p.1)) l.pairs)))) (2 ^ 32 - 1))

-- a list is walked before its parts, so it counts one more than the deepest of them
abbrev pub decreases-Expr::size : goal.decreases-Expr::size
decreases-Expr::size l = 2 * size-Lazy FileValue l.self.now

abbrev pub decreases-parts_size : goal.decreases-parts_size
decreases-parts_size l = 2 * most (size-Lazy FileValue) l.parts.now + 1

abbrev pub decreases-keywords_size : goal.decreases-keywords_size
decreases-keywords_size l = 2 * most (λ p. size-Lazy FileValue p.1) l.keywords.now + 1

abbrev pub decreases-pairs_size : goal.decreases-pairs_size
decreases-pairs_size l = 2 * most (λ p. size-Lazy FileValue p.1) l.pairs.now + 1
