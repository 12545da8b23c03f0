use Rattle.std.proofs.Common.{◌≡◌, ◌+◌, ◌*◌, ◌≤◌, min, max, drop, map}
use Rattle.rd_value.specs.Depth.{depth_expr, greatest, named_depth, keyed_depth}
use denote.Param.Weighed.{most}
use Rattle.rd_value.specs.declared.value.FileValue.{FileValue}
use Rattle.rd_value.specs.declared.expr.Lazy.{size-Lazy}
use Rattle.rd_value.proofs.expr_depth.+expr_depth.Given as goal

abbrev pub invariant-parts_depth-loop-part : goal.invariant-parts_depth-loop-part
invariant-parts_depth-loop-part l = (l.deepest ≤ 255) × (min (max l.deepest (greatest (map depth_expr (drop l.part-index l.parts)))) 255 ≡ min (greatest (map depth_expr l.parts)) 255)

abbrev pub invariant-keywords_depth-loop-part : goal.invariant-keywords_depth-loop-part
invariant-keywords_depth-loop-part l = (l.deepest ≤ 255) × (min (max l.deepest (greatest (map named_depth (map (λ p. (p.0, depth_expr p.1)) (drop l.part-index l.keywords))))) 255 ≡ min (greatest (map named_depth (map (λ p. (p.0, depth_expr p.1)) l.keywords))) 255)

abbrev pub invariant-pairs_depth-loop-key : goal.invariant-pairs_depth-loop-key
invariant-pairs_depth-loop-key l = (l.deepest ≤ 255) × (min (max l.deepest (greatest (map keyed_depth (map (λ p. (p.0, depth_expr p.1)) (drop l.key-index l.pairs))))) 255 ≡ min (greatest (map keyed_depth (map (λ p. (p.0, depth_expr p.1)) l.pairs))) 255)

-- a list is walked before its parts, so it counts one more than the deepest of them
abbrev pub decreases-Expr::depth : goal.decreases-Expr::depth
decreases-Expr::depth l = 2 * size-Lazy FileValue l.self.now

abbrev pub decreases-parts_depth : goal.decreases-parts_depth
decreases-parts_depth l = 2 * most (size-Lazy FileValue) l.parts.now + 1

abbrev pub decreases-keywords_depth : goal.decreases-keywords_depth
decreases-keywords_depth l = 2 * most (λ p. size-Lazy FileValue p.1) l.keywords.now + 1

abbrev pub decreases-pairs_depth : goal.decreases-pairs_depth
decreases-pairs_depth l = 2 * most (λ p. size-Lazy FileValue p.1) l.pairs.now + 1
