use Rattle.std.proofs.Common.{◌≡◌, ◌≤◌, min, max, drop, map}
use Rattle.rd_value.specs.Depth.{depth, greatest, greater}
use Rattle.rd_value.proofs.depth.+depth.Given as goal

abbrev pub invariant-items_depth-loop-item : goal.invariant-items_depth-loop-item
invariant-items_depth-loop-item l = (l.deepest ≤ 255) × (min (max l.deepest (greatest (map depth (drop l.item-index l.items)))) 255 ≡ min (greatest (map depth l.items)) 255)

abbrev pub invariant-pairs_depth-loop-key : goal.invariant-pairs_depth-loop-key
invariant-pairs_depth-loop-key l = (l.deepest ≤ 255) × (min (max l.deepest (greatest (map greater (map (λ p. (depth p.0, depth p.1)) (drop l.key-index l.pairs))))) 255 ≡ min (greatest (map greater (map (λ p. (depth p.0, depth p.1)) l.pairs))) 255)
