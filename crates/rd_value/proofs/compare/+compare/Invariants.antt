use Rattle.std.proofs.Common.{◌≡◌, ◌+◌, ◌*◌, max, map, drop, length}
use Rattle.std.specs.Cmp.Lexicographic.{slice_partial_cmp}
use Rattle.rd_value.specs.Compare.{compared, finds_pair, finds_pairs}
use Rattle.rd_value.specs.Depth.{depth, greatest, greater}
use Rattle.rd_value.proofs.compare.+compare.Given as goal

abbrev pub decreases-Value::compared : goal.decreases-Value::compared
decreases-Value::compared l = 4 * depth l.self.now

abbrev pub decreases-compared_items : goal.decreases-compared_items
decreases-compared_items l = 4 * greatest (map depth l.items.now) + 1

abbrev pub decreases-equal_pairs : goal.decreases-equal_pairs
decreases-equal_pairs l = 4 * greatest (map greater (map (λ p. (depth p.0, depth p.1)) l.pairs.now)) + 3

abbrev pub decreases-has_pair_from : goal.decreases-has_pair_from
decreases-has_pair_from l = 4 * max (depth l.pair.now.0) (depth l.pair.now.1) + 2

abbrev pub decreases-has_pair : goal.decreases-has_pair
decreases-has_pair l = 4 * max (depth l.pair.now.0) (depth l.pair.now.1) + 1

abbrev pub invariant-compared_items-loop-item : goal.invariant-compared_items-loop-item
invariant-compared_items-loop-item l = slice_partial_cmp (λ test y. test y) (map (compared (λ f. f)) (drop l.item-index l.items)) l.rest ≡ slice_partial_cmp (λ test y. test y) (map (compared (λ f. f)) l.items) l.others

abbrev pub invariant-has_pair-loop-other : goal.invariant-has_pair-loop-other
invariant-has_pair-loop-other l = finds_pair (compared (λ f. f) l.pair.0, compared (λ f. f) l.pair.1) (drop l.other-index l.others) ≡ finds_pair (compared (λ f. f) l.pair.0, compared (λ f. f) l.pair.1) l.others

abbrev pub invariant-equal_pairs-loop-pair : goal.invariant-equal_pairs-loop-pair
invariant-equal_pairs-loop-pair l = (length l.pairs ≡ length l.others) × (l.rest ≡ drop l.pair-index l.others)
    × (finds_pairs (map (λ p. (compared (λ f. f) p.0, compared (λ f. f) p.1)) (drop l.pair-index l.pairs)) l.others ≡ finds_pairs (map (λ p. (compared (λ f. f) p.0, compared (λ f. f) p.1)) l.pairs) l.others)
