use Rattle.std.proofs.Common.{◌≡◌, ◌+◌, ◌<◌, ◌^◌, ◌-◌, min, drop, map, length}
use Rattle.rd_value.specs.Canon.{canon, joined, keyed}
use Rattle.rd_value.proofs.size.+size.Given as goal

abbrev pub invariant-items_size-loop-item : goal.invariant-items_size-loop-item
invariant-items_size-loop-item l = (l.total < 2 ^ 32) × (min (l.total + length (joined (map (canon (λ f. f)) (drop l.item-index l.items)))) (2 ^ 32 - 1) ≡ min (length (joined (map (canon (λ f. f)) l.items))) (2 ^ 32 - 1))

abbrev pub invariant-pairs_size-loop-key : goal.invariant-pairs_size-loop-key
invariant-pairs_size-loop-key l = (l.total < 2 ^ 32) × (min (l.total + length (joined (map keyed (map (λ p. (canon (λ f. f) p.0, canon (λ f. f) p.1)) (drop l.key-index l.pairs))))) (2 ^ 32 - 1) ≡ min (length (joined (map keyed (map (λ p. (canon (λ f. f) p.0, canon (λ f. f) p.1)) l.pairs)))) (2 ^ 32 - 1))
