use Rattle.std.proofs.Common.{◌≡◌, ◌++◌, drop, map}
use Rattle.rd_value.specs.Canon.{canon, joined, keyed}
use Rattle.rd_bencode.proofs.write.value.+value.Given as goal

abbrev pub invariant-push_items-loop-item : goal.invariant-push_items-loop-item
invariant-push_items-loop-item l = l.out.items ++ joined (map (canon (λ f. f)) (drop l.item-index l.items)) ≡ l.initial.out.items ++ joined (map (canon (λ f. f)) l.items)

abbrev pub invariant-push_pairs-loop-key : goal.invariant-push_pairs-loop-key
invariant-push_pairs-loop-key l = l.out.items ++ joined (map keyed (map (λ p. (canon (λ f. f) p.0, canon (λ f. f) p.1)) (drop l.key-index l.pairs))) ≡ l.initial.out.items ++ joined (map keyed (map (λ p. (canon (λ f. f) p.0, canon (λ f. f) p.1)) l.pairs))
