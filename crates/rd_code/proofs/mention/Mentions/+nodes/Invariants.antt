use Rattle.std.proofs.Common.{◌≡◌, ℕ, List, ◌+◌, ◌*◌, ◌++◌, ◌∷◌, max, drop, map}
use denote.Param.Weighed.{most}
use Rattle.rd_names.specs.Uses.{joined}
use Rattle.rd_tree.specs.declared.tree.Node.{size-Node}
use Rattle.rd_code.specs.Mentions.{named_in, plain}
use Rattle.rd_code.proofs.mention.Mentions.+nodes.Given as goal

-- a list is walked before its nodes, and the parts of a node before lists
abbrev pub decreases-node : goal.decreases-node
decreases-node l = 4 * size-Node (List ℕ) l.node.now

abbrev pub decreases-nodes : goal.decreases-nodes
decreases-nodes l = 4 * most (size-Node (List ℕ)) l.nodes.now + 1

abbrev pub decreases-keywords : goal.decreases-keywords
decreases-keywords l = 4 * most (λ k. size-Node (List ℕ) k.1) l.keywords.now + 1

abbrev pub decreases-links : goal.decreases-links
decreases-links l = 4 * most (λ k. size-Node (List ℕ) k.1) l.links.now + 1

abbrev pub decreases-pairs : goal.decreases-pairs
decreases-pairs l = 4 * most (λ p. max (size-Node (List ℕ) p.0) (size-Node (List ℕ) p.1)) l.pairs.now + 2

abbrev pub decreases-both : goal.decreases-both
decreases-both l = 4 * max (size-Node (List ℕ) l.left.now) (size-Node (List ℕ) l.right.now) + 1

abbrev pub decreases-three : goal.decreases-three
decreases-three l = 4 * max (size-Node (List ℕ) l.test.now) (max (size-Node (List ℕ) l.when_true.now) (size-Node (List ℕ) l.when_false.now)) + 2

abbrev pub decreases-first : goal.decreases-first
decreases-first l = 4 * max (size-Node (List ℕ) l.first.now) (most (size-Node (List ℕ)) l.others.now) + 2

abbrev pub decreases-chain : goal.decreases-chain
decreases-chain l = 4 * max (size-Node (List ℕ) l.first.now) (most (λ k. size-Node (List ℕ) k.1) l.rest.now) + 2

abbrev pub decreases-call : goal.decreases-call
decreases-call l = 4 * max (most (size-Node (List ℕ)) l.positional.now) (most (λ k. size-Node (List ℕ) k.1) l.keywords.now) + 3

abbrev pub decreases-arguments : goal.decreases-arguments
decreases-arguments l = 4 * max (most (size-Node (List ℕ)) l.positional.now) (most (λ k. size-Node (List ℕ) k.1) l.keywords.now) + 2

abbrev pub decreases-comprehension : goal.decreases-comprehension
decreases-comprehension l = 4 * max (size-Node (List ℕ) l.element.now) (max (size-Node (List ℕ) l.iterable.now) (most (size-Node (List ℕ)) l.condition.now)) + 3

abbrev pub invariant-nodes-loop-node : goal.invariant-nodes-loop-node
invariant-nodes-loop-node l = l.self.all.items ++ (joined (map named_in (drop l.node-index l.nodes))) ≡ l.fn.self.all.items ++ (joined (map named_in l.nodes))

abbrev pub invariant-keywords-loop-keyword : goal.invariant-keywords-loop-keyword
invariant-keywords-loop-keyword l =
    l.self.all.items ++ (joined (map (λ k. plain k.0 ∷ named_in k.1) (drop l.keyword-index l.keywords))) ≡ l.fn.self.all.items ++ (joined (map (λ k. plain k.0 ∷ named_in k.1) l.keywords))

abbrev pub invariant-links-loop-link : goal.invariant-links-loop-link
invariant-links-loop-link l = l.self.all.items ++ (joined (map (λ k. named_in k.1) (drop l.link-index l.links))) ≡ l.fn.self.all.items ++ (joined (map (λ k. named_in k.1) l.links))

abbrev pub invariant-pairs-loop-pair : goal.invariant-pairs-loop-pair
invariant-pairs-loop-pair l =
    l.self.all.items ++ (joined (map (λ p. named_in p.0 ++ named_in p.1) (drop l.pair-index l.pairs))) ≡ l.fn.self.all.items ++ (joined (map (λ p. named_in p.0 ++ named_in p.1) l.pairs))
