use Rattle.std.proofs.Common.{◌≡◌, ℕ, List, ◌+◌, ◌*◌, ◌++◌, max, drop, map}
use denote.Param.Weighed.{most}
use Rattle.rd_value.specs.Canon.{joined}
use Rattle.rd_tree.specs.declared.tree.Node.{Node, size-Node}
use Rattle.rd_structure.specs.Structure.{node_bytes, keyword_bytes, link_bytes, pair_bytes}
use Rattle.rd_structure.proofs.node.+nodes.Given as goal

abbrev size : Node (List ℕ) → ℕ
size = size-Node (List ℕ)

-- a list is walked before its nodes, and the parts of a node before lists
abbrev pub decreases-push_node : goal.decreases-push_node
decreases-push_node l = 4 * (size l.node.now)

abbrev pub decreases-push_one : goal.decreases-push_one
decreases-push_one l = 4 * (size l.part.now) + 1

abbrev pub decreases-push_many : goal.decreases-push_many
decreases-push_many l = 4 * (most size l.parts.now) + 2

abbrev pub decreases-push_call : goal.decreases-push_call
decreases-push_call l = 4 * (max (most size l.positional.now) (most (λ k. size k.1) l.keywords.now)) + 3

abbrev pub decreases-push_method : goal.decreases-push_method
decreases-push_method l = 4 * (max (size l.receiver.now) (most size l.arguments.now)) + 3

abbrev pub decreases-push_index : goal.decreases-push_index
decreases-push_index l = 4 * (max (size l.receiver.now) (size l.index.now)) + 1

abbrev pub decreases-push_compare : goal.decreases-push_compare
decreases-push_compare l = 4 * (max (size l.left.now) (size l.right.now)) + 1

abbrev pub decreases-push_chain : goal.decreases-push_chain
decreases-push_chain l = 4 * (max (size l.first.now) (most (λ k. size k.1) l.rest.now)) + 3

abbrev pub decreases-push_cond : goal.decreases-push_cond
decreases-push_cond l = 4 * (max (size l.test.now) (max (size l.when_true.now) (size l.when_false.now))) + 1

abbrev pub decreases-push_dict : goal.decreases-push_dict
decreases-push_dict l = 4 * (most (λ p. max (size p.0) (size p.1)) l.pairs.now) + 3

abbrev pub decreases-push_comprehension : goal.decreases-push_comprehension
decreases-push_comprehension l = 4 * (max (size l.element.now) (max (size l.iterable.now) (most size l.condition.now))) + 2

abbrev pub decreases-push_nodes : goal.decreases-push_nodes
decreases-push_nodes l = 4 * (most size l.nodes.now) + 1

abbrev pub decreases-push_keyword : goal.decreases-push_keyword
decreases-push_keyword l = 4 * (size l.node.now) + 1

abbrev pub decreases-push_keywords : goal.decreases-push_keywords
decreases-push_keywords l = 4 * (most (λ k. size k.1) l.keywords.now) + 2

abbrev pub decreases-push_link : goal.decreases-push_link
decreases-push_link l = 4 * (size l.node.now) + 1

abbrev pub decreases-push_links : goal.decreases-push_links
decreases-push_links l = 4 * (most (λ k. size k.1) l.links.now) + 2

abbrev pub decreases-push_pair : goal.decreases-push_pair
decreases-push_pair l = 4 * (max (size l.key.now) (size l.node.now)) + 1

abbrev pub decreases-push_pairs : goal.decreases-push_pairs
decreases-push_pairs l = 4 * (most (λ p. max (size p.0) (size p.1)) l.pairs.now) + 2

abbrev pub invariant-push_nodes-loop-node : goal.invariant-push_nodes-loop-node
invariant-push_nodes-loop-node l = l.out.items ++ joined (map node_bytes (drop l.node-index l.nodes)) ≡ (l.initial.out.items ++ joined (map node_bytes l.nodes))

abbrev pub invariant-push_keywords-loop-name : goal.invariant-push_keywords-loop-name
invariant-push_keywords-loop-name l = l.out.items ++ joined (map (λ k. keyword_bytes (k.0, node_bytes k.1)) (drop l.name-index l.keywords)) ≡
    (l.initial.out.items ++ joined (map (λ k. keyword_bytes (k.0, node_bytes k.1)) l.keywords))

abbrev pub invariant-push_links-loop-operator : goal.invariant-push_links-loop-operator
invariant-push_links-loop-operator l = l.out.items ++ joined (map (λ k. link_bytes (k.0, node_bytes k.1)) (drop l.operator-index l.links)) ≡
    (l.initial.out.items ++ joined (map (λ k. link_bytes (k.0, node_bytes k.1)) l.links))

abbrev pub invariant-push_pairs-loop-key : goal.invariant-push_pairs-loop-key
invariant-push_pairs-loop-key l = l.out.items ++ joined (map (λ p. pair_bytes (node_bytes p.0, node_bytes p.1)) (drop l.key-index l.pairs)) ≡
    (l.initial.out.items ++ joined (map (λ p. pair_bytes (node_bytes p.0, node_bytes p.1)) l.pairs))
