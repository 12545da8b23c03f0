use Rattle.std.proofs.Common.{◌≡◌, ◌+◌, ◌*◌, ◌++◌, max, drop, map}
use denote.Param.Weighed.{most}
use Rattle.rd_tree.specs.declared.tree.Name.{Name}
use Rattle.rd_tree.specs.declared.tree.Node.{size-Node}
use Rattle.rd_names.specs.Uses.{joined}
use Rattle.rd_names.specs.Names.{told_by, is_among, node_refusals}
use Rattle.rd_names.proofs.uses.+nodes.Given as goal

-- An operation is walked before its parts. Two nodes and lists are walked before their nodes, and what has such parts before these.
abbrev pub decreases-judge_node : goal.decreases-judge_node
decreases-judge_node l = 4 * size-Node Name l.node.now + 1

abbrev pub decreases-judge_operation : goal.decreases-judge_operation
decreases-judge_operation l = 4 * size-Node Name l.node.now

abbrev pub decreases-judge_call : goal.decreases-judge_call
decreases-judge_call l = 4 * max (most (size-Node Name) l.positional.now) (most (λ k. size-Node Name k.1) l.keywords.now) + 4

abbrev pub decreases-judge_arguments : goal.decreases-judge_arguments
decreases-judge_arguments l = 4 * max (most (size-Node Name) l.positional.now) (most (λ k. size-Node Name k.1) l.keywords.now) + 3

abbrev pub decreases-judge_nodes : goal.decreases-judge_nodes
decreases-judge_nodes l = 4 * most (size-Node Name) l.nodes.now + 2

abbrev pub decreases-judge_keywords : goal.decreases-judge_keywords
decreases-judge_keywords l = 4 * most (λ k. size-Node Name k.1) l.keywords.now + 2

abbrev pub decreases-judge_links : goal.decreases-judge_links
decreases-judge_links l = 4 * most (λ k. size-Node Name k.1) l.links.now + 2

abbrev pub decreases-judge_both : goal.decreases-judge_both
decreases-judge_both l = 4 * max (size-Node Name l.left.now) (size-Node Name l.right.now) + 2

abbrev pub decreases-judge_pairs : goal.decreases-judge_pairs
decreases-judge_pairs l = 4 * most (λ p. max (size-Node Name p.0) (size-Node Name p.1)) l.pairs.now + 3

abbrev pub decreases-judge_chain : goal.decreases-judge_chain
decreases-judge_chain l = 4 * max (size-Node Name l.first.now) (most (λ k. size-Node Name k.1) l.links.now) + 3

abbrev pub decreases-judge_choice : goal.decreases-judge_choice
decreases-judge_choice l = 4 * max (size-Node Name l.test.now) (max (size-Node Name l.when_true.now) (size-Node Name l.when_false.now)) + 3

abbrev pub decreases-judge_within : goal.decreases-judge_within
decreases-judge_within l = 4 * max (size-Node Name l.element.now) (most (size-Node Name) l.condition.now) + 3

abbrev pub invariant-judge_nodes-loop-node : goal.invariant-judge_nodes-loop-node
invariant-judge_nodes-loop-node l = (l.locals.keys ≡ l.fn.locals.keys) × (
    l.all.items ++ joined (map (node_refusals (told_by l.known) (is_among l.fn.locals.keys)) (drop l.node-index l.nodes))
    ≡ l.fn.all.items ++ joined (map (node_refusals (told_by l.known) (is_among l.fn.locals.keys)) l.nodes)
    )

abbrev pub invariant-judge_keywords-loop-keyword : goal.invariant-judge_keywords-loop-keyword
invariant-judge_keywords-loop-keyword l = (l.locals.keys ≡ l.fn.locals.keys) × (
    l.all.items ++ joined (map (λ k. node_refusals (told_by l.known) (is_among l.fn.locals.keys) k.1) (drop l.keyword-index l.keywords))
    ≡ l.fn.all.items ++ joined (map (λ k. node_refusals (told_by l.known) (is_among l.fn.locals.keys) k.1) l.keywords)
    )

abbrev pub invariant-judge_links-loop-link : goal.invariant-judge_links-loop-link
invariant-judge_links-loop-link l = (l.locals.keys ≡ l.fn.locals.keys) × (
    l.all.items ++ joined (map (λ k. node_refusals (told_by l.known) (is_among l.fn.locals.keys) k.1) (drop l.link-index l.links))
    ≡ l.fn.all.items ++ joined (map (λ k. node_refusals (told_by l.known) (is_among l.fn.locals.keys) k.1) l.links)
    )

abbrev pub invariant-judge_pairs-loop-pair : goal.invariant-judge_pairs-loop-pair
invariant-judge_pairs-loop-pair l = (l.locals.keys ≡ l.fn.locals.keys) × (
    l.all.items ++ joined (map (λ p. node_refusals (told_by l.known) (is_among l.fn.locals.keys) p.0 ++ node_refusals (told_by l.known) (is_among l.fn.locals.keys) p.1) (drop l.pair-index l.pairs))
    ≡ l.fn.all.items ++ joined (map (λ p. node_refusals (told_by l.known) (is_among l.fn.locals.keys) p.0 ++ node_refusals (told_by l.known) (is_among l.fn.locals.keys) p.1) l.pairs)
    )
