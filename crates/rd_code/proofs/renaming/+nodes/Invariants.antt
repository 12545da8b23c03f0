use Rattle.std.proofs.Common.{◌≡◌, ◌+◌, ◌*◌, max, map, take}
use denote.Param.Weighed.{most}
use Rattle.rd_tree.specs.declared.tree.Node.{size-Node}
use Rattle.rd_code.specs.Renaming.{renamed, renamed_keyword, renamed_link, renamed_pair}
use Rattle.rd_code.proofs.renaming.+nodes.Given as goal

abbrev pub invariant-renamed_nodes-loop-node : goal.invariant-renamed_nodes-loop-node
invariant-renamed_nodes-loop-node g l = l.all.items ≡ map (renamed (g.R.Renaming.renamed l.by)) (take l.node-index l.nodes)

abbrev pub invariant-renamed_keywords-loop-keyword : goal.invariant-renamed_keywords-loop-keyword
invariant-renamed_keywords-loop-keyword g l = l.all.items ≡ map (renamed_keyword (g.R.Renaming.renamed l.by)) (take l.keyword-index l.keywords)

abbrev pub invariant-renamed_links-loop-link : goal.invariant-renamed_links-loop-link
invariant-renamed_links-loop-link g l = l.all.items ≡ map (renamed_link (g.R.Renaming.renamed l.by)) (take l.link-index l.links)

abbrev pub invariant-renamed_pairs-loop-pair : goal.invariant-renamed_pairs-loop-pair
invariant-renamed_pairs-loop-pair g l = l.all.items ≡ map (renamed_pair (g.R.Renaming.renamed l.by)) (take l.pair-index l.pairs)

-- a list is walked before its nodes, and the parts of a node before lists
abbrev pub decreases-renamed_node : goal.decreases-renamed_node
decreases-renamed_node g l = 4 * (size-Node g.row.N.Denot) l.node.now

abbrev pub decreases-renamed_boxed : goal.decreases-renamed_boxed
decreases-renamed_boxed g l = 4 * (size-Node g.row.N.Denot) l.node.now + 1

abbrev pub decreases-renamed_nodes : goal.decreases-renamed_nodes
decreases-renamed_nodes g l = 4 * most (size-Node g.row.N.Denot) l.nodes.now + 1

abbrev pub decreases-renamed_keywords : goal.decreases-renamed_keywords
decreases-renamed_keywords g l = 4 * most (λ p. (size-Node g.row.N.Denot) p.1) l.keywords.now + 1

abbrev pub decreases-renamed_links : goal.decreases-renamed_links
decreases-renamed_links g l = 4 * most (λ p. (size-Node g.row.N.Denot) p.1) l.links.now + 1

abbrev pub decreases-renamed_pairs : goal.decreases-renamed_pairs
decreases-renamed_pairs g l = 4 * most (λ p. max ((size-Node g.row.N.Denot) p.0) ((size-Node g.row.N.Denot) p.1)) l.pairs.now + 1

abbrev pub decreases-renamed_call : goal.decreases-renamed_call
decreases-renamed_call g l = 4 * max (most (size-Node g.row.N.Denot) l.positional.now) (most (λ p. (size-Node g.row.N.Denot) p.1) l.keywords.now) + 2

abbrev pub decreases-renamed_method : goal.decreases-renamed_method
decreases-renamed_method g l = 4 * max ((size-Node g.row.N.Denot) l.receiver.now) (most (size-Node g.row.N.Denot) l.arguments.now) + 2

abbrev pub decreases-renamed_index : goal.decreases-renamed_index
decreases-renamed_index g l = 4 * max ((size-Node g.row.N.Denot) l.receiver.now) ((size-Node g.row.N.Denot) l.index.now) + 2

abbrev pub decreases-renamed_chain : goal.decreases-renamed_chain
decreases-renamed_chain g l = 4 * max ((size-Node g.row.N.Denot) l.first.now) (most (λ p. (size-Node g.row.N.Denot) p.1) l.rest.now) + 2

abbrev pub decreases-renamed_comparison : goal.decreases-renamed_comparison
decreases-renamed_comparison g l = 4 * max ((size-Node g.row.N.Denot) l.left.now) ((size-Node g.row.N.Denot) l.right.now) + 2

abbrev pub decreases-renamed_choice : goal.decreases-renamed_choice
decreases-renamed_choice g l = 4 * max ((size-Node g.row.N.Denot) l.test.now) (max ((size-Node g.row.N.Denot) l.when_true.now) ((size-Node g.row.N.Denot) l.when_false.now)) + 2

abbrev pub decreases-renamed_comprehension : goal.decreases-renamed_comprehension
decreases-renamed_comprehension g l = 4 * max ((size-Node g.row.N.Denot) l.element.now) (max ((size-Node g.row.N.Denot) l.iterable.now) (most (size-Node g.row.N.Denot) l.condition.now)) + 2
