use Rattle.std.proofs.Common.{◌≡◌, ◌≤◌, ◌+◌, ◌*◌, ◌++◌, map, drop, Ok, Some}
use Rattle.rd_interpreter.specs.Body as spec
use Rattle.rd_interpreter.specs.State.{and_then, all, in_order, each, collected, loop, turns}
use Rattle.rd_interpreter.specs.Running.{all_done, branch_in, done, function_in, meant, own, put, state}
use Rattle.rd_interpreter.specs.Turns.{left}
use Rattle.rd_interpreter.proofs.scope.Scope.+run.Given as goal

-- Each expression and each statement takes a step; what it calls before that has a smaller number.

abbrev pub decreases-block : goal.decreases-block
decreases-block l = 9 * l.frame.now.left + 2

abbrev pub decreases-branches : goal.decreases-branches
decreases-branches l = 9 * l.frame.now.left + 4

abbrev pub decreases-call : goal.decreases-call
decreases-call l = 9 * l.frame.now.left + 8

abbrev pub decreases-plain_call : goal.decreases-plain_call
decreases-plain_call l = 9 * l.frame.now.left + 7

abbrev pub decreases-called : goal.decreases-called
decreases-called l = 9 * l.frame.now.left + 6

abbrev pub decreases-chain : goal.decreases-chain
decreases-chain l = 9 * l.frame.now.left

abbrev pub decreases-choice : goal.decreases-choice
decreases-choice l = 9 * l.frame.now.left + 3

abbrev pub decreases-comparison : goal.decreases-comparison
decreases-comparison l = 9 * l.frame.now.left + 2

abbrev pub decreases-comprehension : goal.decreases-comprehension
decreases-comprehension l = 9 * l.frame.now.left + 6

abbrev pub decreases-condition : goal.decreases-condition
decreases-condition l = 9 * l.frame.now.left + 3

abbrev pub decreases-element : goal.decreases-element
decreases-element l = 9 * l.frame.now.left + 4

abbrev pub decreases-elements : goal.decreases-elements
decreases-elements l = 9 * l.frame.now.left + 5

abbrev pub decreases-for_each : goal.decreases-for_each
decreases-for_each l = 9 * l.frame.now.left + 3

abbrev pub decreases-helper : goal.decreases-helper
decreases-helper l = 9 * l.frame.now.left + 5

abbrev pub decreases-holds : goal.decreases-holds
decreases-holds l = 9 * l.frame.now.left + 2

abbrev pub decreases-index : goal.decreases-index
decreases-index l = 9 * l.frame.now.left + 2

abbrev pub decreases-inversion : goal.decreases-inversion
decreases-inversion l = 9 * l.frame.now.left + 3

abbrev pub decreases-keyword : goal.decreases-keyword
decreases-keyword l = 9 * l.frame.now.left + 2

abbrev pub decreases-keywords : goal.decreases-keywords
decreases-keywords l = 9 * l.frame.now.left + 3

abbrev pub decreases-links : goal.decreases-links
decreases-links l = 9 * l.frame.now.left + 2

abbrev pub decreases-method : goal.decreases-method
decreases-method l = 9 * l.frame.now.left + 3

abbrev pub decreases-negation : goal.decreases-negation
decreases-negation l = 9 * l.frame.now.left + 2

abbrev pub decreases-node : goal.decreases-node
decreases-node l = 9 * l.frame.now.left + 1

abbrev pub decreases-nodes : goal.decreases-nodes
decreases-nodes l = 9 * l.frame.now.left + 2

abbrev pub decreases-operands : goal.decreases-operands
decreases-operands l = 9 * l.frame.now.left + 0

abbrev pub decreases-pair : goal.decreases-pair
decreases-pair l = 9 * l.frame.now.left + 2

abbrev pub decreases-pairs : goal.decreases-pairs
decreases-pairs l = 9 * l.frame.now.left + 3

abbrev pub decreases-repeat : goal.decreases-repeat
decreases-repeat l = 9 * l.frame.now.left + 4

abbrev pub decreases-run : goal.decreases-run
decreases-run l = 9 * l.left + 3

abbrev pub decreases-statement : goal.decreases-statement
decreases-statement l = 9 * l.frame.now.left + 1

abbrev pub decreases-until : goal.decreases-until
decreases-until l = 9 * l.frame.now.left + 2

abbrev pub invariant-block-loop-statement : goal.invariant-block-loop-statement
invariant-block-loop-statement l =
    (in_order (map (done l.self) (drop l.statement-index l.block)) (state l.frame) ≡ in_order (map (done l.self) l.block) (state l.initial.frame))
    × (l.frame.left ≤ l.initial.frame.left)

abbrev pub invariant-branches-loop-test : goal.invariant-branches-loop-test
invariant-branches-loop-test l =
    (spec.branches (map (branch_in l.self) (map (λ b. (b.0, map (done l.self) b.1)) (drop l.test-index l.branches))) (all_done l.self l.otherwise) (state l.frame) ≡ spec.branches (map (branch_in l.self) (map (λ b. (b.0, map (done l.self) b.1)) l.branches)) (all_done l.self l.otherwise) (state l.initial.frame))
    × (l.frame.left ≤ l.initial.frame.left)

abbrev pub invariant-elements-loop-all : goal.invariant-elements-loop-all
invariant-elements-loop-all l =
    (and_then (collected (λ x t. spec.element (meant l.self l.element) (map (meant l.self) l.conditions) (put l.slot (Some x) t)) (left l.items) (state l.frame)) (λ es t. Ok (l.all ++ es, t)) ≡ collected (λ x t. spec.element (meant l.self l.element) (map (meant l.self) l.conditions) (put l.slot (Some x) t)) (left l.initial.items) (state l.initial.frame))
    × (l.frame.left ≤ l.initial.frame.left)

abbrev pub decreases-elements-loop-all : goal.decreases-elements-loop-all
decreases-elements-loop-all l = l.frame.left

abbrev pub invariant-for_each-loop-items : goal.invariant-for_each-loop-items
invariant-for_each-loop-items l =
    (each (λ x t. all_done l.self l.body (put l.slot (Some x) t)) (left l.items) (state l.frame) ≡ each (λ x t. all_done l.self l.body (put l.slot (Some x) t)) (left l.initial.items) (state l.initial.frame))
    × (l.frame.left ≤ l.initial.frame.left)

abbrev pub decreases-for_each-loop-items : goal.decreases-for_each-loop-items
decreases-for_each-loop-items l = l.frame.left

abbrev pub invariant-keywords-loop-keyword : goal.invariant-keywords-loop-keyword
invariant-keywords-loop-keyword l =
    (and_then (all (map (spec.keyword (function_in l.self)) (map (λ k. (k.0, meant l.self k.1)) (drop l.keyword-index l.keywords))) (state l.frame)) (λ ks t. Ok (l.all ++ ks, t)) ≡ all (map (spec.keyword (function_in l.self)) (map (λ k. (k.0, meant l.self k.1)) l.keywords)) (state l.initial.frame))
    × (l.frame.left ≤ l.initial.frame.left)

abbrev pub invariant-links-loop-operator : goal.invariant-links-loop-operator
invariant-links-loop-operator l =
    (spec.links own l.done (map (λ x. (x.0, meant l.self x.1)) (drop l.operator-index l.rest)) (state l.frame) ≡ spec.links own l.initial.done (map (λ x. (x.0, meant l.self x.1)) l.rest) (state l.initial.frame))
    × (l.frame.left ≤ l.initial.frame.left)

abbrev pub invariant-nodes-loop-node : goal.invariant-nodes-loop-node
invariant-nodes-loop-node l =
    (and_then (all (map (meant l.self) (drop l.node-index l.nodes)) (state l.frame)) (λ es t. Ok (l.all ++ es, t)) ≡ all (map (meant l.self) l.nodes) (state l.initial.frame))
    × (l.frame.left ≤ l.initial.frame.left)

abbrev pub invariant-pairs-loop-pair : goal.invariant-pairs-loop-pair
invariant-pairs-loop-pair l =
    (and_then (all (map spec.both (map (λ p. (meant l.self p.0, meant l.self p.1)) (drop l.pair-index l.pairs))) (state l.frame)) (λ ps t. Ok (l.all.items ++ ps, t)) ≡ all (map spec.both (map (λ p. (meant l.self p.0, meant l.self p.1)) l.pairs)) (state l.initial.frame))
    × (l.frame.left ≤ l.initial.frame.left)

abbrev pub invariant-repeat-loop-turns : goal.invariant-repeat-loop-turns
invariant-repeat-loop-turns l =
    (turns l.turns (spec.tested (meant l.self l.test)) (all_done l.self l.body) (state l.frame) ≡ loop (spec.tested (meant l.self l.test)) (all_done l.self l.body) (state l.initial.frame))
    × (l.frame.left ≤ l.initial.frame.left)

abbrev pub decreases-repeat-loop-turns : goal.decreases-repeat-loop-turns
decreases-repeat-loop-turns l = l.turns

abbrev pub invariant-until-loop-next : goal.invariant-until-loop-next
invariant-until-loop-next l =
    (spec.until l.stop l.done (map (meant l.self) (drop l.next-index l.more)) (state l.frame) ≡ spec.until l.stop l.initial.done (map (meant l.self) l.more) (state l.initial.frame))
    × (l.frame.left ≤ l.initial.frame.left)

abbrev pub decreases-path : goal.decreases-path
decreases-path l = 9 * l.frame.now.left + 2

abbrev pub decreases-iterable : goal.decreases-iterable
decreases-iterable l = 9 * l.frame.now.left + 2

abbrev pub decreases-opened : goal.decreases-opened
decreases-opened l = 9 * l.left + 4

abbrev pub decreases-dict : goal.decreases-dict
decreases-dict l = 9 * l.frame.now.left + 4

abbrev pub decreases-comprehended : goal.decreases-comprehended
decreases-comprehended l = 9 * l.frame.now.left + 7
