use Rattle.std.proofs.Common.{◌≡◌, ℕ, List, ◌+◌, ◌*◌, ◌++◌, max, drop, map}
use denote.Param.Weighed.{most}
use Rattle.rd_value.specs.Canon.{joined}
use Rattle.rd_tree.specs.declared.tree.Statement.{Statement, size-Statement}
use Rattle.rd_structure.specs.Structure.{statement_bytes, branch_bytes}
use Rattle.rd_structure.proofs.statement.+statements.Given as goal

abbrev size : Statement (List ℕ) → ℕ
size = size-Statement (List ℕ)

-- a list is walked before its statements, and the parts of a statement before lists
abbrev pub decreases-push_statement : goal.decreases-push_statement
decreases-push_statement l = 6 * size l.statement.now

abbrev pub decreases-push_block : goal.decreases-push_block
decreases-push_block l = 6 * most size l.statements.now + 1

abbrev pub decreases-push_for : goal.decreases-push_for
decreases-push_for l = 6 * most size l.body.now + 2

abbrev pub decreases-push_while : goal.decreases-push_while
decreases-push_while l = 6 * most size l.body.now + 2

abbrev pub decreases-push_branch : goal.decreases-push_branch
decreases-push_branch l = 6 * most size l.body.now + 2

abbrev pub decreases-push_branches : goal.decreases-push_branches
decreases-push_branches l = 6 * most (λ b. most size b.1) l.branches.now + 3

abbrev pub decreases-push_if : goal.decreases-push_if
decreases-push_if l = 6 * max (most (λ b. most size b.1) l.branches.now) (most size l.otherwise.now) + 4

abbrev pub invariant-push_block-loop-statement : goal.invariant-push_block-loop-statement
invariant-push_block-loop-statement l = l.out.items ++ joined (map statement_bytes (drop l.statement-index l.statements)) ≡ (l.initial.out.items ++ joined (map statement_bytes l.statements))

abbrev pub invariant-push_branches-loop-test : goal.invariant-push_branches-loop-test
invariant-push_branches-loop-test l =
    l.out.items ++ joined (map (λ b. branch_bytes (b.0, map statement_bytes b.1)) (drop l.test-index l.branches)) ≡
    (l.initial.out.items ++ joined (map (λ b. branch_bytes (b.0, map statement_bytes b.1)) l.branches))
