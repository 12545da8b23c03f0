use Rattle.std.proofs.Common.{◌≡◌, ◌+◌, ◌*◌, ◌++◌, drop, map}
use denote.Param.Weighed.{most}
use Rattle.rd_tree.specs.declared.tree.Name.{Name}
use Rattle.rd_tree.specs.declared.tree.Statement.{size-Statement}
use Rattle.rd_names.specs.Uses.{joined}
use Rattle.rd_names.specs.Names.{told_by, is_among, node_refusals, statement_refusals}
use Rattle.rd_names.proofs.uses.+statements.Given as goal

-- a block is walked before its statements, and the branches of an `if` before their blocks
abbrev pub decreases-judge_statement : goal.decreases-judge_statement
decreases-judge_statement l = 4 * size-Statement Name l.statement.now

abbrev pub decreases-judge_body : goal.decreases-judge_body
decreases-judge_body l = 4 * most (size-Statement Name) l.body.now + 1

abbrev pub decreases-judge_guarded : goal.decreases-judge_guarded
decreases-judge_guarded l = 4 * most (size-Statement Name) l.body.now + 2

abbrev pub decreases-judge_branches : goal.decreases-judge_branches
decreases-judge_branches l = 4 * most (λ b. most (size-Statement Name) b.1) l.branches.now + 3

abbrev pub invariant-judge_body-loop-statement : goal.invariant-judge_body-loop-statement
invariant-judge_body-loop-statement l = (l.locals.keys ≡ l.fn.locals.keys) × (
    l.all.items ++ joined (map (statement_refusals (told_by l.known) (is_among l.fn.locals.keys)) (drop l.statement-index l.body))
    ≡ l.fn.all.items ++ joined (map (statement_refusals (told_by l.known) (is_among l.fn.locals.keys)) l.body)
    )

abbrev pub invariant-judge_branches-loop-branch : goal.invariant-judge_branches-loop-branch
invariant-judge_branches-loop-branch l = (l.locals.keys ≡ l.fn.locals.keys) × (
    l.all.items
    ++ joined (map (λ b. node_refusals (told_by l.known) (is_among l.fn.locals.keys) b.0 ++ joined (map (statement_refusals (told_by l.known) (is_among l.fn.locals.keys)) b.1)) (drop l.branch-index l.branches))
    ≡ l.fn.all.items
    ++ joined (map (λ b. node_refusals (told_by l.known) (is_among l.fn.locals.keys) b.0 ++ joined (map (statement_refusals (told_by l.known) (is_among l.fn.locals.keys)) b.1)) l.branches)
    )
