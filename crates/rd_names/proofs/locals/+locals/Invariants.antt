use Rattle.std.proofs.Common.{◌≡◌, ◌+◌, ◌*◌, drop, map}
use denote.Param.Weighed.{most}
use Rattle.rd_tree.specs.declared.tree.Name.{Name}
use Rattle.rd_tree.specs.declared.tree.Statement.{size-Statement}
use Rattle.rd_names.specs.Names.{with_names}
use Rattle.rd_names.specs.Uses.{joined, assigned, assigned_in}
use Rattle.rd_names.proofs.locals.+locals.Given as goal

-- a block is walked before its statements, and the branches of an `if` before their blocks
abbrev pub decreases-add_of_statement : goal.decreases-add_of_statement
decreases-add_of_statement l = 3 * size-Statement Name l.statement.now

abbrev pub decreases-add_assigned : goal.decreases-add_assigned
decreases-add_assigned l = 3 * most (size-Statement Name) l.body.now + 1

abbrev pub decreases-add_of_branches : goal.decreases-add_of_branches
decreases-add_of_branches l = 3 * most (λ b. most (size-Statement Name) b.1) l.branches.now + 2

abbrev pub invariant-add_assigned-loop-statement : goal.invariant-add_assigned-loop-statement
invariant-add_assigned-loop-statement l = with_names l.locals.keys (joined (map assigned (drop l.statement-index l.body))) ≡ with_names l.fn.locals.keys (joined (map assigned l.body))

abbrev pub invariant-add_of_branches-loop-branch : goal.invariant-add_of_branches-loop-branch
invariant-add_of_branches-loop-branch l =
    with_names l.locals.keys (joined (map (λ b. assigned_in b.1) (drop l.branch-index l.branches))) ≡ with_names l.fn.locals.keys (joined (map (λ b. assigned_in b.1) l.branches))
