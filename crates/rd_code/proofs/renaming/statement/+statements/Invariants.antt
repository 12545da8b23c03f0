use Rattle.std.proofs.Common.{◌≡◌, ◌+◌, ◌*◌, map, take}
use denote.Param.Weighed.{most}
use Rattle.rd_tree.specs.declared.tree.Statement.{size-Statement}
use Rattle.rd_code.specs.Renaming.{renamed_part, renamed_statement}
use Rattle.rd_code.proofs.renaming.statement.+statements.Given as goal

abbrev pub invariant-renamed_block-loop-statement : goal.invariant-renamed_block-loop-statement
invariant-renamed_block-loop-statement g l = l.all.items ≡ map (renamed_statement (g.R.Renaming.renamed l.by)) (take l.statement-index l.statements)

abbrev pub invariant-renamed_branches-loop-branch : goal.invariant-renamed_branches-loop-branch
invariant-renamed_branches-loop-branch g l = l.all.items ≡ map (renamed_part (g.R.Renaming.renamed l.by)) (take l.branch-index l.branches)

-- blocks are walked before their statements, and branches before their blocks
abbrev pub decreases-renamed_statement : goal.decreases-renamed_statement
decreases-renamed_statement g l = 3 * size-Statement g.row.N.Denot l.statement.now

abbrev pub decreases-renamed_block : goal.decreases-renamed_block
decreases-renamed_block g l = 3 * most (size-Statement g.row.N.Denot) l.statements.now + 1

abbrev pub decreases-renamed_branches : goal.decreases-renamed_branches
decreases-renamed_branches g l = 3 * most (λ b. most (size-Statement g.row.N.Denot) b.1) l.branches.now + 2
