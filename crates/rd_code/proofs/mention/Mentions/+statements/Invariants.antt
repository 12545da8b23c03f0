use Rattle.std.proofs.Common.{◌≡◌, ℕ, List, ◌+◌, ◌*◌, ◌++◌, drop, map}
use denote.Param.Weighed.{most}
use Rattle.rd_names.specs.Uses.{joined}
use Rattle.rd_tree.specs.declared.tree.Statement.{size-Statement}
use Rattle.rd_code.specs.Mentions.{named_in, named_in_statement, named_in_block}
use Rattle.rd_code.proofs.mention.Mentions.+statements.Given as goal

-- a block is walked before its statements, and the branches of an `if` before their blocks
abbrev pub decreases-statement : goal.decreases-statement
decreases-statement l = 4 * size-Statement (List ℕ) l.statement.now

abbrev pub decreases-block : goal.decreases-block
decreases-block l = 4 * most (size-Statement (List ℕ)) l.statements.now + 1

abbrev pub decreases-guarded : goal.decreases-guarded
decreases-guarded l = 4 * most (size-Statement (List ℕ)) l.body.now + 2

abbrev pub decreases-branches : goal.decreases-branches
decreases-branches l = 4 * most (λ b. most (size-Statement (List ℕ)) b.1) l.branches.now + 3

abbrev pub invariant-block-loop-statement : goal.invariant-block-loop-statement
invariant-block-loop-statement l = l.self.all.items ++ (joined (map named_in_statement (drop l.statement-index l.statements))) ≡ l.fn.self.all.items ++ (joined (map named_in_statement l.statements))

abbrev pub invariant-branches-loop-branch : goal.invariant-branches-loop-branch
invariant-branches-loop-branch l =
    l.self.all.items ++ (joined (map (λ b. named_in b.0 ++ named_in_block b.1) (drop l.branch-index l.branches))) ≡ l.fn.self.all.items ++ (joined (map (λ b. named_in b.0 ++ named_in_block b.1) l.branches))
