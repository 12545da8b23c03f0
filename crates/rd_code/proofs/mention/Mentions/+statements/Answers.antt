use Rattle.std.proofs.Common.{◌≡◌, ◌<◌, ◌++◌, ◌∙◌, ap, length, arith}
use Rattle.rd_names.proofs.Walking.{goes_on, then_behind}
use Rattle.rd_code.specs.Mentions.{named_in, named_in_statement, named_in_block}
use Rattle.rd_code.proofs.Mentions.{behind, mentions_if}
use Rattle.rd_code.proofs.mention.Mentions.+statements.Goals as goal

pub block-loop-statement-preserved : goal.block-loop-statement-preserved
block-loop-statement-preserved t c =
    let lt : c.loop-statement.statement-index < length c.args.statements.now = omega arith in
    goes_on ◌++◌ behind named_in_statement c.args.statements.now c.loop-statement.statement-index c.statement-item.result c.loop-statement.self.all.items c.statement.new.self.all.items _ lt c.statement-item.is c.in_ok-statement.ensures
    c.loop-statement.invariant

pub branches-loop-branch-preserved : goal.branches-loop-branch-preserved
branches-loop-branch-preserved t c =
    let lt : c.loop-branch.branch-index < length c.args.branches.now = omega arith in
    let step : c.guarded.new.self.all.items ≡ c.loop-branch.self.all.items ++ (named_in c.branch-item.result.0 ++ named_in_block c.branch-item.result.1) = rw c.as_slice.ensures at c.in_ok-guarded.ensures in
    goes_on ◌++◌ behind (λ b. named_in b.0 ++ named_in_block b.1) c.args.branches.now c.loop-branch.branch-index c.branch-item.result c.loop-branch.self.all.items c.guarded.new.self.all.items _ lt c.branch-item.is step c.loop-branch.invariant

pub statement-returns-in_ok-branches-in-If : goal.statement-returns-in_ok-branches-in-If
statement-returns-in_ok-branches-in-If t c =
    then_behind ◌++◌ behind c.block.result c.args.self.now.all.items c.branches.new.self.all.items c.block.new.self.all.items _ (named_in_block c.in-If.otherwise) _ (rw c.as_slice-in-If-2.ensures at c.block.ensures)
    (rw c.as_slice-in-If.ensures at c.in_ok-branches-in-If.ensures) (ap named_in_statement c.in-If.is ∙ mentions_if c.in-If.branches c.in-If.otherwise)
