use Rattle.std.proofs.Common.{arith}
use Rattle.rd_code.specs.Renaming.{renamed_part, renamed_statement}
use Rattle.rd_tree.specs.declared.tree.Statement.{size-Statement}
use Rattle.rd_code.proofs.RenamedTrees.{block_within, branch_renamed, branches_fall, for_renamed, if_renamed, item_within, otherwise_falls, walked_on, walked_whole, while_renamed}
use Rattle.rd_code.proofs.renaming.statement.+statements.Goals as goal

pub renamed_statement-returns-in_ok-renamed_block-in-If : goal.renamed_statement-returns-in_ok-renamed_block-in-If
renamed_statement-returns-in_ok-renamed_block-in-If g t c =
    if_renamed (g.R.Renaming.renamed c.args.by.now) c.args.statement.now c.in-If.branches c.as_slice-in-If.result.now c.in-If.otherwise c.as_slice-in-If-2.result.now c.in_ok-renamed_branches-in-If.field-0 c.in_ok-renamed_block-in-If.field-0
    c.in-If.is c.as_slice-in-If.ensures c.as_slice-in-If-2.ensures c.in_ok-renamed_branches-in-If.ensures c.in_ok-renamed_block-in-If.ensures

pub renamed_statement-returns-in_ok-renamed_node-in-For : goal.renamed_statement-returns-in_ok-renamed_node-in-For
renamed_statement-returns-in_ok-renamed_node-in-For g t c =
    for_renamed (g.R.Renaming.renamed c.args.by.now) c.args.statement.now c.in-For.name c.in-For.iterable c.in-For.body c.as_slice.result.now c.in_ok-name-in-For.field-0 c.in_ok-renamed_node-in-For.field-0 c.in_ok-renamed_block-in-For.field-0
    c.in-For.is c.as_slice.ensures c.in_ok-name-in-For.ensures c.in_ok-renamed_node-in-For.ensures c.in_ok-renamed_block-in-For.ensures

pub renamed_statement-returns-in_ok-renamed_node-in-While : goal.renamed_statement-returns-in_ok-renamed_node-in-While
renamed_statement-returns-in_ok-renamed_node-in-While g t c =
    while_renamed (g.R.Renaming.renamed c.args.by.now) c.args.statement.now c.in-While.test c.in-While.body c.as_slice-in-While.result.now c.in_ok-renamed_node-in-While.field-0 c.in_ok-renamed_block-in-While.field-0
    c.in-While.is c.as_slice-in-While.ensures c.in_ok-renamed_node-in-While.ensures c.in_ok-renamed_block-in-While.ensures

pub renamed_statement-renamed_branches-requires : goal.renamed_statement-renamed_branches-requires
renamed_statement-renamed_branches-requires g t c κs within =
    let falls = branches_fall c.args.statement.now c.in-If.branches c.as_slice-in-If.result.now c.in-If.otherwise c.in-If.is c.as_slice-in-If.ensures in
    (omega (arith, c.decreases, falls), within)

pub renamed_statement-renamed_block-requires-in-If : goal.renamed_statement-renamed_block-requires-in-If
renamed_statement-renamed_block-requires-in-If g t c κs within =
    let falls = otherwise_falls c.args.statement.now c.in-If.branches c.in-If.otherwise c.as_slice-in-If-2.result.now c.in-If.is c.as_slice-in-If-2.ensures in
    (omega (arith, c.decreases, falls), within)

pub renamed_block-renamed_statement-requires : goal.renamed_block-renamed_statement-requires
renamed_block-renamed_statement-requires g t c κs within =
    let inside = item_within (size-Statement g.row.N.Denot) c.args.statements.now c.loop-statement.statement-index c.statement-item.result c.loop-statement-test.true c.statement-item.is in
    (omega (arith, c.decreases, inside), within)

pub renamed_block-loop-statement-preserved : goal.renamed_block-loop-statement-preserved
renamed_block-loop-statement-preserved g t c =
    walked_on (renamed_statement (g.R.Renaming.renamed c.args.by.now)) c.args.statements.now c.loop-statement.statement-index c.statement-item.result c.in_ok-renamed_statement.field-0 c.loop-statement.all.items c.push.new.self.items
    c.in_ok-push.ensures.items c.loop-statement.invariant c.loop-statement-test.true c.statement-item.is c.in_ok-renamed_statement.ensures

pub renamed_block-returns : goal.renamed_block-returns
renamed_block-returns g t c =
    walked_whole (renamed_statement (g.R.Renaming.renamed c.args.by.now)) c.args.statements.now c.loop-statement.statement-index c.loop-statement.all.items c.from_vec.result c.from_vec.ensures c.loop-statement.invariant c.loop-statement-test.false

pub renamed_branches-renamed_block-requires : goal.renamed_branches-renamed_block-requires
renamed_branches-renamed_block-requires g t c κs within =
    let inside = block_within (size-Statement g.row.N.Denot) c.args.branches.now c.loop-branch.branch-index c.branch-item.result c.as_slice.result.now c.loop-branch-test.true c.branch-item.is c.as_slice.ensures in
    (omega (arith, c.decreases, inside), within)

pub renamed_branches-loop-branch-preserved : goal.renamed_branches-loop-branch-preserved
renamed_branches-loop-branch-preserved g t c =
    let r = g.R.Renaming.renamed c.args.by.now in
    walked_on (renamed_part r) c.args.branches.now c.loop-branch.branch-index c.branch-item.result (c.in_ok-renamed_node.field-0, c.in_ok-renamed_block.field-0) c.loop-branch.all.items c.push.new.self.items
    c.in_ok-push.ensures.items c.loop-branch.invariant c.loop-branch-test.true c.branch-item.is
    (branch_renamed r c.branch-item.result c.as_slice.result.now c.in_ok-renamed_node.field-0 c.in_ok-renamed_block.field-0 c.as_slice.ensures c.in_ok-renamed_node.ensures c.in_ok-renamed_block.ensures)

pub renamed_branches-returns : goal.renamed_branches-returns
renamed_branches-returns g t c =
    walked_whole (renamed_part (g.R.Renaming.renamed c.args.by.now)) c.args.branches.now c.loop-branch.branch-index c.loop-branch.all.items c.from_vec.result c.from_vec.ensures c.loop-branch.invariant c.loop-branch-test.false
