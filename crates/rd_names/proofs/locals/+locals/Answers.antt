use Rattle.std.proofs.Common.{◌≡◌, ◌<◌, ◌∙◌, ap, sym, length, arith, [], ◌∷◌}
use Rattle.rd_names.specs.Names.{with_name, with_names}
use Rattle.rd_names.specs.Uses.{assigned, assigned_in}
use Rattle.rd_names.proofs.NameSets.{with_both}
use Rattle.rd_names.proofs.Walking.{goes_on, then_behind}
use Rattle.rd_names.proofs.LocalLayers.{assigned_assign, assigned_for, assigned_if}
use Rattle.rd_names.proofs.locals.+locals.Goals as goal

pub add_assigned-loop-statement-preserved : goal.add_assigned-loop-statement-preserved
add_assigned-loop-statement-preserved t c =
    let lt : c.loop-statement.statement-index < length c.args.body.now = omega arith in
    goes_on with_names with_both assigned c.args.body.now c.loop-statement.statement-index c.statement-item.result c.loop-statement.locals.keys c.add_of_statement.new.locals.keys _ lt c.statement-item.is c.in_ok-add_of_statement.ensures c.loop-statement.invariant

pub add_of_branches-loop-branch-preserved : goal.add_of_branches-loop-branch-preserved
add_of_branches-loop-branch-preserved t c =
    let lt : c.loop-branch.branch-index < length c.args.branches.now = omega arith in
    let step : c.add_assigned.new.locals.keys ≡ with_names c.loop-branch.locals.keys (assigned_in c.branch-item.result.1) = rw c.as_slice.ensures at c.in_ok-add_assigned.ensures in
    goes_on with_names with_both (λ b. assigned_in b.1) c.args.branches.now c.loop-branch.branch-index c.branch-item.result c.loop-branch.locals.keys c.add_assigned.new.locals.keys _ lt c.branch-item.is step c.loop-branch.invariant

pub add_of_statement-returns-in_ok-insert-in-Assign : goal.add_of_statement-returns-in_ok-insert-in-Assign
add_of_statement-returns-in_ok-insert-in-Assign t c =
    let put : c.insert.new.self.keys ≡ with_name c.args.locals.now.keys c.in-Assign.name.text = rw c.in_ok-copy-in-Assign.ensures at c.in_ok-insert-in-Assign.ensures.keys in
    put ∙ ap (λ names. with_names c.args.locals.now.keys names) (sym (ap assigned c.in-Assign.is ∙ assigned_assign c.in-Assign.name c.in-Assign.value))

pub add_of_statement-returns-in_ok-insert-in-For : goal.add_of_statement-returns-in_ok-insert-in-For
add_of_statement-returns-in_ok-insert-in-For t c =
    let put : c.insert-in-For.new.self.keys ≡ with_name c.args.locals.now.keys c.in-For.name.text = rw c.in_ok-copy-in-For.ensures at c.in_ok-insert-in-For.ensures.keys in
    then_behind with_names with_both c.add_assigned.result c.args.locals.now.keys c.insert-in-For.new.self.keys c.add_assigned.new.locals.keys (c.in-For.name.text ∷ []) (assigned_in c.in-For.body) _ (rw c.as_slice.ensures at c.add_assigned.ensures) put
    (ap assigned c.in-For.is ∙ assigned_for c.in-For.name c.in-For.iterable c.in-For.body)

pub add_of_statement-returns-in_ok-add_of_branches-in-If : goal.add_of_statement-returns-in_ok-add_of_branches-in-If
add_of_statement-returns-in_ok-add_of_branches-in-If t c =
    then_behind with_names with_both c.add_assigned-in-If.result c.args.locals.now.keys c.add_of_branches.new.locals.keys c.add_assigned-in-If.new.locals.keys _ (assigned_in c.in-If.otherwise) _ (rw c.as_slice-in-If-2.ensures at c.add_assigned-in-If.ensures)
    (rw c.as_slice-in-If.ensures at c.in_ok-add_of_branches-in-If.ensures) (ap assigned c.in-If.is ∙ assigned_if c.in-If.branches c.in-If.otherwise)
