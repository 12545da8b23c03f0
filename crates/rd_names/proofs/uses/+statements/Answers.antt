use Rattle.std.proofs.Common.{◌++◌, ◌∙◌, ap}
use Rattle.rd_names.specs.Names.{told_by, is_among, class_refusals, statement_refusals}
use Rattle.rd_names.proofs.Walking.{behind, then_behind, alone, nothing}
use Rattle.rd_names.proofs.UseLayers.{statement_assign, statement_expr, statement_return, statement_pass, statement_for, statement_while, statement_if, statement_raise}
use Rattle.rd_names.proofs.uses.+statements.Goals as goal

pub judge_statement-returns-in_ok-judge_branches-in-If-clause-all : goal.judge_statement-returns-in_ok-judge_branches-in-If-clause-all
judge_statement-returns-in_ok-judge_branches-in-If-clause-all t c =
    let f = told_by c.args.known.now in
    let l = is_among c.args.locals.now.keys in
    then_behind ◌++◌ behind c.judge_body.result c.args.all.now.items c.judge_branches.new.all.items c.judge_body.new.all.items _ _ _
    (rw (c.in_ok-judge_branches-in-If.ensures.locals, c.as_slice-in-If-2.ensures) at c.judge_body.ensures.all) (rw c.as_slice-in-If.ensures at c.in_ok-judge_branches-in-If.ensures.all)
    (ap (statement_refusals f l) c.in-If.is ∙ statement_if f l c.in-If.branches c.in-If.otherwise)

pub judge_statement-returns-in_ok-expect-in-Raise-clause-all : goal.judge_statement-returns-in_ok-expect-in-Raise-clause-all
judge_statement-returns-in_ok-expect-in-Raise-clause-all t c =
    let f = told_by c.args.known.now in
    let l = is_among c.args.locals.now.keys in
    then_behind ◌++◌ behind c.judge_node-in-Raise.result c.args.all.now.items c.expect.new.all.items c.judge_node-in-Raise.new.all.items (class_refusals (is_among c.args.locals.now.keys c.in-Raise.class.text) c.in-Raise.class) _ _ c.judge_node-in-Raise.ensures.all (rw c.is_raisable.ensures at c.in_ok-expect-in-Raise.ensures)
    (ap (statement_refusals f l) c.in-Raise.is ∙ statement_raise f l c.in-Raise.class c.in-Raise.text)

pub judge_statement-returns-in-Assign-clause-all : goal.judge_statement-returns-in-Assign-clause-all
judge_statement-returns-in-Assign-clause-all t c =
    let f = told_by c.args.known.now in
    let l = is_among c.args.locals.now.keys in
    alone c.judge_node.result c.args.all.now.items c.judge_node.new.all.items _ _ c.judge_node.ensures.all (ap (statement_refusals f l) c.in-Assign.is ∙ statement_assign f l c.in-Assign.name c.in-Assign.value)

pub judge_statement-returns-in-Expr-clause-all : goal.judge_statement-returns-in-Expr-clause-all
judge_statement-returns-in-Expr-clause-all t c =
    let f = told_by c.args.known.now in
    let l = is_among c.args.locals.now.keys in
    alone c.judge_node-in-Expr.result c.args.all.now.items c.judge_node-in-Expr.new.all.items _ _ c.judge_node-in-Expr.ensures.all (ap (statement_refusals f l) c.in-Expr.is ∙ statement_expr f l c.in-Expr.value)

pub judge_statement-returns-in-Return-clause-all : goal.judge_statement-returns-in-Return-clause-all
judge_statement-returns-in-Return-clause-all t c =
    let f = told_by c.args.known.now in
    let l = is_among c.args.locals.now.keys in
    alone c.judge_returned.result c.args.all.now.items c.judge_returned.new.all.items _ _ c.judge_returned.ensures.all (ap (statement_refusals f l) c.in-Return.is ∙ statement_return f l c.in-Return.value)

pub judge_statement-returns-in-For-clause-all : goal.judge_statement-returns-in-For-clause-all
judge_statement-returns-in-For-clause-all t c =
    let f = told_by c.args.known.now in
    let l = is_among c.args.locals.now.keys in
    alone c.judge_guarded.result c.args.all.now.items c.judge_guarded.new.all.items _ _ (rw c.as_slice.ensures at c.judge_guarded.ensures.all) (ap (statement_refusals f l) c.in-For.is ∙ statement_for f l c.in-For.name c.in-For.iterable c.in-For.body)

pub judge_statement-returns-in-While-clause-all : goal.judge_statement-returns-in-While-clause-all
judge_statement-returns-in-While-clause-all t c =
    let f = told_by c.args.known.now in
    let l = is_among c.args.locals.now.keys in
    alone c.judge_guarded-in-While.result c.args.all.now.items c.judge_guarded-in-While.new.all.items _ _ (rw c.as_slice-in-While.ensures at c.judge_guarded-in-While.ensures.all) (ap (statement_refusals f l) c.in-While.is ∙ statement_while f l c.in-While.test c.in-While.body)

pub judge_statement-returns-in-Pass-clause-all : goal.judge_statement-returns-in-Pass-clause-all
judge_statement-returns-in-Pass-clause-all t c =
    let f = told_by c.args.known.now in
    let l = is_among c.args.locals.now.keys in
    nothing c.args.all.now.items _ (ap (statement_refusals f l) c.in-Pass.is ∙ statement_pass f l)
