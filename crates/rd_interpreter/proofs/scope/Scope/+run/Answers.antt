use Rattle.std.proofs.Common.{rules, ◌≡◌, true, Ok, sym, ap, ◌∙◌, subst, arith}
use Rattle.std.proofs.lemmas.Result.{err_from_is_err_and}
use Rattle.rd_tree.specs.declared.tree.Node.TheVariants as variant
use Rattle.rd_tree.specs.declared.tree.Statement.TheVariants as variant_statement
use Rattle.rd_interpreter.specs.Body.{too_many_calls, tested}
use Rattle.rd_interpreter.specs.Running.{Gives, Answers, all_done, meant, state}
use Rattle.rd_interpreter.specs.Turns.{left}
use Rattle.rd_interpreter.proofs.Calls.{none_there, bound_fails, none_left, one_left, raised_answer, fails_answer}
use Rattle.rd_interpreter.proofs.Nodes.{at_Chain, formed_plain, on_Dict, on_Call, on_Comp, on_If, on_For}
use Rattle.rd_interpreter.proofs.Operands.{test_fails, turn_fails, turn_returns}
use Rattle.rd_interpreter.proofs.scope.Scope.+run.Goals as goal

pub node-returns-in_ok-spend-in-Call-clause-gives : goal.node-returns-in_ok-spend-in-Call-clause-gives
node-returns-in_ok-spend-in-Call-clause-gives t c =
    let steps = c.in_ok-spend-in-Call.ensures.steps in
    let is = c.in-Call.is ∙ ap (λ ps. variant.Call c.in-Call.name ps c.in-Call.keywords) (sym c.as_slice.ensures) ∙ ap (variant.Call c.in-Call.name c.as_slice.result.now) (sym c.as_slice-in-Call.ensures) in
    subst (λ r. Gives c.call.result (state c.call.new.frame) r)
    (sym (on_Call c.args.self.now c.args.node.now (state c.args.frame.now) (state c.spend-in-Call.new.self) steps.0 steps.1 c.in-Call.name c.as_slice.result.now c.as_slice-in-Call.result.now is)) c.call.ensures.gives

pub node-returns-in_ok-spend-in-Dict-clause-gives : goal.node-returns-in_ok-spend-in-Dict-clause-gives
node-returns-in_ok-spend-in-Dict-clause-gives t c =
    let steps = c.in_ok-spend-in-Dict.ensures.steps in
    let is = c.in-Dict.is ∙ ap variant.Dict (sym c.as_slice-in-Dict.ensures) in
    subst (λ r. Gives c.dict.result (state c.dict.new.frame) r)
    (sym (on_Dict c.args.self.now c.args.node.now (state c.args.frame.now) (state c.spend-in-Dict.new.self) steps.0 steps.1 c.as_slice-in-Dict.result.now is)) c.dict.ensures.gives

pub node-returns-in_ok-spend-in-Comp-clause-gives : goal.node-returns-in_ok-spend-in-Comp-clause-gives
node-returns-in_ok-spend-in-Comp-clause-gives t c =
    let steps = c.in_ok-spend-in-Comp.ensures.steps in
    let is =
    c.in-Comp.is ∙ ap (λ part. variant.Comp part c.in-Comp.name c.in-Comp.iterable c.in-Comp.condition) (sym c.get-in-Comp.ensures)
    ∙ ap (λ iterable. variant.Comp c.get-in-Comp.result.now c.in-Comp.name iterable c.in-Comp.condition) (sym c.get-in-Comp-2.ensures)
    ∙ ap (variant.Comp c.get-in-Comp.result.now c.in-Comp.name c.get-in-Comp-2.result.now) (sym c.as_slice-conditions.ensures) in
    subst (λ r. Gives c.comprehended.result (state c.comprehended.new.frame) r)
    (sym (on_Comp c.args.self.now c.args.node.now (state c.args.frame.now) (state c.spend-in-Comp.new.self) steps.0 steps.1 c.get-in-Comp.result.now c.in-Comp.name c.get-in-Comp-2.result.now c.as_slice-conditions.result.now is)) c.comprehended.ensures.gives

pub node-returns-in-Chain-clause-gives : goal.node-returns-in-Chain-clause-gives
node-returns-in-Chain-clause-gives t c =
    let is = c.in-Chain.is ∙ ap (λ first. variant.Chain first c.in-Chain.rest) (sym c.get-in-Chain.ensures) ∙ ap (variant.Chain c.get-in-Chain.result.now) (sym c.as_slice-in-Chain.ensures) in
    subst (λ r. Gives c.chain.result (state c.chain.new.frame) r) (sym (at_Chain c.args.self.now c.args.node.now (state c.args.frame.now) _ _ is)) c.chain.ensures.gives

pub opened-returns-in_default-clause-gives : goal.opened-returns-in_default-clause-gives
opened-returns-in_default-clause-gives t c =
    raised_answer c.too_many_calls.result too_many_calls _ c.too_many_calls.ensures
    (none_there c.args.self.now.helpers.now c.args.place c.args.positional c.args.keywords c.args.left c.args.self.now.spare (sym c.in_default.ensures))

pub opened-returns-in_err-arguments-clause-gives : goal.opened-returns-in_err-arguments-clause-gives
opened-returns-in_err-arguments-clause-gives t c =
    let p = err_from_is_err_and c.from_residual.result c.from_residual.ensures.1 in
    rw (p.1, p.2) (fails_answer c.in_err-arguments.field-0.0 _ _
    (bound_fails c.args.self.now.helpers.now c.args.place c.args.positional c.args.keywords c.args.left c.in-Some.routine.now (sym c.in-Some.ensures) c.args.self.now.spare) c.in_err-arguments.ensures)

pub opened-returns-then-self-eq0-clause-gives : goal.opened-returns-then-self-eq0-clause-gives
opened-returns-then-self-eq0-clause-gives t c =
    raised_answer c.too_many_calls-then-self-eq0.result too_many_calls _ c.too_many_calls-then-self-eq0.ensures
    (none_left c.args.self.now.helpers.now c.args.place c.args.positional c.args.keywords c.args.left c.in-Some.routine.now (sym c.in-Some.ensures) c.args.self.now.spare c.in_ok-arguments.arguments
    (omega (arith, c.if-self-eq0.true)) c.in_ok-arguments.ensures)

pub opened-returns-clause-gives : goal.opened-returns-clause-gives
opened-returns-clause-gives t c =
    subst (λ r. Answers c.run.result r)
    (sym (one_left c.args.self.now.helpers.now c.args.place c.args.positional c.args.keywords c.args.left c.in-Some.routine.now (sym c.in-Some.ensures) c.args.self.now.spare c.in_ok-arguments.arguments
    (omega (arith, c.if-self-eq0.false)) c.in_ok-arguments.ensures)) c.run.ensures.gives

pub repeat-returns-in_err-holds-clause-gives : goal.repeat-returns-in_err-holds-clause-gives
repeat-returns-in_err-holds-clause-gives t c =
    let p = err_from_is_err_and c.from_residual.result c.from_residual.ensures.1 in
    rw (p.1, p.2) (test_fails (tested (meant c.args.self.now c.args.test.now)) (all_done c.args.self.now c.args.body.now) (state c.loop-turns.frame) c.loop-turns.turns (omega (arith, c.loop-turns-test.true)) _ c.loop-turns.invariant.0 c.in_err-holds.field-0.0 _ c.in_err-holds.ensures.gives)

pub repeat-returns-in_err-value-clause-gives : goal.repeat-returns-in_err-value-clause-gives
repeat-returns-in_err-value-clause-gives t c =
    let p = err_from_is_err_and c.from_residual-in_err-value.result c.from_residual-in_err-value.ensures.1 in
    let holds : tested (meant c.args.self.now c.args.test.now) (state c.loop-turns.frame) ≡ Ok (true, state c.holds.new.frame) = search rules in
    rw (p.1, p.2) (turn_fails (tested (meant c.args.self.now c.args.test.now)) (all_done c.args.self.now c.args.body.now) (state c.loop-turns.frame) c.loop-turns.turns (omega (arith, c.loop-turns-test.true)) _ c.loop-turns.invariant.0 _ holds c.in_err-value.field-0.0 _ c.in_err-value.ensures.gives)

pub repeat-returns-in-Some-clause-gives : goal.repeat-returns-in-Some-clause-gives
repeat-returns-in-Some-clause-gives t c =
    let holds : tested (meant c.args.self.now c.args.test.now) (state c.loop-turns.frame) ≡ Ok (true, state c.holds.new.frame) = search rules in
    turn_returns (tested (meant c.args.self.now c.args.test.now)) (all_done c.args.self.now c.args.body.now) (state c.loop-turns.frame) c.loop-turns.turns (omega (arith, c.loop-turns-test.true)) _ c.loop-turns.invariant.0 _ holds
    c.in-Some.value (state c.block.new.frame) (c.in_ok-value.ensures.gives ∙ ap (λ o. Ok (o, state c.block.new.frame)) c.in-Some.is)

pub statement-returns-in-If-clause-gives : goal.statement-returns-in-If-clause-gives
statement-returns-in-If-clause-gives t c =
    let steps = c.in_ok-spend.ensures.steps in
    let is = c.in-If.is ∙ ap (λ bs. variant_statement.If bs c.in-If.otherwise) (sym c.as_slice-in-If.ensures) ∙ ap (variant_statement.If c.as_slice-in-If.result.now) (sym c.as_slice-in-If-2.ensures) in
    subst (λ r. Gives c.branches.result (state c.branches.new.frame) r)
    (sym (on_If c.args.self.now c.args.statement.now (state c.args.frame.now) (state c.spend.new.self) steps.0 steps.1 c.as_slice-in-If.result.now c.as_slice-in-If-2.result.now is)) c.branches.ensures.gives

pub statement-returns-in_ok-items-in-For-clause-gives : goal.statement-returns-in_ok-items-in-For-clause-gives
statement-returns-in_ok-items-in-For-clause-gives t c =
    let steps = c.in_ok-spend.ensures.steps in
    let is = c.in-For.is ∙ ap (variant_statement.For c.in-For.name c.in-For.iterable) (sym c.as_slice.ensures) in
    subst (λ r. Gives c.for_each.result (state c.for_each.new.frame) r)
    (sym (on_For c.args.self.now c.args.statement.now (state c.args.frame.now) (state c.spend.new.self) steps.0 steps.1 c.in-For.name c.in-For.iterable c.as_slice.result.now is (left c.in_ok-items-in-For.items) (state c.iterable.new.frame) c.in_ok-items-in-For.ensures.gives)) c.for_each.ensures.gives

-- ---- calls by their form

pub call-returns-in-Plain-clause-gives : goal.call-returns-in-Plain-clause-gives
call-returns-in-Plain-clause-gives t c =
    let read = sym (rw c.special.ensures at c.form_of.ensures) in
    subst (λ r. Gives c.plain_call.result (state c.plain_call.new.frame) r) (sym (formed_plain c.args.self.now c.args.slot c.args.positional.now c.args.keywords.now c.form_of.result (state c.args.frame.now) read c.in-Plain.is)) c.plain_call.ensures.gives
