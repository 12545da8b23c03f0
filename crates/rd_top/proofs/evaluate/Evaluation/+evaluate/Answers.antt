use Rattle.std.proofs.Common.{sym, ℕ, List, Ok, Err, ap, subst, ◌∙◌, arith}
use Rattle.std.proofs.lemmas.Result.{err_from_is_err_and}
use Rattle.std.specs.Arc.{arc_value}
use Rattle.rd_value.specs.declared.value.FileValue.{FileValue}
use Rattle.rd_value.specs.declared.value.Datum.{Datum}
use Rattle.rd_value.specs.declared.failure.Outcome.TheVariants as outcome
use Rattle.rd_value.specs.declared.expr.Lazy.TheVariants as lazy
use Rattle.rd_top.specs.declared.evaluate.Gathered.{Gathered}
use Rattle.rd_top.specs.declared.evaluate.Gathered.TheVariants as gathered
use Rattle.rd_registry.specs.Fresh as fresh
use Rattle.rd_top.specs.Evaluating.{answer_of, answers_of, Evaluates, at_depth, arguments_out, parts_out, seconds_out, values_out}
use Rattle.rd_top.specs.Running.{own}
use Rattle.rd_top.proofs.Evaluated.{no_memory, after_all, after_failed, after_list, after_dict, after_op, arguments_both, arguments_left, arguments_right, enter_none, one_each, enter_bound, enter_unbound, body_fails, step_catch}
use Rattle.rd_top.proofs.Parts.{start, more, stopped, done}
use Rattle.rd_top.proofs.evaluate.Evaluation.+evaluate.Goals as goal

pub arguments-returns-in-Ok-keywords-clause-gives : goal.arguments-returns-in-Ok-keywords-clause-gives
arguments-returns-in-Ok-keywords-clause-gives t c =
    arguments_both c.args.self.now.tasks.now c.args.depth c.args.positional.now c.args.keywords.now c.args.met.now c.parts.new.met c.keywords.new.met c.in-Ok.values c.in-Ok-keywords.named c.paired.result c.in-Ok.ensures.gives c.in-Ok-keywords.ensures.gives c.paired.ensures

pub arguments-returns-in-Err-keywords-clause-gives : goal.arguments-returns-in-Err-keywords-clause-gives
arguments-returns-in-Err-keywords-clause-gives t c =
    arguments_right c.args.self.now.tasks.now c.args.depth c.args.positional.now c.args.keywords.now c.args.met.now c.parts.new.met c.keywords.new.met c.in-Ok.values c.in-Err-keywords.stop c.in-Ok.ensures.gives c.in-Err-keywords.ensures.gives

pub arguments-returns-in-Err-clause-gives : goal.arguments-returns-in-Err-clause-gives
arguments-returns-in-Err-clause-gives t c =
    arguments_left c.args.self.now.tasks.now c.args.depth c.args.positional.now c.args.keywords.now c.args.met.now c.parts.new.met c.parts.new.met c.in-Err.stop c.in-Err.ensures.gives

pub call-returns-in-Ok-All-clause-gives : goal.call-returns-in-Ok-All-clause-gives
call-returns-in-Ok-All-clause-gives t c =
    let o = arguments_out c.args.self.now.tasks.now c.args.depth c.args.positional.now c.args.keywords.now in
    after_all o (values_out c.args.self.now.tasks.now c.args.depth c.args.task.now) c.args.met.now c.arguments.new.met c.enter.new.met c.in-Ok-All.arguments c.enter.result
    (subst (λ (g : Gathered (fresh.Arguments FileValue)). Evaluates answers_of o c.args.met.now c.arguments.new.met (Ok g)) c.in-Ok-All.field-0-is c.in-Ok-All.ensures.gives) c.enter.ensures.gives

pub call-returns-in-Ok-Failed-clause-gives : goal.call-returns-in-Ok-Failed-clause-gives
call-returns-in-Ok-Failed-clause-gives t c =
    let o = arguments_out c.args.self.now.tasks.now c.args.depth c.args.positional.now c.args.keywords.now in
    after_failed o (values_out c.args.self.now.tasks.now c.args.depth c.args.task.now) c.args.met.now c.arguments.new.met c.in-Ok-Failed.failure
    (subst (λ (g : Gathered (fresh.Arguments FileValue)). Evaluates answers_of o c.args.met.now c.arguments.new.met (Ok g)) c.in-Ok-Failed.field-0-is c.in-Ok-Failed.ensures.gives)

pub list-returns-in_ok-made-in-Ok-All-clause-gives : goal.list-returns-in_ok-made-in-Ok-All-clause-gives
list-returns-in_ok-made-in-Ok-All-clause-gives t c =
    let o = parts_out c.args.self.now.tasks.now c.args.depth c.args.parts.now in
    after_list o c.args.met.now c.parts.new.met c.in-Ok-All.values _ c.in-Ok-All.ensures.room
    (subst (λ (g : Gathered (List (Datum FileValue))). Evaluates answers_of o c.args.met.now c.parts.new.met (Ok g)) c.in-Ok-All.field-0-is c.in-Ok-All.ensures.gives) c.in_ok-made-in-Ok-All.ensures

pub list-returns-in-Ok-Failed-clause-gives : goal.list-returns-in-Ok-Failed-clause-gives
list-returns-in-Ok-Failed-clause-gives t c =
    let o = parts_out c.args.self.now.tasks.now c.args.depth c.args.parts.now in
    after_failed o (fresh.listed own) c.args.met.now c.parts.new.met c.in-Ok-Failed.failure
    (subst (λ (g : Gathered (List (Datum FileValue))). Evaluates answers_of o c.args.met.now c.parts.new.met (Ok g)) c.in-Ok-Failed.field-0-is c.in-Ok-Failed.ensures.gives)

pub operation-returns-in_ok-operated-in-Ok-All-clause-gives : goal.operation-returns-in_ok-operated-in-Ok-All-clause-gives
operation-returns-in_ok-operated-in-Ok-All-clause-gives t c =
    let o = parts_out c.args.self.now.tasks.now c.args.depth c.args.parts.now in
    after_op o c.args.op c.args.met.now c.parts.new.met c.in-Ok-All.values _ c.in-Ok-All.ensures.room
    (subst (λ (g : Gathered (List (Datum FileValue))). Evaluates answers_of o c.args.met.now c.parts.new.met (Ok g)) c.in-Ok-All.field-0-is c.in-Ok-All.ensures.gives) c.in_ok-operated-in-Ok-All.ensures

pub operation-returns-in-Ok-Failed-clause-gives : goal.operation-returns-in-Ok-Failed-clause-gives
operation-returns-in-Ok-Failed-clause-gives t c =
    let o = parts_out c.args.self.now.tasks.now c.args.depth c.args.parts.now in
    after_failed o (fresh.operated own c.args.op) c.args.met.now c.parts.new.met c.in-Ok-Failed.failure
    (subst (λ (g : Gathered (List (Datum FileValue))). Evaluates answers_of o c.args.met.now c.parts.new.met (Ok g)) c.in-Ok-Failed.field-0-is c.in-Ok-Failed.ensures.gives)

pub dict-returns-in_ok-made-in-Ok-All-clause-gives : goal.dict-returns-in_ok-made-in-Ok-All-clause-gives
dict-returns-in_ok-made-in-Ok-All-clause-gives t c =
    let o = seconds_out c.args.self.now.tasks.now c.args.depth c.args.pairs.now in
    after_dict o c.args.met.now c.pairs.new.met c.in-Ok-All.pairs _ c.in-Ok-All.ensures.room
    (subst (λ (g : Gathered (List (Datum FileValue × Datum FileValue))). Evaluates answers_of o c.args.met.now c.pairs.new.met (Ok g)) c.in-Ok-All.field-0-is c.in-Ok-All.ensures.gives) c.in_ok-made-in-Ok-All.ensures

pub dict-returns-in-Ok-Failed-clause-gives : goal.dict-returns-in-Ok-Failed-clause-gives
dict-returns-in-Ok-Failed-clause-gives t c =
    let o = seconds_out c.args.self.now.tasks.now c.args.depth c.args.pairs.now in
    after_failed o (fresh.keyed own) c.args.met.now c.pairs.new.met c.in-Ok-Failed.failure
    (subst (λ (g : Gathered (List (Datum FileValue × Datum FileValue))). Evaluates answers_of o c.args.met.now c.pairs.new.met (Ok g)) c.in-Ok-Failed.field-0-is c.in-Ok-Failed.ensures.gives)

pub enter-body-requires : goal.enter-body-requires
enter-body-requires t c = (
  omega arith,
  (
    c.requires.registered,
    (
      c.requires.few,
      one_each c.args.self.now.tasks.now c.args.depth c.args.task.now c.args.arguments.now c.code_named.result c.in-Some.code (c.code_named.ensures c.args.self.now.tasks.now c.requires.registered) c.in-Some.is c.deref.result.now c.deref.ensures c.as_str.result.now c.as_str.ensures.value c.bind.result c.bind.ensures
          c.in-Ok.values c.in-Ok.is,
    ),
  ),
)

pub enter-returns-in_ok-no_task-in-None-clause-gives : goal.enter-returns-in_ok-no_task-in-None-clause-gives
enter-returns-in_ok-no_task-in-None-clause-gives t c =
    enter_none c.args.self.now.tasks.now c.args.depth c.args.task.now c.args.arguments.now c.args.met.now c.code_named.result c.in_ok-no_task-in-None.field-0 c.requires.few (c.code_named.ensures c.args.self.now.tasks.now c.requires.registered) c.in-None.is c.in_ok-no_task-in-None.ensures

pub enter-returns-in-Ok-clause-gives : goal.enter-returns-in-Ok-clause-gives
enter-returns-in-Ok-clause-gives t c =
    enter_bound c.args.self.now.tasks.now c.args.depth c.args.task.now c.args.arguments.now c.code_named.result c.in-Some.code (c.code_named.ensures c.args.self.now.tasks.now c.requires.registered) c.in-Some.is c.deref.result.now c.deref.ensures c.as_str.result.now c.as_str.ensures.value c.bind.result c.bind.ensures
    c.args.met.now c.body.new.met c.in-Ok.values c.body.result c.in-Ok.is c.body.ensures.gives

pub enter-returns-in-Err-Failed-clause-gives : goal.enter-returns-in-Err-Failed-clause-gives
enter-returns-in-Err-Failed-clause-gives t c =
    let p : Evaluates answer_of (values_out c.args.self.now.tasks.now c.args.depth c.args.task.now c.args.arguments.now) c.args.met.now c.args.met.now (Ok (outcome.Failed c.in-Err-Failed.failure)) =
    enter_unbound c.args.self.now.tasks.now c.args.depth c.args.task.now c.args.arguments.now c.code_named.result c.in-Some.code (c.code_named.ensures c.args.self.now.tasks.now c.requires.registered) c.in-Some.is c.deref.result.now c.deref.ensures c.as_str.result.now c.as_str.ensures.value c.bind.result c.bind.ensures
    c.args.met.now c.in-Err-Failed.failure c.requires.few (c.in-Err-Failed.is ∙ ap Err c.in-Err-Failed.field-0-is) in
    rw c.in-Err-Failed.field-0-is p

pub body-returns-clause-gives : goal.body-returns-clause-gives
body-returns-clause-gives t c =
    let job = c.in_ok-finished.finished.job in
    body_fails c.args.self.now.tasks.now c.args.depth (arc_value c.args.code.now) (arc_value job.code) c.args.arguments job.args c.reduction.result.now c.args.met.now c.in-Failed.failure c.in_ok-copy-in-Failed.field-0
    c.requires.few (c.in_ok-finished.ensures.code, c.in_ok-finished.ensures.args, c.reduction.ensures.is) c.in-Failed.is c.in_ok-copy-in-Failed.ensures

pub parts-loop-part-init : goal.parts-loop-part-init
parts-loop-part-init t c = start fresh.alone (at_depth c.args.self.now.tasks.now c.args.depth) c.args.parts.now c.args.met.now _ c.requires.few (ap gathered.All c.new.ensures)

pub parts-returns-in_err-gathered-in-Ok-clause-gives : goal.parts-returns-in_err-gathered-in-Ok-clause-gives
parts-returns-in_err-gathered-in-Ok-clause-gives t c =
    let p = err_from_is_err_and c.from_residual.result c.from_residual.ensures.1 in
    rw (p.1, p.2) (no_memory (answers_of {A = List (Datum FileValue)}) (parts_out c.args.self.now.tasks.now c.args.depth c.args.parts.now) c.args.met.now c.expression.new.met)

pub parts-returns-in-Err-clause-gives : goal.parts-returns-in-Err-clause-gives
unfolding parts_out
parts-returns-in-Err-clause-gives t c =
    stopped fresh.alone (at_depth c.args.self.now.tasks.now c.args.depth) c.args.parts.now c.loop-part.part-index c.args.met.now c.loop-part.met c.expression.new.met c.part-item.result c.loop-part.gathered (omega arith) c.part-item.is c.loop-part.invariant c.in-Err.stop c.in-Err.ensures.gives

pub parts-loop-part-preserved : goal.parts-loop-part-preserved
parts-loop-part-preserved t c =
    more fresh.alone (at_depth c.args.self.now.tasks.now c.args.depth) c.args.parts.now c.loop-part.part-index c.args.met.now c.loop-part.met c.expression.new.met c.part-item.result c.loop-part.gathered (omega arith) c.part-item.is c.loop-part.invariant c.in-Ok.outcome _ c.in-Ok.ensures.gives c.in_ok-gathered-in-Ok.ensures

pub parts-returns-clause-gives : goal.parts-returns-clause-gives
unfolding parts_out
parts-returns-clause-gives t c =
    done fresh.alone (at_depth c.args.self.now.tasks.now c.args.depth) c.args.parts.now c.loop-part.part-index c.args.met.now c.loop-part.met c.loop-part.gathered (omega arith) c.loop-part.invariant

pub keywords-loop-name-init : goal.keywords-loop-name-init
keywords-loop-name-init t c = start fresh.beside (fresh.second (at_depth c.args.self.now.tasks.now c.args.depth)) c.args.keywords.now c.args.met.now _ c.requires.few (ap gathered.All c.new.ensures)

pub keywords-returns-in_err-gathered-in-Ok-clause-gives : goal.keywords-returns-in_err-gathered-in-Ok-clause-gives
keywords-returns-in_err-gathered-in-Ok-clause-gives t c =
    let p = err_from_is_err_and c.from_residual.result c.from_residual.ensures.1 in
    rw (p.1, p.2) (no_memory (answers_of {A = List (List ℕ × Datum FileValue)}) (seconds_out c.args.self.now.tasks.now c.args.depth c.args.keywords.now) c.args.met.now c.expression.new.met)

pub keywords-returns-in-Err-clause-gives : goal.keywords-returns-in-Err-clause-gives
unfolding seconds_out
keywords-returns-in-Err-clause-gives t c =
    stopped fresh.beside (fresh.second (at_depth c.args.self.now.tasks.now c.args.depth)) c.args.keywords.now c.loop-name.name-index c.args.met.now c.loop-name.met c.expression.new.met c.loop-name-item.result c.loop-name.gathered (omega arith) c.loop-name-item.is c.loop-name.invariant c.in-Err.stop c.in-Err.ensures.gives

pub keywords-loop-name-preserved : goal.keywords-loop-name-preserved
keywords-loop-name-preserved t c =
    more fresh.beside (fresh.second (at_depth c.args.self.now.tasks.now c.args.depth)) c.args.keywords.now c.loop-name.name-index c.args.met.now c.loop-name.met c.expression.new.met c.loop-name-item.result c.loop-name.gathered (omega arith) c.loop-name-item.is c.loop-name.invariant c.in-Ok.outcome _ c.in-Ok.ensures.gives c.in_ok-gathered-in-Ok.ensures

pub keywords-returns-clause-gives : goal.keywords-returns-clause-gives
unfolding seconds_out
keywords-returns-clause-gives t c =
    done fresh.beside (fresh.second (at_depth c.args.self.now.tasks.now c.args.depth)) c.args.keywords.now c.loop-name.name-index c.args.met.now c.loop-name.met c.loop-name.gathered (omega arith) c.loop-name.invariant

pub pairs-loop-key-init : goal.pairs-loop-key-init
pairs-loop-key-init t c = start fresh.beside (fresh.second (at_depth c.args.self.now.tasks.now c.args.depth)) c.args.pairs.now c.args.met.now _ c.requires.few (ap gathered.All c.new.ensures)

pub pairs-returns-in_err-gathered-in-Ok-clause-gives : goal.pairs-returns-in_err-gathered-in-Ok-clause-gives
pairs-returns-in_err-gathered-in-Ok-clause-gives t c =
    let p = err_from_is_err_and c.from_residual.result c.from_residual.ensures.1 in
    rw (p.1, p.2) (no_memory (answers_of {A = List (Datum FileValue × Datum FileValue)}) (seconds_out c.args.self.now.tasks.now c.args.depth c.args.pairs.now) c.args.met.now c.expression.new.met)

pub pairs-returns-in-Err-clause-gives : goal.pairs-returns-in-Err-clause-gives
unfolding seconds_out
pairs-returns-in-Err-clause-gives t c =
    stopped fresh.beside (fresh.second (at_depth c.args.self.now.tasks.now c.args.depth)) c.args.pairs.now c.loop-key.key-index c.args.met.now c.loop-key.met c.expression.new.met c.loop-key-item.result c.loop-key.gathered (omega arith) c.loop-key-item.is c.loop-key.invariant c.in-Err.stop c.in-Err.ensures.gives

pub pairs-loop-key-preserved : goal.pairs-loop-key-preserved
pairs-loop-key-preserved t c =
    more fresh.beside (fresh.second (at_depth c.args.self.now.tasks.now c.args.depth)) c.args.pairs.now c.loop-key.key-index c.args.met.now c.loop-key.met c.expression.new.met c.loop-key-item.result c.loop-key.gathered (omega arith) c.loop-key-item.is c.loop-key.invariant c.in-Ok.outcome _ c.in-Ok.ensures.gives c.in_ok-gathered-in-Ok.ensures

pub pairs-returns-clause-gives : goal.pairs-returns-clause-gives
unfolding seconds_out
pairs-returns-clause-gives t c =
    done fresh.beside (fresh.second (at_depth c.args.self.now.tasks.now c.args.depth)) c.args.pairs.now c.loop-key.key-index c.args.met.now c.loop-key.met c.loop-key.gathered (omega arith) c.loop-key.invariant

pub step-returns-in-Catch-clause-gives : goal.step-returns-in-Catch-clause-gives
step-returns-in-Catch-clause-gives t c =
    let is = c.in-Catch.is ∙ ap (λ tried. lazy.Catch tried c.in-Catch.class c.in-Catch.recover) (sym c.get-in-Catch.ensures) in
    step_catch c.args.self.now.tasks.now c.args.expr.now c.args.depth c.args.met.now c.catch.new.met c.get-in-Catch.result.now c.in-Catch.class c.in-Catch.recover c.catch.result is c.catch.ensures.gives
