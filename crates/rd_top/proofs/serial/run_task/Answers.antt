use Rattle.std.proofs.Common.{Err, refl, sym, ap, subst, ◌∙◌}
use Rattle.rd_value.specs.Limits.{is_within_expr}
use Rattle.rd_value.specs.declared.value.FileValue.{FileValue}
use Rattle.rd_value.specs.declared.expr.Lazy.{Lazy}
use Rattle.rd_top.specs.Evaluating.{answer_of}
use Rattle.rd_registry.specs.Fits.{Fits, FreshGives}
use Rattle.rd_top.specs.Running.{own}
use Rattle.rd_top.proofs.Answering.{is_root, of_outcome, of_too_large, of_words}
use Rattle.rd_top.proofs.serial.run_task.Goals as goal

pub returns-then-not-within : goal.returns-then-not-within
returns-then-not-within c =
    let found = sym (c.in_ok-task.ensures c.args.module.now c.requires.registered) ∙ c.in-Some.is in
    let root = is_root c.requires.no_files refl c.new.ensures c.in_ok-root_arguments.ensures in
    of_words c.args.module.now c.args.word.now c.in-Some.task c.args.arguments.now found (ap (is_within_expr own) (sym root) ∙ (sym c.within.ensures ∙ c.if-not-within.true))

pub returns-in-Ok : goal.returns-in-Ok
returns-in-Ok c =
    let m = c.args.module.now in
    let found = sym (c.in_ok-task.ensures c.args.module.now c.requires.registered) ∙ c.in-Some.is in
    let root = is_root c.requires.no_files refl c.new.ensures c.in_ok-root_arguments.ensures in
    of_outcome m c.args.word.now c.in-Some.task c.args.arguments.now found c.in-Ok.outcome (subst (λ (e : Lazy FileValue). Fits own m e) root c.in-Ok.ensures.fits)
    (subst (λ (e : Lazy FileValue). FreshGives own m e (answer_of c.in-Ok.outcome)) root c.in-Ok.ensures.gives)

pub returns-in-Err-TooLarge : goal.returns-in-Err-TooLarge
returns-in-Err-TooLarge c =
    let m = c.args.module.now in
    let found = sym (c.in_ok-task.ensures c.args.module.now c.requires.registered) ∙ c.in-Some.is in
    let root = is_root c.requires.no_files refl c.new.ensures c.in_ok-root_arguments.ensures in
    of_too_large m c.args.word.now c.in-Some.task c.args.arguments.now found (subst (λ (e : Lazy FileValue). Fits own m e → ⊥) root (c.in-Err-TooLarge.ensures.too_large (ap Err c.in-Err-TooLarge.field-0-is)))
