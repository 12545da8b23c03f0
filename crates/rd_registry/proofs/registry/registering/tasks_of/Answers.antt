use Rattle.std.proofs.Common.{◌≡◌, ◌<◌, ◌+◌, ◌∷◌, [], ◌++◌, ◌∙◌, take, length, ap, subst, sym, arith}
use Rattle.std.proofs.lemmas.List.{take_more}
use Rattle.std.specs.Prelude.{option_copied}
use Rattle.rd_registry.specs.Bodies.{task_among}
use Rattle.rd_registry.specs.Registry.{Coded, code_in}
use Rattle.rd_registry.specs.Resolved.{callees_by, helpers_by}
use Rattle.rd_registry.proofs.Tasks.{task_more}
use Rattle.rd_registry.proofs.registry.registering.tasks_of.Goals as goal

pub loop-function-preserved : goal.loop-function-preserved
loop-function-preserved c =
    λ text.
    let space = option_copied c.args.space in
    let all = c.args.all.now in
    let i = c.loop-function.function-index in
    let lt : i < length all = omega arith in
    let helpers = helpers_by c.args.functions.now in
    let callees = callees_by c.args.functions.now in
    let next = task_more helpers callees space (take i all) c.function-item.result text in
    let same : take (i + 1) all ≡ take i all ++ c.function-item.result ∷ [] = take_more all i c.function-item.result lt ∙ ap (λ f. take i all ++ f ∷ []) (sym c.function-item.is) in
    subst (λ found. Coded helpers callees space found (code_in c.add_task.new.tasks text)) (sym next ∙ ap (λ fs. task_among space fs text) (sym same))
    (c.in_ok-add_task.ensures text (task_among space (take i all) text) (c.loop-function.invariant text))
