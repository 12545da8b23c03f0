use Rattle.std.proofs.Common.{◌≡◌, ◌<◌, ◌≤◌, length, map, refl, sym, ap, ◌∙◌, subst, arith, Err}
use Rattle.std.proofs.lemmas.Result.{err_from_is_err_and}
use Rattle.rd_value.specs.Bind.{all_settled}
use Rattle.rd_interpreter.specs.Binding.{in_order, slot_of, spelled_in}
use Rattle.rd_interpreter.specs.Running.{Answers}
use Rattle.rd_interpreter.proofs.Arguments.{binds_filled, binds_too_many, fails_by}
use Rattle.rd_interpreter.proofs.binding.bound.Goals as goal

pub returns-then-parameters-positional : goal.returns-then-parameters-positional
returns-then-parameters-positional c =
    let r = c.args.routine.now in
    let more : length r.parameters < length c.args.positional.now = omega (arith, ap length c.as_slice-parameters.ensures) in
    rw c.from.ensures (binds_too_many r.words r.parameters c.args.positional.now c.args.keywords.now more ∙ ap Err (sym c.in_ok-too_many.ensures))

pub returns-in_err-fill_all : goal.returns-in_err-fill_all
returns-in_err-fill_all c =
    let r = c.args.routine.now in
    let few : length c.args.positional.now ≤ length r.parameters = omega (arith, ap length c.as_slice-parameters.ensures) in
    let made = rw (c.as_slice.ensures, c.as_slice-parameters.ensures) at c.in_ok-made.ensures in
    let slots : map slot_of c.as_mut_slice-arguments.result.now ≡ in_order 0 (map (spelled_in r.words) r.parameters) c.args.positional.now = ap (map slot_of) c.as_mut_slice-arguments.ensures.value ∙ made in
    let p = err_from_is_err_and c.from_residual-in_err-fill_all.result c.from_residual-in_err-fill_all.ensures.1 in
    rw (p.1, p.2) (fails_by r.words r.parameters c.args.positional.now c.args.keywords.now few c.as_mut_slice-arguments.result.now c.fill_all.new.arguments c.in_err-fill_all.field-0.0 slots c.in_err-fill_all.ensures)

pub returns : goal.returns
returns c =
    let r = c.args.routine.now in
    let few : length c.args.positional.now ≤ length r.parameters = omega (arith, ap length c.as_slice-parameters.ensures) in
    let made = rw (c.as_slice.ensures, c.as_slice-parameters.ensures) at c.in_ok-made.ensures in
    let slots : map slot_of c.as_mut_slice-arguments.result.now ≡ in_order 0 (map (spelled_in r.words) r.parameters) c.args.positional.now = ap (map slot_of) c.as_mut_slice-arguments.ensures.value ∙ made in
    subst (λ a. Answers c.settled.result a)
    (sym (binds_filled r.words r.parameters c.args.positional.now c.args.keywords.now few c.as_mut_slice-arguments.result.now c.fill_all.new.arguments (all_settled (map slot_of c.fill_all.new.arguments)) slots c.in_ok-fill_all.ensures refl))
    c.settled.ensures
