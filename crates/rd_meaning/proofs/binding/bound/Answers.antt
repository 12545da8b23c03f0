use Rattle.std.proofs.Common.{◌≡◌, ap, sym, ◌∙◌, map, Ok, Err}
use Rattle.rd_value.specs.Bind.{all_settled}
use Rattle.rd_meaning.specs.Binding.{parameter_of, slot_of, in_order}
use Rattle.rd_meaning.proofs.Slots.{binds_too_many, binds_failed, binds_filled}
use Rattle.rd_meaning.proofs.binding.bound.Goals as goal

pub returns-then-parameters-positional : goal.returns-then-parameters-positional
returns-then-parameters-positional c =
    ap Err c.in_ok-too_many.ensures ∙ sym (binds_too_many c.args.parameters.now c.args.positional.now c.args.keywords.now c.if-parameters-positional.true)

pub returns-in-Err : goal.returns-in-Err
returns-in-Err c =
    let slots : map slot_of c.as_mut_slice-slots.result.now ≡ in_order 0 (map parameter_of c.args.parameters.now) c.args.positional.now = ap (map slot_of) c.as_mut_slice-slots.ensures.value ∙ c.in_ok-made.ensures in
    let failed = rw c.in-Err.is at c.in_ok-error.ensures in
    sym (binds_failed c.args.parameters.now c.args.positional.now c.args.keywords.now c.if-parameters-positional.false c.as_mut_slice-slots.result.now c.in-Err.error slots failed)

pub returns-in-Ok : goal.returns-in-Ok
returns-in-Ok c =
    let slots : map slot_of c.as_mut_slice-slots.result.now ≡ in_order 0 (map parameter_of c.args.parameters.now) c.args.positional.now = ap (map slot_of) c.as_mut_slice-slots.ensures.value ∙ c.in_ok-made.ensures in
    let filled = rw c.in_default.is at c.in_ok-error.ensures in
    let settled : all_settled (map slot_of c.fill_all.new.slots) ≡ Ok c.in-Ok.values = sym c.in_ok-values.ensures ∙ c.in-Ok.is in
    rw (binds_filled c.args.parameters.now c.args.positional.now c.args.keywords.now c.if-parameters-positional.false c.as_mut_slice-slots.result.now c.fill_all.new.slots (Ok c.in-Ok.values) slots filled settled) c.limited.ensures

pub returns : goal.returns
returns c =
    let slots : map slot_of c.as_mut_slice-slots.result.now ≡ in_order 0 (map parameter_of c.args.parameters.now) c.args.positional.now = ap (map slot_of) c.as_mut_slice-slots.ensures.value ∙ c.in_ok-made.ensures in
    let filled = rw c.in_default.is at c.in_ok-error.ensures in
    let settled : all_settled (map slot_of c.fill_all.new.slots) ≡ Err c.in-Err-2.error = sym c.in_ok-values.ensures ∙ c.in-Err-2.is in
    sym (binds_filled c.args.parameters.now c.args.positional.now c.args.keywords.now c.if-parameters-positional.false c.as_mut_slice-slots.result.now c.fill_all.new.slots (Err c.in-Err-2.error) slots filled settled)
