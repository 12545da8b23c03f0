use Rattle.std.proofs.Common.{◌≡◌, ◌+◌, ap, sym, ◌∙◌, drop, map, Err}
use Rattle.rd_value.proofs.Walks.{item_first}
use Rattle.rd_value.specs.Bind.{settled, all_settled, missing}
use Rattle.rd_meaning.specs.Binding.{slot_of}
use Rattle.rd_meaning.proofs.Slots.{settles_none}
use Rattle.rd_meaning.proofs.binding.settled.Goals as goal

pub returns-in-None-None : goal.returns-in-None-None
returns-in-None-None c =
    let i = c.loop-slot.slot-index in
    let slots = c.args.slots.now in
    let s = c.slot-item.result in
    let x = c.in_ok-missing-in-None-None.field-0 in
    let first = item_first slots i s c.loop-slot-test.true c.slot-item.is in
    let text : x ≡ missing s.name = c.in_ok-missing-in-None-None.ensures ∙ ap missing c.as_str.ensures.value in
    let none : settled s.name s.given s.default ≡ Err x = rw (c.in-None-None.is-0, c.in-None-None.is-1) (ap Err (sym text)) in
    settles_none c.loop-slot.values.items x (drop i slots) (drop (i + 1) slots) s (all_settled (map slot_of slots)) first none c.loop-slot.invariant
