use Rattle.std.proofs.Common.{◌≡◌, ◌+◌, ap, sym, ◌∙◌, drop, map, Err}
use Rattle.rd_value.proofs.Walks.{item_first}
use Rattle.rd_value.specs.Bind.{settled, all_settled, missing}
use Rattle.rd_interpreter.specs.Binding.{slot_of}
use Rattle.rd_interpreter.proofs.Arguments.{settles_none}
use Rattle.rd_interpreter.proofs.binding.settled.Goals as goal

pub returns-in-None-None : goal.returns-in-None-None
returns-in-None-None c =
    let i = c.loop-argument.argument-index in
    let slots = c.args.arguments.now in
    let s = c.argument-item.result in
    let x = c.in_ok-missing-in-None-None.field-0 in
    let first = item_first slots i s c.loop-argument-test.true c.argument-item.is in
    let text : x ≡ missing s.name = c.in_ok-missing-in-None-None.ensures ∙ ap missing c.as_str.ensures.value in
    let none : settled s.name s.given s.default ≡ Err x = rw (c.in-None-None.is-0, c.in-None-None.is-1) (ap Err (sym text)) in
    rw c.from.ensures (sym (settles_none c.loop-argument.values.items x (drop i slots) (drop (i + 1) slots) s (all_settled (map slot_of slots)) first none c.loop-argument.invariant))
