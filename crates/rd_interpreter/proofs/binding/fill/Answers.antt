use Rattle.std.proofs.Common.{◌≡◌, ap, sym, ◌∙◌, map, refl, Some, None, Err, true, false}
use Rattle.std.specs.Option.{is_some}
use Rattle.rd_value.specs.Bind.{unknown, given_twice}
use Rattle.rd_interpreter.specs.Binding.{slot_of, place_of}
use Rattle.rd_interpreter.proofs.Arguments.{unknown_name, fills, fills_twice, keeps_names}
use Rattle.rd_interpreter.proofs.binding.fill.Goals as goal

pub returns-in_default-clause-answer : goal.returns-in_default-clause-answer
returns-in_default-clause-answer c =
    let none : place_of c.args.name.now (map slot_of c.args.arguments.now) ≡ None = sym c.find.ensures.value ∙ c.in_default.is in
    rw c.from.ensures (unknown_name c.args.name.now c.args.value.now c.args.arguments.now none ∙ ap Err (sym (c.in_ok-unknown.ensures ∙ ap unknown c.as_str.ensures.value)))

pub returns-then-is_some-clause-answer : goal.returns-then-is_some-clause-answer
returns-then-is_some-clause-answer c =
    let s = c.index-arguments-place.result in
    let here = c.index-arguments-place.is in
    let place : place_of c.args.name.now (map slot_of c.args.arguments.now) ≡ Some c.in-Some.place = sym c.find.ensures.value ∙ c.in-Some.is in
    let taken : is_some s.given ≡ true = rw (← here) at (sym c.is_some.ensures ∙ c.if-is_some.true) in
    let text = rw (← here) at (c.in_ok-given_twice.ensures ∙ ap given_twice c.as_str-then-is_some.ensures.value) in
    rw c.from-then-is_some.ensures (fills_twice c.args.name.now c.args.value.now c.args.arguments.now c.in-Some.place s place here taken ∙ ap Err (sym text))

pub returns-clause-kept : goal.returns-clause-kept
returns-clause-kept c =
    let s = c.index-arguments-place.result in
    let here = c.index-arguments-place.is in
    rw (← here) (keeps_names c.args.arguments.now c.in-Some.place s (record { name = s.name; default = s.default; given = Some c.in_ok-copy.field-0 }) here refl)

pub returns-clause-answer : goal.returns-clause-answer
returns-clause-answer c =
    let s = c.index-arguments-place.result in
    let here = c.index-arguments-place.is in
    let place : place_of c.args.name.now (map slot_of c.args.arguments.now) ≡ Some c.in-Some.place = sym c.find.ensures.value ∙ c.in-Some.is in
    let free : is_some s.given ≡ false = rw (← here) at (sym c.is_some.ensures ∙ c.if-is_some.false) in
    rw (← here, c.in_ok-copy.ensures) (fills c.args.name.now c.args.value.now c.args.arguments.now c.in-Some.place s place here free)
