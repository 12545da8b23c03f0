use Rattle.std.proofs.Common.{rules, ◌≡◌, ◌+◌, drop, map, length, refl, arith}
use Rattle.std.specs.List.{slice_get}
use Rattle.rd_value.proofs.Walks.{item_first}
use Rattle.rd_meaning.specs.Binding.{parameter_of, in_order}
use Rattle.rd_meaning.proofs.Slots.{slots_more}
use Rattle.rd_meaning.proofs.binding.slots_in_order.Goals as goal

pub loop-parameter-preserved : goal.loop-parameter-preserved
loop-parameter-preserved c =
    let i = c.loop-parameter.parameter-index in
    let slots = c.loop-parameter.slots.items in
    let p = c.parameter-item.result in
    let vs = c.args.positional.now in
    let name : c.in_ok-copy.field-0 ≡ p.name = search rules in
    let default : c.in_ok-default_of.field-0 ≡ p.default = search rules in
    let given : c.in_ok-given.given ≡ slice_get vs c.len.result = search rules in
    let count : c.len.result ≡ length slots = omega (arith, c.len.ensures, c.loop-parameter.slots.ok.0) in
    let first = item_first c.args.parameters.now i p c.loop-parameter-test.true c.parameter-item.is in
    slots_more slots c.push.new.self.items (record { name = c.in_ok-copy.field-0; default = c.in_ok-default_of.field-0; given = c.in_ok-given.given }) (drop i c.args.parameters.now) (drop (i + 1) c.args.parameters.now) p vs
    (in_order 0 (map parameter_of c.args.parameters.now) vs) c.in_ok-push.ensures.items first (rw (name, default, given, count) refl) c.loop-parameter.invariant
