use Rattle.std.proofs.Common.{rules, ◌≡◌, ◌+◌, drop, map, length, refl, arith}
use Rattle.std.specs.List.{slice_get}
use Rattle.rd_value.proofs.Walks.{item_first}
use Rattle.rd_interpreter.specs.Binding.{spelled_in, in_order}
use Rattle.rd_interpreter.proofs.Arguments.{slots_more}
use Rattle.rd_interpreter.proofs.binding.positioned.Goals as goal

pub loop-parameter-preserved : goal.loop-parameter-preserved
loop-parameter-preserved c =
    let i = c.loop-parameter.parameter-index in
    let slots = c.loop-parameter.all.items in
    let p = c.parameter-item.result in
    let vs = c.args.positional.now in
    let name : c.in_ok-name_of.field-0 ≡ (spelled_in c.args.words.now p).0 = search rules in
    let default : c.in_ok-default_of.field-0 ≡ (spelled_in c.args.words.now p).1 = search rules in
    let given : c.in_ok-given.given ≡ slice_get vs c.len.result = search rules in
    let count : c.len.result ≡ length slots = omega (arith, c.len.ensures, c.loop-parameter.all.ok.0) in
    let first = item_first c.args.parameters.now i p c.loop-parameter-test.true c.parameter-item.is in
    slots_more c.args.words.now slots c.push.new.self.items (record { name = c.in_ok-name_of.field-0; default = c.in_ok-default_of.field-0; given = c.in_ok-given.given }) (drop i c.args.parameters.now) (drop (i + 1) c.args.parameters.now) p vs
    (in_order 0 (map (spelled_in c.args.words.now) c.args.parameters.now) vs) c.in_ok-push.ensures.items first (rw (name, default, given, count) refl) c.loop-parameter.invariant
