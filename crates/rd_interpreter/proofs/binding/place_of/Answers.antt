use Rattle.std.proofs.Common.{◌≡◌, ◌+◌, refl, ap, sym, ◌∙◌, drop, map, arith, Some, true, false}
use Rattle.std.specs.Str.{bytes_eq}
use Rattle.rd_value.proofs.Walks.{item_first}
use Rattle.rd_interpreter.specs.Binding.{slot_of, place_of}
use Rattle.rd_interpreter.proofs.Arguments.{here, later}
use Rattle.rd_interpreter.proofs.binding.place_of.Goals as goal

pub returns-then-eq-clause-value : goal.returns-then-eq-clause-value
returns-then-eq-clause-value c =
    let i = c.loop-argument.argument-index in
    let slots = c.args.arguments.now in
    let same : bytes_eq c.argument-item.result.name c.args.name.now ≡ true = sym c.eq.ensures ∙ c.if-eq.true in
    let first = item_first slots i c.argument-item.result c.loop-argument-test.true c.argument-item.is in
    ap Some c.loop-argument.invariant.place ∙ here c.args.name.now i (drop i slots) (drop (i + 1) slots) c.argument-item.result (place_of c.args.name.now (map slot_of slots)) first same c.loop-argument.invariant.left

pub returns-then-eq-clause-within : goal.returns-then-eq-clause-within
returns-then-eq-clause-within c = omega (arith, c.loop-argument.invariant.place, c.loop-argument-test.true)

pub loop-argument-preserved : goal.loop-argument-preserved
loop-argument-preserved c =
    let i = c.loop-argument.argument-index in
    let slots = c.args.arguments.now in
    let other : bytes_eq c.argument-item.result.name c.args.name.now ≡ false = sym c.eq.ensures ∙ c.if-eq.false in
    let first = item_first slots i c.argument-item.result c.loop-argument-test.true c.argument-item.is in record {
      place = ap (λ k. k + 1) c.loop-argument.invariant.place;
      left = later c.args.name.now i (i + 1) (drop i slots) (drop (i + 1) slots) c.argument-item.result (place_of c.args.name.now (map slot_of slots)) refl first other c.loop-argument.invariant.left;
    }
