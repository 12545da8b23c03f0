use Rattle.std.proofs.Common.{rules, ◌≡◌, ◌+◌, ◌∙◌, true, drop, map, length, arith, sym, ap}
use Rattle.rd_value.specs.Compare.{compared, finds_pair, finds_pairs}
use Rattle.rd_value.proofs.Comparing.{found_from, one_found, compared_dict, drop_next}
use Rattle.rd_value.proofs.Depths.{item_depth, pair_depth}
use Rattle.rd_value.proofs.compare.+compare.Goals as goal

pub compared_items-compared-requires : goal.compared_items-compared-requires
compared_items-compared-requires t c =
    let d = item_depth c.args.items.now c.loop-item.item-index c.item-item.result c.loop-item-test.true c.item-item.is in
    (omega (arith, d, c.decreases), tt)

pub equal_pairs-has_pair_from-requires : goal.equal_pairs-has_pair_from-requires
equal_pairs-has_pair_from-requires t c =
    let d = pair_depth c.args.pairs.now c.loop-pair.pair-index c.pair-item.result c.loop-pair-test.true c.pair-item.is in
    (omega (arith, d, c.decreases), tt)

pub Value::compared-returns-in-Dict-Dict : goal.Value::compared-returns-in-Dict-Dict
Value::compared-returns-in-Dict-Dict t c = rw (c.in-Dict-Dict.is-0, c.in-Dict-Dict.is-1, compared_dict (λ f. f), ← c.as_slice-in-Dict-Dict.ensures, ← c.as_slice-in-Dict-Dict-2.ensures, ← c.equal_pairs.ensures) c.equal_if.ensures

pub equal_pairs-loop-pair-preserved : goal.equal_pairs-loop-pair-preserved
equal_pairs-loop-pair-preserved t c =
    let inv = c.loop-pair.invariant in
    let i = c.loop-pair.pair-index in
    let yes : c.has_pair_from.result ≡ true = search rules in
    let here : finds_pair (compared (λ f. f) c.pair-item.result.0, compared (λ f. f) c.pair-item.result.1) c.args.others.now ≡ true =
    sym (found_from (compared (λ f. f) c.pair-item.result.0, compared (λ f. f) c.pair-item.result.1) c.args.others.now i) ∙ rw (← inv.1, ← c.has_pair_from.ensures) yes in (
      inv.0,
      c.behind_first-rest.ensures ∙ (ap (drop 1) inv.1 ∙ drop_next c.args.others.now i),
      one_found (λ f. f) c.args.pairs.now c.args.others.now i c.pair-item.result c.loop-pair-test.true c.pair-item.is here ∙ inv.2,
    )
