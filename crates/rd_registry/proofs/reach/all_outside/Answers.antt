use Rattle.std.proofs.Common.{◌≡◌, ◌<◌, [], ◌∙◌, length, map, sym, ap, arith}
use Rattle.rd_names.specs.Names.{with_names}
use Rattle.rd_names.specs.Uses.{joined}
use Rattle.rd_names.proofs.Walking.{goes_on}
use Rattle.rd_registry.specs.Codes.{outside}
use Rattle.rd_registry.proofs.Elements.{names_both}
use Rattle.rd_registry.proofs.reach.all_outside.Goals as goal

pub loop-helper-init : goal.loop-helper-init
loop-helper-init c =
    let rest = joined (map (λ h. outside h.block) c.args.helpers.now) in
    let began : c.add_outside.new.names.keys ≡ with_names [] (outside c.args.block.now) = c.in_ok-add_outside.ensures ∙ ap (λ ns. with_names ns (outside c.args.block.now)) c.new-names.ensures.empty in
    ap (λ ns. with_names ns rest) began ∙ sym (names_both [] (outside c.args.block.now) rest)

pub loop-helper-preserved : goal.loop-helper-preserved
loop-helper-preserved c =
    let lt : c.loop-helper.helper-index < length c.args.helpers.now = omega arith in
    goes_on with_names names_both (λ h. outside h.block) c.args.helpers.now c.loop-helper.helper-index c.helper-item.result c.loop-helper.names.keys c.add_outside-in-loop-helper.new.names.keys _ lt c.helper-item.is
    (c.in_ok-add_outside-2.ensures ∙ ap (λ b. with_names c.loop-helper.names.keys (outside b)) c.as_slice.ensures) c.loop-helper.invariant
