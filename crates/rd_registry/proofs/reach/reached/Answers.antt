use Rattle.std.proofs.Common.{◌<◌, ◌≤◌, ◌∙◌, ap, filter, length, arith}
use Rattle.std.specs.Map.{keys_of}
use Rattle.rd_names.specs.Names.{with_names}
use Rattle.rd_registry.specs.Codes.{outside}
use Rattle.rd_registry.specs.Functions.{helper_in}
use Rattle.rd_registry.specs.Reach.{names_helper}
use Rattle.rd_registry.proofs.Reaching.{begins, goes_on, ends, no_more_helpers, one_less, name_is}
use Rattle.rd_registry.proofs.reach.reached.Goals as goal

pub loop-place-init : goal.loop-place-init
loop-place-init c = begins (helper_in c.args.functions.now) c.args.block.now c.add_helpers.new.names.keys
    (c.in_ok-add_helpers.ensures ∙ ap (λ ns. with_names ns (filter (names_helper (helper_in c.args.functions.now)) (outside c.args.block.now))) c.new-names.ensures.empty)

pub loop-place-smaller : goal.loop-place-smaller
loop-place-smaller c =
    let few : length c.loop-place.names.keys ≤ length (keys_of c.args.functions.now.entries) = no_more_helpers c.args.functions.now c.args.block.now c.loop-place.names.keys c.loop-place.place c.loop-place.invariant c.len.ensures.unique in
    let many : c.loop-place.place < length (keys_of c.args.functions.now.entries) = omega (arith, few, c.len.ensures.len) in
    one_less (length (keys_of c.args.functions.now.entries)) c.loop-place.place many

pub loop-place-preserved : goal.loop-place-preserved
loop-place-preserved c =
    let less : c.loop-place.place < length c.loop-place.names.keys = omega (arith, c.len.ensures.len) in
    goes_on (helper_in c.args.functions.now) c.args.block.now c.loop-place.names.keys c.add_further.new.names.keys c.loop-place.place c.in_ok-name.name c.loop-place.invariant less
    (name_is c.loop-place.names.keys c.as_slice.result.now c.loop-place.place c.in_ok-name.name c.index-as_slice-place.result c.index-as_slice-place.is c.as_slice.ensures.keys c.in_ok-name.ensures) c.in_ok-add_further.ensures

pub returns : goal.returns
returns c =
    let all : length c.loop-place.names.keys ≤ c.loop-place.place = omega (arith, c.len.ensures.len) in
    ends (helper_in c.args.functions.now) c.args.block.now c.loop-place.names.keys c.loop-place.place c.loop-place.invariant all
