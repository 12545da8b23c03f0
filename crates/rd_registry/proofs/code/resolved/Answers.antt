use Rattle.std.proofs.Common.{◌≡◌, [], map, ap, subst, ◌∙◌}
use Rattle.rd_names.specs.Names.{with_names}
use Rattle.rd_registry.specs.Codes.{use_with}
use Rattle.rd_registry.specs.Reach.{AreReached}
use Rattle.rd_registry.specs.Resolved.{all_outside, callees_by, helpers_at, helpers_by}
use Rattle.rd_registry.proofs.ResolvedCodes.{Within, resolved_if}
use Rattle.rd_registry.proofs.code.resolved.Goals as goal

pub returns-clause-resolves : goal.returns-clause-resolves
returns-clause-resolves c =
    let helpers = helpers_by c.args.functions.now in
    let callees = callees_by c.args.functions.now in
    let body = c.args.body in
    let names = c.in_ok-names.names.keys in
    let sorted = c.in_ok-names-2.names.items in
    let hs = c.in_ok-helpers.helpers in
    let used = c.in_ok-used.used.keys in
    let listed = c.in_ok-used-2.used.items in
    let reached : AreReached helpers body names = subst (λ b. AreReached helpers b names) c.as_slice.ensures c.in_ok-names.ensures in
    let there : Within names sorted = λ t h. c.in_ok-names-2.ensures.all t (rw (← c.as_slice-2.ensures.keys) at h) in
    let back : Within sorted names = λ t h. rw c.as_slice-2.ensures.keys at (c.in_ok-names-2.ensures.only t h) in
    let are_hs : hs ≡ helpers_at helpers sorted = c.in_ok-helpers.ensures ∙ ap (helpers_at helpers) c.as_slice-3.ensures.value in
    let are_used : used ≡ with_names [] (all_outside body hs) = c.in_ok-used.ensures ∙ ap (λ b. with_names [] (all_outside b c.as_slice-5.result.now)) c.as_slice-4.ensures ∙ ap (λ h. with_names [] (all_outside body h)) c.as_slice-5.ensures in
    let all_listed : Within used listed = λ t h. c.in_ok-used-2.ensures.all t (rw (← c.as_slice-6.ensures.keys) at h) in
    let only_listed : Within listed used = λ t h. rw c.as_slice-6.ensures.keys at (c.in_ok-used-2.ensures.only t h) in
    let are_us : c.in_ok-uses.uses ≡ map (use_with callees) listed = c.in_ok-uses.ensures ∙ ap (map (use_with callees)) c.as_slice-7.ensures.value in
    resolved_if helpers callees body names reached sorted there back c.in_ok-names-2.ensures.ascend hs are_hs used are_used listed all_listed only_listed c.in_ok-used-2.ensures.ascend c.in_ok-uses.uses are_us c.new.result c.new.ensures.body c.new.ensures.helpers c.new.ensures.names
