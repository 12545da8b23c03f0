use Rattle.std.proofs.Common.{◌≡◌, ◌∙◌, [], sym}
use Rattle.rd_names.specs.Refusals.{IsFirst, told}
use Rattle.rd_names.specs.Names.{KeepsNames}
use Rattle.rd_names.proofs.NameLaws.{no_refusals, has_some, if_any}
use Rattle.rd_names.proofs.names.check_names.Goals as goal

pub returns-in-None-clause-kept : goal.returns-in-None-clause-kept
returns-in-None-clause-kept c =
    let none : c.as_slice.result.now ≡ [] = rw c.in-None.is at c.first.ensures in
    (no_refusals c.args.module.now).0 (sym c.in_ok-all.ensures ∙ sym c.as_slice.ensures.value ∙ none)

pub returns-clause-broken : goal.returns-clause-broken
returns-clause-broken c =
    let found : IsFirst c.in-Some.refusal c.as_slice.result.now = rw c.in-Some.is at c.first.ensures in
    if_any (told c.error.result) (¬ KeepsNames c.args.module.now)
    (λ k. has_some c.as_slice.result.now c.in-Some.refusal found.0 (c.as_slice.ensures.value ∙ c.in_ok-all.ensures ∙ (no_refusals c.args.module.now).1 k))
