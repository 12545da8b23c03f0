use Rattle.std.proofs.Common.{◌≡◌, ◌∙◌, rules, subst}
use Rattle.std.proofs.lemmas.Cmp.{nat_list_cmp_total}
use Rattle.std.proofs.lemmas.List.{take_all}
use Rattle.std.proofs.lemmas.List.Sorted.{answers_always, ranks_by}
use Rattle.std.specs.Prelude.{IsPermutation}
use Rattle.rd_registry.proofs.Ascending.{ascends, below}
use Rattle.rd_registry.proofs.code.ascending.Goals as goal

pub returns-clause-ascend : goal.returns-clause-ascend
returns-clause-ascend c =
    let texts = c.args.texts.now in
    let new = c.sort_unstable_by.new.self.items in
    let whole : c.loop-text.sorted.items ≡ texts = c.loop-text.invariant ∙ take_all c.loop-text.text-index texts c.loop-text-test.false in
    let moved : IsPermutation texts new = subst (λ xs. IsPermutation xs new) whole c.sort_unstable_by.ensures.permutation in
    ascends texts new c.requires moved (c.sort_unstable_by.ensures.sorted below (ranks_by nat_list_cmp_total (λ t. t)) (answers_always _ _ _ (λ f a r f' k. search rules)))
