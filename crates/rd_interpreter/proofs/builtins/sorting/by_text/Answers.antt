use Rattle.std.proofs.Common.{rules}
use Rattle.std.proofs.lemmas.Cmp.{nat_list_cmp_total}
use Rattle.std.proofs.lemmas.List.Sorted.{answers_always, ranks_by}
use Rattle.rd_interpreter.specs.Builtins.{text_less, text_or_empty}
use Rattle.rd_interpreter.proofs.Sorting.{sorts}
use Rattle.rd_interpreter.proofs.builtins.sorting.by_text.Goals as goal

pub returns : goal.returns
returns c =
    sorts text_less (ranks_by nat_list_cmp_total text_or_empty) c.args.values.items c.sort_by.new.self.items
    (c.in_ok-sort_by.ensures.sorted text_less (ranks_by nat_list_cmp_total text_or_empty) (answers_always _ _ _ (λ f a r f' k. search rules)))
    (c.sort_by.ensures.stable text_less (ranks_by nat_list_cmp_total text_or_empty) (answers_always _ _ _ (λ f a r f' k. search rules)))
