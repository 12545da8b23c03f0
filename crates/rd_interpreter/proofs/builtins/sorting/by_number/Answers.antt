use Rattle.std.proofs.Common.{rules}
use Rattle.std.proofs.lemmas.Cmp.{int_cmp_total}
use Rattle.std.proofs.lemmas.List.Sorted.{answers_always, ranks_by}
use Rattle.rd_interpreter.specs.Builtins.{number_less, number_or_zero}
use Rattle.rd_interpreter.proofs.Sorting.{sorts}
use Rattle.rd_interpreter.proofs.builtins.sorting.by_number.Goals as goal

pub returns : goal.returns
returns c =
    sorts number_less (ranks_by int_cmp_total number_or_zero) c.args.values.items c.sort_by.new.self.items
    (c.in_ok-sort_by.ensures.sorted number_less (ranks_by int_cmp_total number_or_zero) (answers_always _ _ _ (λ f a r f' k. search rules)))
    (c.sort_by.ensures.stable number_less (ranks_by int_cmp_total number_or_zero) (answers_always _ _ _ (λ f a r f' k. search rules)))
