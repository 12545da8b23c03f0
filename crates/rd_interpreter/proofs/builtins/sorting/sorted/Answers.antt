use Rattle.std.proofs.Common.{◌≡◌, sym, ap, ◌∙◌, true, false}
use Rattle.std.specs.List.{list_all}
use Rattle.rd_interpreter.specs.Builtins.{in_order, is_number, is_text, number_less, text_less}
use Rattle.rd_interpreter.proofs.Sorting.{sorted_numbers, sorted_texts}
use Rattle.rd_interpreter.proofs.builtins.sorting.sorted.Goals as goal

pub returns-then-are_numbers : goal.returns-then-are_numbers
returns-then-are_numbers c =
    let h : list_all is_number c.args.values ≡ true = ap (list_all is_number) (sym c.as_slice.ensures) ∙ sym c.are_numbers.ensures ∙ c.if-are_numbers.true in
    sorted_numbers c.args.values c.in_ok-from_vec.field-0 h (c.in_ok-from_vec.ensures ∙ c.in_ok-sorted.ensures ∙ ap (in_order number_less) c.in_ok-into_vec.ensures)

pub returns-then-are_texts : goal.returns-then-are_texts
returns-then-are_texts c =
    let n : list_all is_number c.args.values ≡ false = ap (list_all is_number) (sym c.as_slice.ensures) ∙ sym c.are_numbers.ensures ∙ c.if-are_numbers.false in
    let h : list_all is_text c.args.values ≡ true = ap (list_all is_text) (sym c.as_slice-2.ensures) ∙ sym c.are_texts.ensures ∙ c.if-are_texts.true in
    sorted_texts c.args.values c.in_ok-from_vec-2.field-0 n h (c.in_ok-from_vec-2.ensures ∙ c.in_ok-sorted-2.ensures ∙ ap (in_order text_less) c.in_ok-into_vec-2.ensures)
