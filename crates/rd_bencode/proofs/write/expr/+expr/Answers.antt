use Rattle.rd_bencode.proofs.Layers.{canon_call, canon_input, canon_list_of, canon_dict_of}
use Rattle.rd_bencode.proofs.Pushes.{three_pieces}
use Rattle.rd_bencode.proofs.write.expr.+expr.Goals as goal

pub push_expr-returns-in-Call : goal.push_expr-returns-in-Call
push_expr-returns-in-Call t c = rw (c.in-Call.is, canon_call (λ f. f), ← c.as_slice.ensures, ← c.as_slice-in-Call.ensures) c.push_call.ensures

pub push_expr-returns-in_ok-push-in-Input : goal.push_expr-returns-in_ok-push-in-Input
push_expr-returns-in_ok-push-in-Input t c =
    rw (c.in-Input.is, canon_input (λ f. f), ← c.as_str.ensures.value)
    (three_pieces _ _ _ _ _ _ _ c.in_ok-extend_from_slice-in-Input.ensures.items c.in_ok-push_text-in-Input.ensures c.in_ok-push-in-Input.ensures.items)

pub push_expr-returns-in_ok-push-in-ListOf : goal.push_expr-returns-in_ok-push-in-ListOf
push_expr-returns-in_ok-push-in-ListOf t c =
    rw (c.in-ListOf.is, canon_list_of (λ f. f), ← c.as_slice-in-ListOf.ensures)
    (three_pieces _ _ _ _ _ _ _ c.in_ok-extend_from_slice-in-ListOf.ensures.items c.in_ok-push_parts-in-ListOf.ensures c.in_ok-push-in-ListOf.ensures.items)

pub push_expr-returns-in_ok-push-in-DictOf : goal.push_expr-returns-in_ok-push-in-DictOf
push_expr-returns-in_ok-push-in-DictOf t c =
    rw (c.in-DictOf.is, canon_dict_of (λ f. f), ← c.as_slice-in-DictOf.ensures)
    (three_pieces _ _ _ _ _ _ _ c.in_ok-extend_from_slice-in-DictOf.ensures.items c.in_ok-push_pairs-in-DictOf.ensures c.in_ok-push-in-DictOf.ensures.items)
