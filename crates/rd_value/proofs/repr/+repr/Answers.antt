use Rattle.std.proofs.Common.{append_assoc}
use Rattle.rd_value.proofs.Layers.{repr_dict}
use Rattle.rd_value.proofs.repr.+repr.Goals as goal

pub push_repr-returns-in_ok-push_str-in-Dict-2 : goal.push_repr-returns-in_ok-push_str-in-Dict-2
push_repr-returns-in_ok-push_str-in-Dict-2 t c =
    rw (c.in-Dict.is, repr_dict (λ f. f), ← c.as_slice-in-Dict.ensures, c.in_ok-push_str-in-Dict-2.ensures.bytes, c.in_ok-push_pairs-in-Dict.ensures, c.in_ok-push_str-in-Dict.ensures.bytes) (simp append_assoc)
