use Rattle.std.proofs.Common.{append_assoc}
use Rattle.rd_bencode.proofs.Layers.{canon_dict}
use Rattle.rd_bencode.proofs.write.value.+value.Goals as goal

pub push_value-returns-in_ok-push-in-Dict : goal.push_value-returns-in_ok-push-in-Dict
push_value-returns-in_ok-push-in-Dict t c =
    rw (c.in-Dict.is, canon_dict (λ f. f), ← c.as_slice-in-Dict.ensures, c.in_ok-push-in-Dict.ensures.items, c.in_ok-push_pairs-in-Dict.ensures, c.in_ok-extend_from_slice-in-Dict.ensures.items) (simp append_assoc)
