-- Pieces that are written one after the other.
use Rattle.std.proofs.Common.{◌≡◌, ℕ, ◌+◌, List, ◌++◌, take, drop, Option, Some, None, refl, sym, ap, ◌∙◌}
use Rattle.std.proofs.lemmas.List.{append_assoc}
use Rattle.std.proofs.Math.Seq.{take-add}
use Rattle.rd_base.specs.Sink.{added}

pub added_more : (told : Option (List ℕ)) (n k : ℕ) (bs : List ℕ) → added (added told (take n bs)) (take k (drop n bs)) ≡ added told (take (n + k) bs)
added_more None n k bs = refl
added_more (Some before) n k bs = ap Some (append_assoc before (take n bs) (take k (drop n bs)) ∙ ap (λ xs. before ++ xs) (sym (take-add n k bs)))
