-- Words with the names of two lists.
use Rattle.std.proofs.Common.{◌≡◌, ℕ, List, [], ◌∷◌, ◌++◌, refl}
use Rattle.rd_names.specs.Names.{with_name}
use Rattle.rd_code.specs.declared.mention.Mention.{Mention}
use Rattle.rd_code.specs.Numbering.{with_mentions}

pub with_both : (texts : List (List ℕ)) (xs ys : List (Mention (List ℕ))) → with_mentions texts (xs ++ ys) ≡ with_mentions (with_mentions texts xs) ys
with_both texts [] ys = refl
with_both texts (x ∷ xs) ys = with_both (with_name texts x.name) xs ys
