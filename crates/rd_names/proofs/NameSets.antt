-- Sets of names that grow.
use Rattle.std.proofs.Common.{◌≡◌, ℕ, List, [], ◌∷◌, ◌++◌, refl}
use Rattle.rd_names.specs.Names.{with_name, with_names}

pub with_both : (ks xs ys : List (List ℕ)) → with_names ks (xs ++ ys) ≡ with_names (with_names ks xs) ys
with_both ks [] ys = refl
with_both ks (x ∷ xs) ys = with_both (with_name ks x) xs ys
