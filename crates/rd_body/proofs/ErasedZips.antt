-- Two lists one to one.
use Rattle.std.proofs.Common.{◌≡◌, suc, List, [], ◌∷◌, map, refl, sym, ap}
use Rattle.std.proofs.lemmas.Slice.Zip.{AllZip-long}
use Rattle.std.specs.List.{AllZip}
use Rattle.rd_interpreter.specs.Body.{operators}

pub zip_map : {A B A' B' : Type 0} (R : A → B → Type 0) (S : A' → B' → Type 0) (k : A → A') (l : B → B') → ((x : A) (y : B) → R x y → S (k x) (l y)) → (xs : List A) (ys : List B) → AllZip R xs ys → AllZip S (map k xs) (map l ys)
zip_map R S k l h [] [] us = tt
zip_map R S k l h [] (y ∷ ys) us = absurd us
zip_map R S k l h (x ∷ xs) [] us = absurd us
zip_map R S k l h (x ∷ xs) (y ∷ ys) us = (h x y us.0, zip_map R S k l h xs ys us.1)

pub operators_zip : {A B : Type 0} (R : A → B → Type 0) (xs : List A) (ys : List B) → AllZip R xs ys → operators xs ≡ operators ys
operators_zip R [] [] us = refl
operators_zip R [] (y ∷ ys) us = absurd us
operators_zip R (x ∷ xs) [] us = absurd us
operators_zip R (x ∷ xs) (y ∷ ys) us = ap suc (sym (AllZip-long R xs ys us.1))
