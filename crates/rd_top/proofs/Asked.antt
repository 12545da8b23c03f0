-- The words of a run.
use Rattle.std.proofs.Common.{◌≡◌, ◌≢◌, ℕ, ◌≤◌, Bool, true, false, not, List, [], ◌∷◌, length, take, drop, ◌-◌, le_refl, get_or, refl, sym, ap, ◌∙◌, arith, Ok, Err, Result}
use Rattle.std.specs.Prelude.{◌==◌}
use Rattle.std.proofs.lemmas.List.{take_all, length-drop}
use Rattle.std.specs.Str.{bytes_eq}
use Rattle.std.proofs.lemmas.Slice.Eq.{bytes_eq-Decides}

-- a list of three and more is its three items and what is behind them
pub three : {A : Type 0} (xs : List A) (a b c : A) → 3 ≤ length xs → a ≡ get_or xs 0 a → b ≡ get_or xs 1 b → c ≡ get_or xs 2 c → xs ≡ a ∷ b ∷ c ∷ drop 3 xs
three [] a b c l i j k = absurd (omega (arith, l))
three (x ∷ []) a b c l i j k = absurd (omega (arith, l))
three (x ∷ y ∷ []) a b c l i j k = absurd (omega (arith, l))
three (x ∷ y ∷ z ∷ more) a b c l i j k = ap (λ p. p ∷ y ∷ z ∷ more) (sym i) ∙ ap (λ p. a ∷ p ∷ z ∷ more) (sym j) ∙ ap (λ p. a ∷ b ∷ p ∷ more) (sym k)

-- what is behind three items, as long as it is
pub rest_is : {A : Type 0} (xs : List A) → take (length xs - 3) (drop 3 xs) ≡ drop 3 xs
rest_is xs = take_all (length xs - 3) (drop 3 xs) (rw (length-drop 3 xs) (le_refl (length xs - 3)))

-- bytes that weren't found different are the same
pub not_different : (a b : List ℕ) (r : Bool) → r ≡ not (bytes_eq a b) → r ≡ false → a ≡ b
not_different a b r e f = (bytes_eq-Decides a b).0 (was_true (bytes_eq a b) (sym e ∙ f))
  where
    was_true : (x : Bool) → not x ≡ false → x ≡ true
    was_true true h = refl
    was_true false h = sym h

-- a text whose length isn't nothing isn't empty
pub not_empty : (bs : List ℕ) (r : Bool) → r ≡ (length bs == 0) → r ≡ false → bs ≢ []
not_empty [] r e f d = cc
not_empty (b ∷ bs) r e f d = cc

-- what is made where only unlawful texts are refused is lawful
pub lawful_where_made : {P E : Type 0} (b : Bool) (r : Result P E) (e : E) (p : P) → (b ≡ false → r ≡ Err e) → r ≡ Ok p → b ≡ true
lawful_where_made true r e p h is = refl
lawful_where_made false r e p h is = other e p (sym (h refl) ∙ is)
  where
    other : {P E : Type 0} (e : E) (p : P) → Err e ≡ Ok p → false ≡ true
    other e p d = cc
