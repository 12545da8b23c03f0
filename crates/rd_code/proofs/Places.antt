-- The place of a name among words.
use Rattle.std.proofs.Common.{◌≡◌, ℕ, ◌≤◌, Bool, true, false, cond, List, length, None, Some, refl, arith, nat_lt}
use Rattle.std.proofs.lemmas.Bool.{ltb-false}
use Rattle.std.proofs.lemmas.List.Sums.{prefix_len-le-length}
use Rattle.std.specs.Prelude.{not}
use Rattle.std.specs.List.{position, position_or_len}

not_below : (b : Bool) (m n : ℕ) → nat_lt m n ≡ b → m ≤ n → cond b (Some m) None ≡ None → n ≡ m
not_below true m n e le h = absurd cc
not_below false m n e le h = omega (arith, ltb-false m n e)

-- what is behind them all
pub no_place : {A : Type 0} (p : A → Bool) (xs : List A) → position p xs ≡ None → length xs ≡ position_or_len p xs
no_place p xs h = not_below (nat_lt (position_or_len p xs) (length xs)) (position_or_len p xs) (length xs) refl (prefix_len-le-length (λ x. not (p x)) xs) h
