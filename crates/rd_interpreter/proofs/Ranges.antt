-- Numbers with a step between each two.
use Rattle.std.proofs.Common.{◌≡◌, ◌≢◌, ◌⊎◌, inl, inr, ℕ, ℤ, pos, negsuc, zero, suc, ◌+◌, ◌-◌, ◌/◌, ◌^◌, ◌<◌, ◌+ℤ◌, ◌-ℤ◌, neg_ℤ, ◌≤ℤ◌, ◌<ℤ◌, FitsSigned, Bool, false, ◌&&◌, Err, length, refl, sym, ap, ◌∙◌, List, [], ◌∷◌, ◌++◌, append_assoc, arith, w64, ⊎_elim}
use Rattle.std.proofs.Math.Nat.{div-eq_of_lt, add-div_right}
use Rattle.std.proofs.lemmas.Bool.{cases_lt}
use Rattle.std.proofs.lemmas.Int.{ints}
use Rattle.std.specs.Int.{saturate_signed}
use Rattle.std.specs.Prelude.{nat_le}
use borrow.Author.Tests.{lt-leb}
use Rattle.rd_value.specs.declared.value.FileValue.{FileValue}
use Rattle.rd_value.specs.declared.value.Datum.{Datum}
use Rattle.rd_value.specs.declared.value.Datum.TheVariants as value
use Rattle.rd_value.specs.declared.expr.Lazy.TheVariants as lazy
use Rattle.rd_value.specs.Limits.{max_size, max_depth, size}
use Rattle.rd_value.specs.Depth.{depth}
use Rattle.rd_value.specs.Truth.{is_zero}
use Rattle.rd_value.specs.Operators.{times, value_limit}
use Rattle.rd_interpreter.specs.Builtins.{ranging, range_length, range_of, produced, steps_over}
use Rattle.rd_interpreter.specs.Making.{is_kept, made}
use Rattle.rd_interpreter.specs.declared.halt.Halt.{Halt}
use Rattle.rd_interpreter.specs.declared.halt.Halt.TheVariants.{Raised, OutOfMemory}
use Rattle.rd_value.specs.declared.value.ErrorValue.{ErrorValue}
use Rattle.rd_interpreter.specs.Running.{Gives, Raises, own}
use Rattle.rd_interpreter.specs.State.{Ran, State}
use Rattle.rd_interpreter.proofs.Sizes.{list_bytes}

-- a number is counted, or it is below 0
sides : (z : ℤ) → (pos (times z) ≡ z) ⊎ ((times z ≡ 0) × (z <ℤ pos 0))
sides (pos n) = inl refl
sides (negsuc n) = inr (refl, omega (arith, ints))

-- ---- how far it is, behind a step

up : (a b : ℤ) (s : ℕ) → times (b -ℤ (a +ℤ pos s)) ≡ times (b -ℤ a) - s
up a b s = omega (arith, ints, sides (b -ℤ (a +ℤ pos s)), sides (b -ℤ a))

down : (a b : ℤ) (s : ℕ) → times ((a +ℤ negsuc s) -ℤ b) ≡ times (a -ℤ b) - suc s
down a b s = omega (arith, ints, sides ((a +ℤ negsuc s) -ℤ b), sides (a -ℤ b))

up_to : (z b : ℤ) → FitsSigned w64 b → neg_ℤ (pos (2 ^ 63)) ≤ℤ z → times (b -ℤ saturate_signed w64 z) ≡ times (b -ℤ z)
up_to z b f h = grind (arith, ints, sides (b -ℤ saturate_signed w64 z), sides (b -ℤ z))

down_to : (z b : ℤ) → FitsSigned w64 b → z <ℤ pos (2 ^ 63) → times (saturate_signed w64 z -ℤ b) ≡ times (z -ℤ b)
down_to z b f h = grind (arith, ints, sides (saturate_signed w64 z -ℤ b), sides (z -ℤ b))

-- ---- the number behind the last one isn't used

up_inside : (z b : ℤ) → FitsSigned w64 b → neg_ℤ (pos (2 ^ 63)) ≤ℤ z → 0 < times (b -ℤ z) → saturate_signed w64 z ≡ z
up_inside z b f h p = grind (arith, ints, sides (b -ℤ z))

down_inside : (z b : ℤ) → FitsSigned w64 b → z <ℤ pos (2 ^ 63) → 0 < times (z -ℤ b) → saturate_signed w64 z ≡ z
down_inside z b f h p = grind (arith, ints, sides (z -ℤ b))

-- ---- how many steps

none : (s : ℕ) → 0 < s → steps_over 0 s ≡ 0
none s p = div-eq_of_lt (omega (arith, p))

one_step_less : (d s k : ℕ) → 0 < s → steps_over d s ≡ suc k → steps_over (d - s) s ≡ k
one_step_less zero s k p h = absurd (omega (arith, none s p, h))
one_step_less (suc d) s k p h = ⊎_elim (λ l. last l) (λ l. ap (λ x. x / s) (omega (arith, p, l)) ∙ now) (cases_lt d s)
  where
    more : (d + s) / s ≡ d / s + 1
    more = add-div_right d p

    now : d / s ≡ k
    now = let same : suc d + s - 1 ≡ d + s = omega arith in omega (arith, more, ap (λ x. x / s) same, h)

    last : d < s → steps_over (suc d - s) s ≡ k
    last l = let passed : suc d - s ≡ 0 = omega (arith, l) in ap (λ x. steps_over x s) passed ∙ none s p ∙ sym (div-eq_of_lt l) ∙ now

some_steps : (d s k : ℕ) → 0 < s → steps_over d s ≡ suc k → 0 < d
some_steps zero s k p h = absurd (omega (arith, none s p, h))
some_steps (suc d) s k p h = omega arith

-- ---- the next number

next_up : (a b z : ℤ) (s k : ℕ) → FitsSigned w64 a → FitsSigned w64 b → z ≡ saturate_signed w64 (a +ℤ pos (suc s)) → range_length a b (pos (suc s)) ≡ suc k → range_length z b (pos (suc s)) ≡ k
next_up a b z s k f g e h =
    let far : times (b -ℤ z) ≡ times (b -ℤ a) - suc s = rw e (up_to (a +ℤ pos (suc s)) b g (omega (arith, ints, f))) ∙ up a b (suc s) in
    ap (λ x. steps_over x (suc s)) far ∙ one_step_less (times (b -ℤ a)) (suc s) k (omega arith) h

next_down : (a b z : ℤ) (s k : ℕ) → FitsSigned w64 a → FitsSigned w64 b → z ≡ saturate_signed w64 (a +ℤ negsuc s) → range_length a b (negsuc s) ≡ suc k → range_length z b (negsuc s) ≡ k
next_down a b z s k f g e h =
    let far : times (z -ℤ b) ≡ times (a -ℤ b) - suc s = rw e (down_to (a +ℤ negsuc s) b g (omega (arith, ints, f))) ∙ down a b s in
    ap (λ x. steps_over x (suc s)) far ∙ one_step_less (times (a -ℤ b)) (suc s) k (omega arith) h

-- one number fewer is left
pub next_number : (a b s z : ℤ) (k : ℕ) → FitsSigned w64 a → FitsSigned w64 b → s ≢ pos 0 → z ≡ saturate_signed w64 (a +ℤ s) → range_length a b s ≡ suc k → range_length z b s ≡ k
next_number a b (pos zero) z k f g n e h = absurd (n refl)
next_number a b (pos (suc s)) z k f g n e h = next_up a b z s k f g e h
next_number a b (negsuc s) z k f g n e h = next_down a b z s k f g e h

-- where one is left, it isn't past 64 bits
inside : (a b s z : ℤ) (k : ℕ) → FitsSigned w64 a → FitsSigned w64 b → s ≢ pos 0 → z ≡ saturate_signed w64 (a +ℤ s) → range_length z b s ≡ suc k → z ≡ a +ℤ s
inside a b (pos zero) z k f g n e h = absurd (n refl)
inside a b (pos (suc s)) z k f g n e h =
    let low : neg_ℤ (pos (2 ^ 63)) ≤ℤ (a +ℤ pos (suc s)) = omega (arith, ints, f) in
    let some : 0 < times (b -ℤ z) = some_steps (times (b -ℤ z)) (suc s) k (omega arith) h in
    e ∙ up_inside (a +ℤ pos (suc s)) b g low (rw (e, up_to (a +ℤ pos (suc s)) b g low) at some)
inside a b (negsuc s) z k f g n e h =
    let high : (a +ℤ negsuc s) <ℤ pos (2 ^ 63) = omega (arith, ints, f) in
    let some : 0 < times (z -ℤ b) = some_steps (times (z -ℤ b)) (suc s) k (omega arith) h in
    e ∙ down_inside (a +ℤ negsuc s) b g high (rw (e, down_to (a +ℤ negsuc s) b g high) at some)

same_numbers : {F : Type 0} (a b s z : ℤ) (k : ℕ) → FitsSigned w64 a → FitsSigned w64 b → s ≢ pos 0 → z ≡ saturate_signed w64 (a +ℤ s) → range_length z b s ≡ k → ranging {F = F} k z s ≡ ranging k (a +ℤ s) s
same_numbers a b s z zero f g n e h = refl
same_numbers a b s z (suc k) f g n e h = ap (λ x. ranging (suc k) x s) (inside a b s z k f g n e h)

-- one number more is in the list
pub one_more : {F : Type 0} (a b s z : ℤ) (n m : ℕ) (vs ws target : List (Datum F)) → FitsSigned w64 a → FitsSigned w64 b → s ≢ pos 0 → z ≡ saturate_signed w64 (a +ℤ s) → n ≡ suc m → ws ≡ vs ++ value.Int a ∷ [] →
    (vs ++ ranging n a s ≡ target) × (range_length a b s ≡ n) → (ws ++ ranging m z s ≡ target) × (range_length z b s ≡ m)
one_more a b s z n m vs ws target f g h e more new i =
    let left : range_length z b s ≡ m = next_number a b s z m f g h e (i.1 ∙ more) in
    let all : vs ++ value.Int a ∷ ranging m (a +ℤ s) s ≡ target = rw more at i.0 in
    (rw (new, append_assoc, same_numbers a b s z m f g h e left) all, left)

-- ---- a list with more numbers than bytes are allowed

length_ranging : (F : Type 0) (n : ℕ) (a s : ℤ) → length (ranging {F = F} n a s) ≡ n
length_ranging F zero a s = refl
length_ranging F (suc n) a s = ap suc (length_ranging F n (a +ℤ s) s)

past : (n : ℕ) (b : Bool) → max_size < n → (nat_le n max_size && b) ≡ false
past n b h = rw (lt-leb n max_size h) refl

too_long : (vs : List (Datum FileValue)) → max_size < length vs → is_kept own (lazy.Val (value.List vs)) ≡ false
too_long vs more = rw (lazy.outs-Val (value.List vs)) (past (size own (value.List vs)) (nat_le (depth (value.List vs)) max_depth) (omega (arith, list_bytes own vs, more)))

is_not_zero : (s : ℤ) → s ≢ pos 0 → is_zero s ≡ false
is_not_zero (pos zero) n = absurd (n refl)
is_not_zero (pos (suc s)) n = refl
is_not_zero (negsuc s) n = refl

module _ {N : Type 0} (a b s : ℤ) (t : State N FileValue) (n : s ≢ pos 0) where
  -- it isn't made
  pub too_many : max_size < range_length a b s → produced own (range_of a b s) t ≡ Err value_limit
  too_many more = rw (is_not_zero s n, too_long (ranging (range_length a b s) a s) (omega (arith, length_ranging FileValue (range_length a b s) a s, more))) refl

  -- every other is
  pub is_made : (vs : List (Datum FileValue)) → vs ≡ ranging (range_length a b s) a s → produced own (range_of a b s) t ≡ made own (lazy.Val (value.List vs)) t
  is_made vs e = rw (is_not_zero s n, e) refl

-- what was raised is the error of what isn't made
pub raised : {A : Type 0} (h : Halt) (e : ErrorValue) (s : State ℕ FileValue) (r : Ran ℕ FileValue A) → Raises h e → r ≡ Err e → Gives (Err h) s r
raised (Raised x) e s r f k = k ∙ ap Err (sym f)
raised OutOfMemory e s r f k = tt
