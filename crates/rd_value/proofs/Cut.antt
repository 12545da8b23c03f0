-- Where a text is cut.
use Rattle.std.proofs.Common.{◌≡◌, ℕ, zero, suc, ◌<◌, ◌≤◌, Bool, true, false, cond, List, length, refl, sym, subst, arith}
use Rattle.std.specs.Prelude.{slice_index}
use Rattle.std.specs.Fmt.{is_char_start}
use Rattle.std.specs.Fmt.Cut.{floor_char_boundary}
use Rattle.std.specs.Str.{IsCharBoundary}
use Rattle.std.proofs.lemmas.Bool.Decides.{nat_tests}

begins : (b : ℕ) → is_char_start b ≡ true → 128 ≤ b → 192 ≤ b
begins b h l = grind (arith, nat_tests)

begins_not : (b : ℕ) → is_char_start b ≡ false → (128 ≤ b → 192 ≤ b) → ⊥
begins_not b h f = grind (arith, nat_tests)

-- the last boundary up to a place is the one that the recursion finds
pub floor_is : (bs : List ℕ) (i kept : ℕ) → i < length bs → kept ≤ i → IsCharBoundary bs kept → ((j : ℕ) → kept < j → j ≤ i → IsCharBoundary bs j → ⊥) → floor_char_boundary bs i ≡ kept
unfolding floor_char_boundary
floor_is bs zero kept within low at after = omega arith
floor_is bs (suc i) kept within low at after =
    by_test (is_char_start (slice_index bs (suc i))) refl (λ below. floor_is bs i kept (omega arith) below at (λ j p q. after j p (omega arith)))
  where
    by_test : (t : Bool) → t ≡ is_char_start (slice_index bs (suc i)) → (kept ≤ i → floor_char_boundary bs i ≡ kept) → cond t (suc i) (floor_char_boundary bs i) ≡ kept
    by_test true e rest =
        let last : kept < suc i → ⊥ = λ lt. after (suc i) lt (omega arith) (omega arith, λ _ h. begins _ (sym e) h) in
        omega (arith, last)
    by_test false e rest =
        let other : kept ≡ suc i → ⊥ = λ same. begins_not _ (sym e) ((subst (IsCharBoundary bs) same at).1 within) in
        rest (omega (arith, other))
