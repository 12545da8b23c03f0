-- Texts that are being made.
use Rattle.std.proofs.Common.{◌≡◌, ℕ, zero, suc, ◌-◌, ◌<◌, Bool, true, false, nat_le, List, [], ◌∷◌, ◌++◌, length, refl, sym, ap, ◌∙◌, arith, append_assoc, append-nil, length-append, Option, Some, None, Result, Ok, Err, IsUtf8}
use Rattle.std.specs.Prelude.{if◌then◌else◌}
use Rattle.std.proofs.lemmas.Bool.Decides.{nat_tests}
use Rattle.rd_value.specs.declared.value.ErrorValue.{ErrorValue}
use Rattle.rd_value.specs.Limits.{max_size}
use Rattle.std.specs.Str.Pattern.{FindsText, SplitsAroundMatch}
use Rattle.rd_interpreter.specs.Texts.{in_front, begins, pieces_from, behind_each, joined, replaced}
use Rattle.rd_interpreter.proofs.TextPieces.{pieces_around, pieces_end, past_utf8}
use Rattle.rd_interpreter.specs.Draft.{bounded, added, all_added}

too_long : (t : List ℕ) → max_size < length t → bounded t ≡ None
unfolding bounded
too_long t h = by_test (nat_le (length t) max_size) refl
  where
    by_test : (b : Bool) → nat_le (length t) max_size ≡ b → (if b then Some t else None) ≡ None
    by_test true e = absurd (grind (arith, nat_tests))
    by_test false e = refl

-- one text and then another
pub added_twice : (o : Option (List ℕ)) (a b : List ℕ) → added (added o a) b ≡ added o (a ++ b)
unfolding bounded
added_twice None a b = refl
added_twice (Some s) a b = by_test (nat_le (length (s ++ a)) max_size) refl
  where
    by_test : (t : Bool) → nat_le (length (s ++ a)) max_size ≡ t → added (if t then Some (s ++ a) else None) b ≡ bounded (s ++ (a ++ b))
    by_test true e = ap bounded (append_assoc s a b)
    by_test false e = sym (too_long (s ++ (a ++ b)) (past e))
      where
        past : nat_le (length (s ++ a)) max_size ≡ false → max_size < length (s ++ (a ++ b))
        past e = rw (length-append s (a ++ b), length-append a b) (grind (arith, nat_tests, length-append s a))

-- nothing more
pub added_nothing : (p o : Option (List ℕ)) (a : List ℕ) → p ≡ added o a → added p [] ≡ p
added_nothing p o a e = ap (λ x. added x []) e ∙ added_twice o a [] ∙ ap (added o) (append-nil a) ∙ sym e

pub all_added_twice : (o : Option (List ℕ)) (a : List ℕ) (r : Result (List ℕ) ErrorValue) → all_added (added o a) r ≡ all_added o (in_front a r)
all_added_twice o a (Ok t) = ap Ok (added_twice o a t)
all_added_twice o a (Err e) = refl

-- ---- a text in place of another

some_more : (new piece : List ℕ) (ps : List (List ℕ)) → behind_each new (piece ∷ ps) ≡ new ++ joined new (piece ∷ ps)
some_more new piece ps = append_assoc new piece (behind_each new ps)

-- there always is a piece
some_piece : (s : List ℕ) (skip : ℕ) (piece t : List ℕ) (new : List ℕ) → behind_each new (pieces_from s skip piece t) ≡ new ++ joined new (pieces_from s skip piece t)
some_piece s skip piece [] new = some_more new piece []
some_piece s (suc skip) piece (b ∷ bs) new = some_piece s skip piece bs new
some_piece s zero piece (b ∷ bs) new = by_test (begins s (b ∷ bs)) (some_piece s zero (piece ++ b ∷ []) bs new)
  where
    by_test : (t : Bool) → behind_each new (pieces_from s zero (piece ++ b ∷ []) bs) ≡ new ++ joined new (pieces_from s zero (piece ++ b ∷ []) bs) → behind_each new (if t then piece ∷ pieces_from s (length s - 1) [] bs else pieces_from s zero (piece ++ b ∷ []) bs) ≡ new ++ joined new (if t then piece ∷ pieces_from s (length s - 1) [] bs else pieces_from s zero (piece ++ b ∷ []) bs)
    by_test true h = some_more new piece (pieces_from s (length s - 1) [] bs)
    by_test false h = h

pub replaced_turn : (old new t piece more : List ℕ) (o p q target : Option (List ℕ)) → 0 < length old → IsUtf8 t → SplitsAroundMatch (FindsText old) t piece more → p ≡ added o piece → q ≡ added p new → added o (replaced old new t) ≡ target → IsUtf8 more × (added q (replaced old new more) ≡ target)
replaced_turn old new t piece more o p q target some u h e f k = (
  past_utf8 old t piece more u h,
  ap (λ x. added x (replaced old new more)) (f ∙ ap (λ x. added x new) e) ∙ added_twice (added o piece) new (replaced old new more) ∙ added_twice o piece (new ++ replaced old new more) ∙ ap (added o) (sym whole) ∙ k,
)
  where
    whole : replaced old new t ≡ piece ++ (new ++ replaced old new more)
    whole = ap (joined new) (pieces_around old t piece more some h) ∙ ap (λ l. piece ++ l) (some_piece old 0 [] more new)

pub replaced_last : (old new t : List ℕ) (o p target : Option (List ℕ)) → FindsText old t None → p ≡ added o t → added o (replaced old new t) ≡ target → p ≡ target
replaced_last old new t o p target h e k = e ∙ ap (added o) (sym (append-nil t)) ∙ ap (λ l. added o (joined new l)) (sym (pieces_end old t h)) ∙ k
