-- A text that stands in another.
use Rattle.std.proofs.Common.{◌≡◌, ℕ, Bool, true, false, ◌||◌, List, [], ◌∷◌, ◌++◌, refl, sym, ap, ◌∙◌, subst, None, MatchBool, true≢false, ◌↔◌}
use Rattle.std.specs.Str.Iter.{HasSubslice}
use Rattle.std.specs.Str.Pattern.{HasMatch, FindsText}
use Rattle.std.proofs.lemmas.Str.Pattern.{contains_text}
use Rattle.rd_interpreter.specs.Texts.{begins, occurs}
use Rattle.rd_interpreter.proofs.TextPieces.{begins_append, begins_split}

either : (b c : Bool) → b ≡ true → (b || c) ≡ true
either true c h = refl
either false c h = absurd (true≢false (sym h))

other : (b c : Bool) → c ≡ true → (b || c) ≡ true
other true c h = refl
other false c h = h

-- at the front of a text
at_front : (n s : List ℕ) → begins n s ≡ true → occurs n s ≡ true
at_front n [] h = h
at_front n (b ∷ bs) h = either (begins n (b ∷ bs)) (occurs n bs) h

there : (before n after : List ℕ) → occurs n (before ++ (n ++ after)) ≡ true
there [] n after = at_front n (n ++ after) (begins_append n after)
there (b ∷ bs) n after = other (begins n (b ∷ (bs ++ (n ++ after)))) (occurs n (bs ++ (n ++ after))) (there bs n after)

one_of : (b c : Bool) {P : Type 0} → (b ≡ true → P) → (c ≡ true → P) → (b || c) ≡ true → P
one_of true c f g h = f refl
one_of false c f g h = g h

found : (n s : List ℕ) → occurs n s ≡ true → HasSubslice s n
found n [] h = let r = begins_split n [] h in ([], r.0, r.1)
found n (b ∷ bs) h =
    one_of (begins n (b ∷ bs)) (occurs n bs) (λ e. let r = begins_split n (b ∷ bs) e in ([], r.0, r.1)) (λ e. let r = found n bs e in (b ∷ r.0, r.1, ap (λ t. b ∷ t) r.2)) h

pub occurs_is : (r : Bool) (n s : List ℕ) → MatchBool r (HasMatch (FindsText n) s) (FindsText n s None) → r ≡ occurs n s
occurs_is r n s h = by_test r refl (occurs n s) refl
  where
    is : (r ≡ true) ↔ HasSubslice s n
    is = contains_text r n s h

    by_test : (b : Bool) → r ≡ b → (o : Bool) → occurs n s ≡ o → r ≡ occurs n s
    by_test true e true d = e ∙ sym d
    by_test true e false d = let sub = is.0 e in absurd (true≢false (sym (subst (λ t. occurs n t ≡ true) (sym sub.2) (there sub.0 n sub.1)) ∙ d))
    by_test false e true d = absurd (true≢false (sym (is.1 (found n s d)) ∙ e))
    by_test false e false d = e ∙ sym d
