-- Whole texts.
use Rattle.std.proofs.Common.{◌≡◌, ℕ, suc, ◌+◌, ◌≤◌, Bool, true, false, List, [], ◌∷◌, ◌++◌, Ok, Err, refl, sym, ap, subst, ◌∙◌, append_assoc, arith, ◌≢◌, length, inl, inr}
use Rattle.std.specs.Prelude.{◌==◌}
use Rattle.std.proofs.lemmas.Bool.{eqb-true}
use Rattle.std.proofs.lemmas.List.{append-nil}
use Rattle.rd_parse.specs.Form.{Form, IsText, Viable, IsStuck, StopsAt}
use Rattle.rd_syntax.specs.declared.token.Token.{Token}
use Rattle.rd_parse.specs.Nesting.{ViableWithin, TooDeep}
use Rattle.rd_parse.specs.Reader.{Stop, Refused, Deep, Outcome, Reader, head}
use Rattle.rd_parse.proofs.Dive.{Ends, Dive, Dives}
use Rattle.rd_parse.proofs.Laws.{Grows, Lawful, raise, got, got_value, got_rest, stopped}

module _ {T A : Type 0} (P : ℕ → Form T A) (f : ℕ → Reader T A) (first more : T → Bool) (null : Bool) (grows : Grows P) (laws : (n : ℕ) → Lawful n P f first more null) where
  pub text_found : (n : ℕ) (a : A) (ts : List T) → f n ts ≡ Ok (a, []) → IsText P n a ts
  text_found n a ts e = let s = (laws n).found a ts [] e in subst (λ (ts : List T). P n a ts []) (sym s.parts) (s.anywhere [])

  pub text_only : (n : ℕ) (a : A) (ts : List T) → IsText P n a ts → f n ts ≡ Ok (a, [])
  text_only n a ts h = (laws n).only a ts [] h refl

  -- a text has one value
  pub one_value : (n m : ℕ) (a b : A) (ts : List T) → IsText P n a ts → IsText P m b ts → a ≡ b
  one_value n m a b ts h k =
      got_value a b [] [] (sym (text_only (n + m) a ts (raise P grows n (n + m) a ts [] (omega arith) h)) ∙ text_only (n + m) b ts (raise P grows m (n + m) b ts [] (omega arith) k))

  -- what is read in any way when these tokens come is read whatever follows them
  clash : (n : ℕ) (used : List T) (t : T) (r : (m : ℕ) (k : List T) → Outcome T A)
      → ((m : ℕ) (after : List T) → n ≤ m → f m (used ++ t ∷ after) ≡ r m (t ∷ after))
      → ((m : ℕ) (after : List T) (a : A) → r m (t ∷ after) ≡ Ok (a, []) → ⊥)
      → Viable P (used ++ t ∷ []) → ⊥
  clash n used t r steady differs v =
      let h : P v.1 v.2 (used ++ (t ∷ v.0)) [] = subst (λ (ts : List T). P v.1 v.2 ts []) (append_assoc used (t ∷ []) v.0) v.3 in
      let e : f (n + v.1) (used ++ (t ∷ v.0)) ≡ Ok (v.2, []) = text_only (n + v.1) v.2 _ (raise P grows v.1 (n + v.1) v.2 _ [] (omega arith) h) in
      differs (n + v.1) v.0 v.2 (sym (steady (n + v.1) v.0 (omega arith)) ∙ e)

  pub text_refused : (n : ℕ) (ts after : List T) → f n ts ≡ Err (Refused after) → StopsAt P ts after
  text_refused n ts after e =
      let s = (laws n).refused ts after e in
      record {
        before = s.used;
        parts = s.parts;
        viable = (s.completes.by_, s.completes.depth, s.completes.value, subst (λ (c : List T). P s.completes.depth s.completes.value (s.used ++ c) []) (append-nil s.completes.by_) (s.completes.gives []));
        stuck = stuck s.used after s.steady;
      }
    where
      stuck : (used after : List T) → ((m : ℕ) (k : List T) → n ≤ m → head after ≡ head k → f m (used ++ k) ≡ Err (Refused k)) → IsStuck P used after
      stuck used [] steady = λ m a h.
          let e : f (n + m) (used ++ []) ≡ Ok (a, []) = ap (f (n + m)) (append-nil used) ∙ text_only (n + m) a used (raise P grows m (n + m) a used [] (omega arith) h) in
          let s : f (n + m) (used ++ []) ≡ Err (Refused []) = steady (n + m) [] (omega arith) refl in
          cc
      stuck used (t ∷ after) steady = clash n used t (λ m k. Err (Refused k)) (λ m after le. steady m (t ∷ after) le refl) (λ m after a e. let no : stopped {T = T} (t ∷ after) ≡ got a [] = e in cc)

  -- a whole text, and a token behind it
  pub text_longer : (n : ℕ) (ts : List T) (a : A) (t : T) (after : List T) → f n ts ≡ Ok (a, t ∷ after) → StopsAt P ts (t ∷ after)
  text_longer n ts a t after e =
      let s = (laws n).found a ts (t ∷ after) e in
      record {
        before = s.used;
        parts = s.parts;
        viable = ([], n, a, s.anywhere []);
        stuck = clash n s.used t (λ m k. Ok (a, k)) (λ m after le. s.steady m (t ∷ after) le refl) (λ m after b e. let not_empty : t ∷ after ≡ [] = got_rest a b (t ∷ after) [] e in cc);
      }

  -- what stopped is no text within the levels
  pub text_not_read : (n : ℕ) (ts : List T) (h : Stop T) (a : A) → f n ts ≡ Err h → IsText P n a ts → ⊥
  text_not_read n ts h a e t = let no : f n ts ≡ Ok (a, []) = text_only n a ts t in cc

  pub text_not_longer : (n : ℕ) (ts rest : List T) (b a : A) → rest ≢ [] → f n ts ≡ Ok (b, rest) → IsText P n a ts → ⊥
  text_not_longer n ts rest b a some e t = some (got_rest b a rest [] (sym e ∙ text_only n a ts t))

  pub text_more : (n : ℕ) (ts : List T) (a : A) (after : List T) → after ≢ [] → f n ts ≡ Ok (a, after) → StopsAt P ts after
  text_more n ts a [] some e = absurd (some refl)
  text_more n ts a (t ∷ after) some e = text_longer n ts a t after e

-- where a text opens one level too many
module _ {A : Type 0} (P : ℕ → Form Token A) (f : ℕ → Reader Token A) (first more : Token → Bool) (null : Bool) (grows : Grows P) (laws : (n : ℕ) → Lawful n P f first more null) (m : ℕ) (dives : Dives ⊥ (suc m) P f) where
  ends_viable : (n : ℕ) (used : List Token) → Ends n P used → ViableWithin P n used
  ends_viable n used c = (c.by_, c.value, subst (λ (r : List Token). P n c.value (used ++ r) []) (append-nil c.by_) (c.gives []))

  deep : (ts after : List Token) → Dive (suc m) P f ts after → TooDeep P (suc m) ts after
  deep ts after d = record {
    before = d.used;
    token = d.token;
    behind = d.after;
    parts = d.parts;
    left = d.left;
    closed = λ v.
        let s = d.sinks v.0 in
        let h : P (suc m) v.1 (d.used ++ d.token ∷ v.0) [] = subst (λ (ts : List Token). P (suc m) v.1 ts []) (append_assoc d.used (d.token ∷ []) v.0) v.2 in
        text_not_read P f first more null grows laws (suc m) (d.used ++ d.token ∷ v.0) (Deep s.0) v.1 s.1 h;
    viable = ends_viable (suc (suc m)) (d.used ++ d.token ∷ []) d.completes;
    start = d.fits.0;
    pending = d.fits.1;
    split = d.fits.2;
    flat = d.fits.3;
    fits = ends_viable (suc m) d.fits.0 d.fits.4;
  }

  pub text_deep : (ts after : List Token) → f (suc m) ts ≡ Err (Deep after) → TooDeep P (suc m) ts after
  text_deep ts after e = elim (dives ts after e) [ inl d ↦ deep ts after d | inr b ↦ absurd b ]

pub none_left : {T : Type 0} (n : ℕ) (ts : List T) → n ≡ length ts → (n == 0) ≡ true → ts ≡ []
none_left n [] l h = refl
none_left n (t ∷ ts) l h = absurd (let no : n ≡ 0 = eqb-true _ _ h in omega (arith, l))

pub some_left : {T : Type 0} (n : ℕ) (ts : List T) → n ≡ length ts → (n == 0) ≡ false → ts ≢ []
some_left n ts l h e = let none : n ≡ 0 = l ∙ ap length e in let same : (n == 0) ≡ true = rw none refl in cc
