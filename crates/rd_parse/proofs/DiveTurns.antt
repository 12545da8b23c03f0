-- Repetitions, and choices by two tokens, where a token opens one level too many.
use Rattle.std.proofs.Common.{◌≡◌, ℕ, zero, suc, ◌≤◌, ◌<◌, Bool, true, false, ◌&&◌, cond, List, [], ◌∷◌, ◌++◌, length, Option, Some, Ok, refl, sym, ap, subst, ◌∙◌, append_assoc, arith, inl, inr, ◌⊎◌, length-append}
use Rattle.rd_parse.specs.Form.{Form, one, either, many, tail}
use Rattle.rd_parse.specs.Reader.{Reader, head, holds, sees, hits, and_then, ◌>>=◌, pure, read_one, read_many_by, read_many, read_tail_by, read_tail, pair, read_pick}
use Rattle.rd_parse.proofs.Laws.{Grows, Found, Lawful, head_append, one_lawful}
use Rattle.rd_parse.proofs.More.{begins, by_true, by_false, way}
use Rattle.rd_parse.proofs.Dive.{Ends, Fits, Plain, fits_map, fits_behind, every_both, Sinks, Dive, Dives, sunk, bind_deep, not_sunk, one_not, split_here}
use Rattle.rd_syntax.specs.declared.token.Token.{Token}

-- the same, for every number of turns that is enough
pub record DiveBy {A : Type 0} (n : ℕ) (P : ℕ → Form Token (List A)) (r : ℕ → Reader Token (List A)) (ts rest : List Token) : Type 0 where
  pub used : List Token
  pub token : Token
  pub after : List Token
  pub parts : ts ≡ used ++ token ∷ after
  pub left : rest ≡ token ∷ after
  pub completes : Ends (suc n) P (used ++ token ∷ [])
  pub fits : Fits n P used
  pub sinks : (turns : ℕ) (k : List Token) → length (used ++ token ∷ k) < turns → Sinks (r turns) (used ++ token ∷ k)

from_suc : (Q : ℕ → Type 0) (below_ : ℕ) → ((turns : ℕ) → below_ ≤ turns → Q (suc turns)) → (turns : ℕ) → below_ < turns → Q turns
from_suc Q below_ h zero lt = absurd (omega arith)
from_suc Q below_ h (suc turns) lt = h turns (omega arith)

same_head : (ts used after k : List Token) (t : Token) → ts ≡ used ++ t ∷ after → head ts ≡ head (used ++ t ∷ k)
same_head ts used after k t parts = ap head parts ∙ head_append used (t ∷ after) (t ∷ k) refl

-- ---- any number of them

module _ {A : Type 0} (bad : Type 0) (n : ℕ) (P : ℕ → Form Token A) (f : ℕ → Reader Token A) (fp mp : Token → Bool) (grows : Grows P) (lp : Lawful n P f fp mp false) (dp : Dives bad n P f) (plain_p : Plain P) where
  abbrev by_turns : ℕ → Reader Token (List A)
  by_turns turns = read_many_by fp (f n) turns

  some_used : (a : A) (used : List Token) → P n a (used ++ []) [] → 0 < length used
  some_used a used h = omega (arith, lp.shrinks a (used ++ []) [] h, length-append used [])

  ends_later : (m : ℕ) (a : A) (used u : List Token) → ((k : List Token) → P m a (used ++ k) k) → Ends m (λ m. many (P m)) u → Ends m (λ m. many (P m)) (used ++ u)
  ends_later m a used u text c = record {
    by_ = c.by_;
    value = a ∷ c.value;
    gives = λ k. (u ++ (c.by_ ++ k), subst (λ (ts : List Token). P m a ts (u ++ (c.by_ ++ k))) (sym (append_assoc used u (c.by_ ++ k))) (text (u ++ (c.by_ ++ k))), c.gives k);
  }

  first : (ts rest : List Token) → sees fp ts ≡ true → Dive n P f ts rest → DiveBy n (λ m. many (P m)) by_turns ts rest
  first ts rest y d = record {
    used = d.used;
    token = d.token;
    after = d.after;
    parts = d.parts;
    left = d.left;
    completes = record { by_ = d.completes.by_; value = d.completes.value ∷ []; gives = λ k. (k, d.completes.gives k, refl) };
    fits = fits_map n P (λ m. many (P m)) d.used (λ u c. record { by_ = c.by_; value = c.value ∷ []; gives = λ k. (k, c.gives k, refl) }) d.fits;
    sinks = λ turns k lt.
        let s = d.sinks k in
        from_suc (λ turns. Sinks (by_turns turns) (d.used ++ d.token ∷ k)) (length (d.used ++ d.token ∷ k))
        (λ turns le. (s.0, by_true (sees fp (d.used ++ d.token ∷ k)) _ _ (sym (ap (holds fp) (same_head ts d.used d.after k d.token d.parts)) ∙ y) ∙ rw s.1 refl)) turns lt;
  }

  later : (a : A) (ts mid rest : List Token) → Found n P f a ts mid → DiveBy n (λ m. many (P m)) by_turns mid rest → DiveBy n (λ m. many (P m)) by_turns ts rest
  later a ts mid rest p d =
      record {
        used = p.used ++ d.used;
        token = d.token;
        after = d.after;
        parts = p.parts ∙ ap (λ (r : List Token). p.used ++ r) d.parts ∙ sym (split_here p.used d.used d.token d.after);
        left = d.left;
        completes =
            subst (λ (u : List Token). Ends (suc n) (λ m. many (P m)) u) (sym (append_assoc p.used d.used (d.token ∷ []))) (ends_later (suc n) a p.used (d.used ++ d.token ∷ []) (λ k. grows n a _ _ (p.anywhere k)) d.completes);
        fits = fits_behind n P (λ m. many (P m)) (λ m. many (P m)) a p.used d.used plain_p p.anywhere (λ u. ends_later n a p.used u p.anywhere) d.fits;
        sinks = λ turns k lt.
            let next : List Token = d.used ++ d.token ∷ k in
            let long : 0 < length p.used = some_used a p.used (p.anywhere []) in
            let here : f n (p.used ++ next) ≡ Ok (a, next) = p.steady n next (omega arith) (same_head mid d.used d.after k d.token d.parts) in
            let all : (p.used ++ d.used) ++ d.token ∷ k ≡ p.used ++ next = split_here p.used d.used d.token k in
            subst (λ (ts : List Token). Sinks (by_turns turns) ts) (sym all)
            (from_suc (λ turns. Sinks (by_turns turns) (p.used ++ next)) (length (p.used ++ next))
            (λ turns le.
            let s = d.sinks turns k (omega (arith, le, long, length-append p.used next)) in
            (s.0, by_true (sees fp (p.used ++ next)) _ _ (begins n P f fp mp lp a _ _ (p.anywhere next)) ∙ rw (here, s.1) refl))
            turns (subst (λ (ts : List Token). length ts < turns) all lt));
      }

  many_dives_by : (turns : ℕ) (ts rest : List Token) → length ts < turns → by_turns turns ts ≡ sunk rest → DiveBy n (λ m. many (P m)) by_turns ts rest ⊎ bad
  many_dives_by zero ts rest lt e = absurd (omega arith)
  many_dives_by (suc turns) ts rest lt e =
      elim (way (sees fp ts)) [
        | inl y ↦ elim (bind_deep (f n ts) (λ a. read_many_by fp (f n) turns >>= λ more. pure (a ∷ more)) rest (sym (by_true (sees fp ts) _ _ y) ∙ e)) [
          | inl h ↦ elim (dp ts rest h) [ inl d ↦ inl (first ts rest y d) | inr b ↦ inr b ]
          | inr h ↦ elim (bind_deep (read_many_by fp (f n) turns h.1) (λ more. pure (h.0 ∷ more)) rest h.3) [
            | inl g ↦
                let p = lp.found h.0 ts h.1 h.2 in
                let less : length h.1 < turns = omega (arith, some_used h.0 p.used (p.anywhere []), ap length p.parts, length-append p.used h.1, lt) in
                elim (many_dives_by turns h.1 rest less g) [ inl d ↦ inl (later h.0 ts h.1 rest p d) | inr b ↦ inr b ]
            | inr g ↦ absurd (not_sunk (h.0 ∷ g.0) g.1 rest g.3)
          ]
        ]
        | inr y ↦ absurd (not_sunk {A = List A} [] ts rest (sym (by_false (sees fp ts) _ _ y) ∙ e))
      ]

  pub many_dives : Dives bad n (λ m. many (P m)) (λ m. read_many fp (f m))
  many_dives ts rest e =
      elim (many_dives_by (suc (length ts)) ts rest (omega arith) e) [
        | inl d ↦ inl (record { used = d.used; token = d.token; after = d.after; parts = d.parts; left = d.left; completes = d.completes; fits = d.fits; sinks = λ k. d.sinks (suc (length (d.used ++ d.token ∷ k))) k (omega arith) })
        | inr b ↦ inr b
      ]

-- ---- each behind a sign

module _ {S C A : Type 0} (bad : Type 0) (n : ℕ) (c : Token → Option C) (sign : Token) (is_sign : C) (is : c sign ≡ Some is_sign) (P : S → ℕ → Form Token A) (f : S → ℕ → Reader Token A) (fp : S → Token → Bool) (mp : Token → Bool) (step : S → A → S)
    (grows : (s : S) → Grows (P s)) (lp : (s : S) → Lawful n (P s) (f s) (fp s) mp false) (dp : (s : S) → Dives bad n (P s) (f s)) (plain_c : Plain (λ _. one c)) (plain_p : (s : S) → Plain (P s)) where
  abbrev T' : S → ℕ → Form Token (List A)
  T' s m = tail c (λ s. P s m) step s

  abbrev by_signs : S → ℕ → Reader Token (List A)
  by_signs s turns = read_tail_by c fp (λ s. f s n) step turns s

  ends_item : (m : ℕ) (s : S) (u : C) (sign v : List Token) → ((k : List Token) → one c u (sign ++ k) k) → Ends m (P s) v → Ends m (T' s) (sign ++ v)
  ends_item m s u sign v text e = record {
    by_ = e.by_;
    value = e.value ∷ [];
    gives = λ k. (u, v ++ (e.by_ ++ k), subst (λ (ts : List Token). one c u ts (v ++ (e.by_ ++ k))) (sym (append_assoc sign v (e.by_ ++ k))) (text (v ++ (e.by_ ++ k))), k, e.gives k, inl refl);
  }

  -- a sign and an item
  abbrev Signed : S → ℕ → Form Token (C × A)
  Signed s m x ts rest = (mid : List Token) × one c x.0 ts mid × P s m x.1 mid rest

  signed_plain : (s : S) → Plain (Signed s)
  signed_plain s x ts rest h =
      let g = plain_c x.0 ts h.0 h.1 in
      let p = plain_p s x.1 h.0 rest h.2 in
      (g.0 ++ p.0, g.1 ∙ ap (λ (r : List Token). g.0 ++ r) p.1 ∙ sym (append_assoc g.0 p.0 rest), every_both g.0 p.0 g.2 p.2)

  ends_next : (m : ℕ) (s : S) (u : C) (a : A) (used v : List Token) → ((k : List Token) → Signed s m (u, a) (used ++ k) k) → Ends m (T' (step s a)) v → Ends m (T' s) (used ++ v)
  ends_next m s u a used v text e = record {
    by_ = e.by_;
    value = a ∷ e.value;
    gives = λ k.
        let end : List Token = v ++ (e.by_ ++ k) in
        let t = text end in
        (u, t.0, subst (λ (ts : List Token). one c u ts t.0) (sym (append_assoc used v (e.by_ ++ k))) t.1, end, t.2, e.gives k);
  }

  one_sees : (u : C) (ts rest : List Token) → one c u ts rest → sees (hits c) ts ≡ true
  one_sees u [] rest h = absurd h
  one_sees u (t ∷ ts) rest h = rw h.0 refl

  abbrev Sign : C → List Token → List Token → Type 0
  Sign u ts x = Found n (λ _. one c) (λ _. read_one c) u ts x

  some_sign : (u : C) (used : List Token) → one c u (used ++ []) [] → 0 < length used
  some_sign u [] h = absurd h
  some_sign u (t ∷ used) h = omega arith

  some_item : (s : S) (a : A) (used : List Token) → P s n a (used ++ []) [] → 0 < length used
  some_item s a used h = omega (arith, (lp s).shrinks a (used ++ []) [] h, length-append used [])

  -- one turn, up to where its item ends or sinks
  item_turn : (s : S) (turns : ℕ) (u : C) (w x : List Token) → sees (hits c) w ≡ true → read_one c w ≡ Ok (u, x) → sees (fp s) x ≡ true
      → by_signs s (suc turns) w ≡ and_then (f s n x) (λ a. read_tail_by c fp (λ s. f s n) step turns (step s a) >>= λ more. pure (a ∷ more))
  item_turn s turns u w x y e z = by_true (sees (hits c) w) _ _ y ∙ rw e (by_true (sees (fp s) x) _ _ z)

  bad_item : (s : S) (u : C) (ts x rest : List Token) → Sign u ts x → sees (fp s) x ≡ true → Dive n (P s) (f s) x rest → DiveBy n (T' s) (by_signs s) ts rest
  bad_item s u ts x rest g z d =
      record {
        used = g.used ++ d.used;
        token = d.token;
        after = d.after;
        parts = g.parts ∙ ap (λ (r : List Token). g.used ++ r) d.parts ∙ sym (split_here g.used d.used d.token d.after);
        left = d.left;
        completes = subst (λ (u : List Token). Ends (suc n) (T' s) u) (sym (append_assoc g.used d.used (d.token ∷ []))) (ends_item (suc n) s u g.used (d.used ++ d.token ∷ []) g.anywhere d.completes);
        fits = fits_behind n (λ _. one c) (P s) (T' s) u g.used d.used plain_c g.anywhere (λ v. ends_item n s u g.used v g.anywhere) d.fits;
        sinks = λ turns k lt.
            let next : List Token = d.used ++ d.token ∷ k in
            let here = same_head x d.used d.after k d.token d.parts in
            let all : (g.used ++ d.used) ++ d.token ∷ k ≡ g.used ++ next = split_here g.used d.used d.token k in
            let s' = d.sinks k in
            subst (λ (ts : List Token). Sinks (by_signs s turns) ts) (sym all)
            (from_suc (λ turns. Sinks (by_signs s turns) (g.used ++ next)) (length (g.used ++ next))
            (λ turns le.
            (s'.0, item_turn s turns u (g.used ++ next) next (one_sees u _ _ (g.anywhere next)) (g.steady n next (omega arith) here) (sym (ap (holds (fp s)) here) ∙ z) ∙ rw s'.1 refl))
            turns (subst (λ (ts : List Token). length ts < turns) all lt));
      }

  next_item : (s : S) (u : C) (a : A) (ts x mid rest : List Token) → Sign u ts x → Found n (P s) (f s) a x mid → DiveBy n (T' (step s a)) (by_signs (step s a)) mid rest → DiveBy n (T' s) (by_signs s) ts rest
  next_item s u a ts x mid rest g p d =
      let both : List Token = g.used ++ p.used in
      let signed : (m : ℕ) → ((k : List Token) → P s m a (p.used ++ k) k) → (k : List Token) → Signed s m (u, a) (both ++ k) k =
      λ m text k. (p.used ++ k, subst (λ (ts : List Token). one c u ts (p.used ++ k)) (sym (append_assoc g.used p.used k)) (g.anywhere (p.used ++ k)), text k) in
      record {
        used = both ++ d.used;
        token = d.token;
        after = d.after;
        parts = g.parts ∙ ap (λ (r : List Token). g.used ++ r) (p.parts ∙ ap (λ (r : List Token). p.used ++ r) d.parts) ∙ sym (append_assoc g.used p.used (d.used ++ d.token ∷ d.after)) ∙ sym (split_here both d.used d.token d.after);
        left = d.left;
        completes = subst (λ (u : List Token). Ends (suc n) (T' s) u) (sym (append_assoc both d.used (d.token ∷ []))) (ends_next (suc n) s u a both (d.used ++ d.token ∷ []) (signed (suc n) (λ k. grows s n a _ _ (p.anywhere k))) d.completes);
        fits = fits_behind n (Signed s) (T' (step s a)) (T' s) (u, a) both d.used (signed_plain s) (signed n p.anywhere) (λ v. ends_next n s u a both v (signed n p.anywhere)) d.fits;
        sinks = λ turns k lt.
            let next : List Token = d.used ++ d.token ∷ k in
            let here = same_head mid d.used d.after k d.token d.parts in
            let there = ap head p.parts ∙ head_append p.used mid next here in
            let all : (both ++ d.used) ++ d.token ∷ k ≡ g.used ++ (p.used ++ next) = split_here both d.used d.token k ∙ append_assoc g.used p.used next in
            let long : 0 < length p.used = some_item s a p.used (p.anywhere []) in
            subst (λ (ts : List Token). Sinks (by_signs s turns) ts) (sym all)
            (from_suc (λ turns. Sinks (by_signs s turns) (g.used ++ (p.used ++ next))) (length (g.used ++ (p.used ++ next)))
            (λ turns le.
            let s' = d.sinks turns k (omega (arith, le, long, length-append g.used (p.used ++ next), length-append p.used next)) in (
              s'.0,
              item_turn s turns u (g.used ++ (p.used ++ next)) (p.used ++ next) (one_sees u _ _ (g.anywhere (p.used ++ next))) (g.steady n (p.used ++ next) (omega arith) there)
                  (begins n (P s) (f s) (fp s) mp (lp s) a _ _ (p.anywhere next)) ∙ rw (p.steady n next (omega arith) here, s'.1) refl,
            ))
            turns (subst (λ (ts : List Token). length ts < turns) all lt));
      }

  tail_dives_by : (turns : ℕ) (s : S) (ts rest : List Token) → length ts < turns → by_signs s turns ts ≡ sunk rest → DiveBy n (T' s) (by_signs s) ts rest ⊎ bad
  tail_dives_by zero s ts rest lt e = absurd (omega arith)
  tail_dives_by (suc turns) s ts rest lt e =
      elim (way (sees (hits c) ts)) [
        | inl y ↦
            elim (bind_deep (read_one c ts) (λ u. λ x. cond (sees (fp s) x) ((f s n >>= λ a. read_tail_by c fp (λ s. f s n) step turns (step s a) >>= λ more. pure (a ∷ more)) x) (Ok ([], x))) rest (sym (by_true (sees (hits c) ts) _ _ y) ∙ e)) [
              | inl h ↦ absurd (one_not c ts rest h)
              | inr h ↦ let g = (one_lawful n c sign is_sign is).found h.0 ts h.1 h.2 in elim (way (sees (fp s) h.1)) [
                | inl z ↦ elim (bind_deep (f s n h.1) (λ a. read_tail_by c fp (λ s. f s n) step turns (step s a) >>= λ more. pure (a ∷ more)) rest (sym (by_true (sees (fp s) h.1) _ _ z) ∙ h.3)) [
                  | inl i ↦ elim (dp s h.1 rest i) [ inl d ↦ inl (bad_item s h.0 ts h.1 rest g z d) | inr b ↦ inr b ]
                  | inr i ↦ elim (bind_deep (by_signs (step s i.0) turns i.1) (λ more. pure (i.0 ∷ more)) rest i.3) [
                    | inl j ↦
                        let p = (lp s).found i.0 h.1 i.1 i.2 in
                        let less : length i.1 < turns = omega (arith, some_item s i.0 p.used (p.anywhere []), ap length p.parts, length-append p.used i.1, ap length g.parts, length-append g.used h.1, lt) in
                        elim (tail_dives_by turns (step s i.0) i.1 rest less j) [ inl d ↦ inl (next_item s h.0 i.0 ts h.1 i.1 rest g p d) | inr b ↦ inr b ]
                    | inr j ↦ absurd (not_sunk (i.0 ∷ j.0) j.1 rest j.3)
                  ]
                ]
                | inr z ↦ absurd (not_sunk {A = List A} [] h.1 rest (sym (by_false (sees (fp s) h.1) _ _ z) ∙ h.3))
              ]
            ]
        | inr y ↦ absurd (not_sunk {A = List A} [] ts rest (sym (by_false (sees (hits c) ts) _ _ y) ∙ e))
      ]

  pub tail_dives : (s : S) → Dives bad n (λ m. tail c (λ s. P s m) step s) (λ m. read_tail c fp (λ s. f s m) step s)
  tail_dives s ts rest e =
      elim (tail_dives_by (suc (length ts)) s ts rest (omega arith) e) [
        | inl d ↦ inl (record { used = d.used; token = d.token; after = d.after; parts = d.parts; left = d.left; completes = d.completes; fits = d.fits; sinks = λ k. d.sinks (suc (length (d.used ++ d.token ∷ k))) k (omega arith) })
        | inr b ↦ inr b
      ]

-- ---- one or the other, by two tokens

-- What a first token that opens a level too many tells of the other reader.
pub record Firsts {A : Type 0} (bad : Type 0) (n : ℕ) (a : Token → Bool) (b : Option Token → Bool) (f g : ℕ → Reader Token A) : Type 0 where
  pub pairs : (t : Token) → a t ≡ true → ((k : List Token) → Sinks (f n) (t ∷ k)) → (k : List Token) → pair a b (t ∷ k) ≡ false → Sinks (g n) (t ∷ k)
  pub alone : (t : Token) → a t ≡ true → ((k : List Token) → Sinks (g n) (t ∷ k)) → bad

module _ {A : Type 0} (bad : Type 0) (n : ℕ) (a : Token → Bool) (b : Option Token → Bool) (P Q : ℕ → Form Token A) (f g : ℕ → Reader Token A) (dp : Dives bad n P f) (dq : Dives bad n Q g) (firsts : Firsts bad n a b f g) where
  abbrev E : ℕ → Form Token A
  E m = either (P m) (Q m)

  abbrev R : ℕ → Reader Token A
  R m = read_pick a b (f m) (g m)

  first_true : (t : Token) (ts : List Token) → pair a b (t ∷ ts) ≡ true → a t ≡ true
  first_true t ts h = by_test (a t) (b (head ts)) h
    where
      by_test : (x y : Bool) → (x && y) ≡ true → x ≡ true
      by_test true y h = refl
      by_test false y h = h

  pair_behind : (u : Token) (used after k : List Token) (t : Token) → pair a b ((u ∷ used) ++ t ∷ after) ≡ pair a b ((u ∷ used) ++ t ∷ k)
  pair_behind u used after k t = ap (λ x. a u && b x) (head_append used (t ∷ after) (t ∷ k) refl)

  chosen : (used after k : List Token) (t : Token) → pair a b (used ++ t ∷ after) ≡ true → ((k : List Token) → Sinks (f n) (used ++ t ∷ k)) → Sinks (R n) (used ++ t ∷ k)
  chosen [] after k t y sinks =
      elim (way (pair a b (t ∷ k))) [
        | inl p ↦ let s = sinks k in (s.0, by_true (pair a b (t ∷ k)) _ _ p ∙ s.1)
        | inr p ↦ let s = firsts.pairs t (first_true t after y) sinks k p in (s.0, by_false (pair a b (t ∷ k)) _ _ p ∙ s.1)
      ]
  chosen (u ∷ used) after k t y sinks = let s = sinks k in (s.0, by_true (pair a b ((u ∷ used) ++ t ∷ k)) _ _ (sym (pair_behind u used after k t) ∙ y) ∙ s.1)

  none_first : (t : Token) (k : List Token) → a t ≡ false → pair a b (t ∷ k) ≡ false
  none_first t k h = rw h refl

  other : (used after k : List Token) (t : Token) → pair a b (used ++ t ∷ after) ≡ false → (sees a (used ++ t ∷ after) ≡ false) ⊎ (0 < length used) → Sinks (g n) (used ++ t ∷ k) → Sinks (R n) (used ++ t ∷ k)
  other [] after k t y (inl out) s = (s.0, by_false (pair a b (t ∷ k)) _ _ (none_first t k out) ∙ s.1)
  other [] after k t y (inr some) s = absurd (omega arith)
  other (u ∷ used) after k t y way_ s = (s.0, by_false (pair a b ((u ∷ used) ++ t ∷ k)) _ _ (sym (pair_behind u used after k t) ∙ y) ∙ s.1)

  -- the other reader takes the first token, or it isn't one of those that were asked for
  taken : (used after : List Token) (t : Token) → ((k : List Token) → Sinks (g n) (used ++ t ∷ k)) → ((sees a (used ++ t ∷ after) ≡ false) ⊎ (0 < length used)) ⊎ bad
  taken [] after t sinks = elim (way (a t)) [ inl y ↦ inr (firsts.alone t y sinks) | inr out ↦ inl (inl out) ]
  taken (u ∷ used) after t sinks = inl (inr (omega arith))

  by_pair : (ts rest : List Token) → pair a b ts ≡ true → Dive n P f ts rest → Dive n E R ts rest
  by_pair ts rest y d = record {
    used = d.used;
    token = d.token;
    after = d.after;
    parts = d.parts;
    left = d.left;
    completes = record { by_ = d.completes.by_; value = d.completes.value; gives = λ k. inl (d.completes.gives k) };
    fits = fits_map n P E d.used (λ u c. record { by_ = c.by_; value = c.value; gives = λ k. inl (c.gives k) }) d.fits;
    sinks = λ k. chosen d.used d.after k d.token (sym (ap (pair a b) d.parts) ∙ y) d.sinks;
  }

  by_other : (ts rest : List Token) → pair a b ts ≡ false → Dive n Q g ts rest → Dive n E R ts rest ⊎ bad
  by_other ts rest y d =
      elim (taken d.used d.after d.token d.sinks) [
        | inl t ↦ inl (record {
          used = d.used;
          token = d.token;
          after = d.after;
          parts = d.parts;
          left = d.left;
          completes = record { by_ = d.completes.by_; value = d.completes.value; gives = λ k. inr (d.completes.gives k) };
          fits = fits_map n Q E d.used (λ u c. record { by_ = c.by_; value = c.value; gives = λ k. inr (c.gives k) }) d.fits;
          sinks = λ k. other d.used d.after k d.token (sym (ap (pair a b) d.parts) ∙ y) t (d.sinks k);
        })
        | inr x ↦ inr x
      ]

  pub pick_dives : Dives bad n (λ m. either (P m) (Q m)) (λ m. read_pick a b (f m) (g m))
  pick_dives ts rest e =
      elim (way (pair a b ts)) [
        | inl y ↦ elim (dp ts rest (sym (by_true (pair a b ts) _ _ y) ∙ e)) [ inl d ↦ inl (by_pair ts rest y d) | inr x ↦ inr x ]
        | inr y ↦ elim (dq ts rest (sym (by_false (pair a b ts) _ _ y) ∙ e)) [ inl d ↦ by_other ts rest y d | inr x ↦ inr x ]
      ]
