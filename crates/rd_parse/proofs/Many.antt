-- Repetitions.
use Rattle.std.proofs.Common.{◌≡◌, ℕ, zero, suc, ◌+◌, ◌≤◌, ◌<◌, Bool, true, false, List, [], ◌∷◌, ◌++◌, length, Ok, Err, refl, sym, ap, subst, ◌∙◌, append_assoc, arith, inl, inr, ◌⊎◌, length-append}
use Rattle.rd_parse.specs.Form.{Form, many}
use Rattle.rd_parse.specs.Reader.{Refused, Outcome, Reader, head, holds, sees, and_then, ◌>>=◌, pure, read_many_by, read_many}
use Rattle.rd_parse.proofs.Laws.{SameHead, Grows, Completes, Found, Stops, Lawful, got, got_value, got_rest, stopped, bind_ok, bind_err, head_append, same_sees, raise, join, Apart, none_left, none_right, apart_sees}
use Rattle.rd_parse.proofs.More.{begins, by_true, by_false, way}

-- the same, for every number of turns that is enough
pub record FoundBy {T A : Type 0} (n : ℕ) (P : ℕ → Form T A) (s : T → Bool) (f : ℕ → Reader T A) (all : List A) (ts rest : List T) : Type 0 where
  pub used : List T
  pub parts : ts ≡ used ++ rest
  pub anywhere : (k : List T) → many (P n) all (used ++ k) k
  pub steady : (m turns : ℕ) (k : List T) → n ≤ m → SameHead rest k → length used < turns → read_many_by s (f m) turns (used ++ k) ≡ Ok (all, k)

pub record StopsBy {T A : Type 0} (n : ℕ) (P : ℕ → Form T A) (s : T → Bool) (f : ℕ → Reader T A) (ts rest : List T) : Type 0 where
  pub used : List T
  pub parts : ts ≡ used ++ rest
  pub completes : Completes (λ m. many (P m)) used
  pub steady : (m turns : ℕ) (k : List T) → n ≤ m → SameHead rest k → length used < turns → read_many_by s (f m) turns (used ++ k) ≡ Err (Refused k)

pub many_grows : {T A : Type 0} (P : ℕ → Form T A) → Grows P → Grows (λ m. many (P m))
many_grows P p n [] ts rest h = h
many_grows P p n (a ∷ more) ts rest h = (h.0, p n a ts h.0 h.1, many_grows P p n more h.0 rest h.2)

module _ {T A : Type 0} (n : ℕ) (P : ℕ → Form T A) (f : ℕ → Reader T A) (fp mp : T → Bool) (grows : Grows P) (apart : Apart fp mp) (lp : Lawful n P f fp mp false) where
  many_starts : (all : List A) (ts rest : List T) → many (P n) all ts rest → (sees fp ts ≡ true) ⊎ ((true ≡ true) × (ts ≡ rest))
  many_starts [] ts rest h = inr (refl, h)
  many_starts (a ∷ more) ts rest h = inl (begins n P f fp mp lp a ts h.0 h.1)

  many_shrinks : (all : List A) (ts rest : List T) → many (P n) all ts rest → length rest + length all ≤ length ts
  many_shrinks [] ts rest h = rw h (omega arith)
  many_shrinks (a ∷ more) ts rest h = omega (arith, lp.shrinks a ts h.0 h.1, many_shrinks more h.0 rest h.2)

  many_mid : (more : List A) (mid rest : List T) → many (P n) more mid rest → sees (join true fp mp) rest ≡ false → sees mp mid ≡ false
  many_mid [] mid rest h m = ap (sees mp) h ∙ none_right fp mp rest m
  many_mid (a ∷ more) mid rest h m = apart_sees fp mp apart mid (begins n P f fp mp lp a mid h.0 h.1)

  many_only_by : (turns : ℕ) (all : List A) (ts rest : List T) → length all < turns → many (P n) all ts rest → sees (join true fp mp) rest ≡ false → read_many_by fp (f n) turns ts ≡ Ok (all, rest)
  many_only_by zero all ts rest lt h m = absurd (omega arith)
  many_only_by (suc turns) [] ts rest lt h m = by_false (sees fp ts) _ _ (ap (sees fp) h ∙ none_left true fp mp rest m) ∙ ap (λ (r : List T). Ok ([], r)) h
  many_only_by (suc turns) (a ∷ more) ts rest lt h m =
      let p : f n ts ≡ Ok (a, h.0) = lp.only a ts h.0 h.1 (many_mid more h.0 rest h.2 m) in
      let q : read_many_by fp (f n) turns h.0 ≡ Ok (more, rest) = many_only_by turns more h.0 rest (omega arith) h.2 m in
      by_true (sees fp ts) _ _ (begins n P f fp mp lp a ts h.0 h.1) ∙ rw (p, q) refl

  -- a text of one is no shorter than one token
  some_used : (a : A) (used : List T) → P n a (used ++ []) [] → 0 < length used
  some_used a used h = omega (arith, lp.shrinks a (used ++ []) [] h, length-append used [])

  turn : (m turns : ℕ) (u1 u2 k : List T) (a : A) (r : Outcome T (List A)) → sees fp (u1 ++ (u2 ++ k)) ≡ true → f m (u1 ++ (u2 ++ k)) ≡ Ok (a, u2 ++ k) → read_many_by fp (f m) turns (u2 ++ k) ≡ r
      → read_many_by fp (f m) (suc turns) ((u1 ++ u2) ++ k) ≡ and_then r (λ more. pure (a ∷ more))
  turn m turns u1 u2 k a r s p q = rw append_assoc (by_true (sees fp (u1 ++ (u2 ++ k))) _ _ s ∙ rw (p, q) refl)

  last_turn : (m turns : ℕ) (u k : List T) → sees fp (u ++ k) ≡ true → f m (u ++ k) ≡ Err (Refused k) → read_many_by fp (f m) (suc turns) (u ++ k) ≡ Err (Refused k)
  last_turn m turns u k s p = by_true (sees fp (u ++ k)) _ _ s ∙ rw p refl

  no_turn : (m turns : ℕ) (k : List T) → sees fp k ≡ false → read_many_by fp (f m) (suc turns) k ≡ Ok ([], k)
  no_turn m turns k s = by_false (sees fp k) _ _ s

  -- a number of turns that is not 0
  abbrev Steady : (ℕ → Type 0) → ℕ → Type 0
  Steady P below_ = (turns : ℕ) → below_ < turns → P turns

  pub from_suc : (Q : ℕ → Type 0) (below_ : ℕ) → ((turns : ℕ) → below_ ≤ turns → Q (suc turns)) → Steady Q below_
  from_suc Q below_ h zero lt = absurd (omega arith)
  from_suc Q below_ h (suc turns) lt = h turns (omega arith)

  many_found_next : (turns : ℕ) (all : List A) (ts rest : List T) (a : A) (mid : List T) (more : List A) → Found n P f a ts mid → FoundBy n P fp f more mid rest → a ∷ more ≡ all → FoundBy n P fp f all ts rest
  many_found_next turns all ts rest a mid more p s w =
      subst (λ all. FoundBy n P fp f all ts rest) w (record {
        used = p.used ++ s.used;
        parts = p.parts ∙ ap (λ (r : List T). p.used ++ r) s.parts ∙ sym (append_assoc p.used s.used rest);
        anywhere = λ k. (s.used ++ k, rw append_assoc (p.anywhere (s.used ++ k)), s.anywhere k);
        steady = λ m turns k le e lt.
            let long : 0 < length p.used = some_used a p.used (p.anywhere []) in
            from_suc (λ turns. read_many_by fp (f m) turns ((p.used ++ s.used) ++ k) ≡ Ok (a ∷ more, k)) (length (p.used ++ s.used))
            (λ turns below_. turn m turns p.used s.used k a (Ok (more, k)) (begins n P f fp mp lp a _ _ (p.anywhere (s.used ++ k))) (p.steady m (s.used ++ k) le (ap head s.parts ∙ head_append s.used rest k e)) (s.steady m turns k le e (omega (arith, length-append p.used s.used))))
            turns lt;
      })

  many_found_by : (turns : ℕ) (all : List A) (ts rest : List T) → read_many_by fp (f n) turns ts ≡ Ok (all, rest) → FoundBy n P fp f all ts rest
  many_found_by zero all ts rest e = absurd (let no : stopped {T = T} {A = List A} ts ≡ stopped ts = refl in cc)
  many_found_by (suc turns) all ts rest e =
      elim (way (sees fp ts)) [
        | inl s ↦
            let d = bind_ok (f n ts) (λ a. read_many_by fp (f n) turns >>= λ more. pure (a ∷ more)) all rest (sym (by_true (sees fp ts) _ _ s) ∙ e) in
            let b = bind_ok (read_many_by fp (f n) turns d.1) (λ more. pure (d.0 ∷ more)) all rest d.3 in
            many_found_next turns all ts rest d.0 d.1 b.0 (lp.found d.0 ts d.1 d.2) (many_found_by turns b.0 d.1 rest (b.2 ∙ ap (λ (r : List T). Ok (b.0, r)) (got_rest (d.0 ∷ b.0) all b.1 rest b.3))) (got_value (d.0 ∷ b.0) all b.1 rest b.3)
        | inr s ↦ none s (sym (by_false (sees fp ts) _ _ s) ∙ e)
      ]
    where
      none : sees fp ts ≡ false → got {T = T} {A = List A} [] ts ≡ Ok (all, rest) → FoundBy n P fp f all ts rest
      none t e =
          let w : [] ≡ all = got_value [] all ts rest e in
          let same : ts ≡ rest = got_rest [] all ts rest e in
          subst (λ all. FoundBy n P fp f all ts rest) w (record {
            used = [];
            parts = same;
            anywhere = λ k. refl;
            steady = λ m turns k le s lt.
                from_suc (λ turns. read_many_by fp (f m) turns k ≡ Ok ([], k)) 0 (λ turns _. no_turn m turns k (sym (same_sees fp rest k s) ∙ ap (sees fp) (sym same) ∙ t)) turns lt;
          })

  many_refused_by : (turns : ℕ) (ts rest : List T) → read_many_by fp (f n) turns ts ≡ Err (Refused rest) → StopsBy n P fp f ts rest
  many_refused_by zero ts rest e = absurd cc
  many_refused_by (suc turns) ts rest e =
      elim (way (sees fp ts)) [
        | inl s ↦ elim (bind_err (f n ts) (λ a. read_many_by fp (f n) turns >>= λ more. pure (a ∷ more)) rest (sym (by_true (sees fp ts) _ _ s) ∙ e)) [
          | inl d ↦ first s (lp.refused ts rest d)
          | inr d ↦ elim (bind_err (read_many_by fp (f n) turns d.1) (λ more. pure (d.0 ∷ more)) rest d.3) [
            | inl b ↦ later d.0 d.1 (lp.found d.0 ts d.1 d.2) (many_refused_by turns d.1 rest b)
            | inr b ↦ absurd (let no : got {T = T} (d.0 ∷ b.0) b.1 ≡ Err (Refused rest) = b.3 in cc)
          ]
        ]
        | inr s ↦ absurd (let no : got {T = T} {A = List A} [] ts ≡ Err (Refused rest) = sym (by_false (sees fp ts) _ _ s) ∙ e in cc)
      ]
    where
      first : sees fp ts ≡ true → Stops n P f ts rest → StopsBy n P fp f ts rest
      first t s = record {
        used = s.used;
        parts = s.parts;
        completes = record { depth = s.completes.depth; by_ = s.completes.by_; value = s.completes.value ∷ []; gives = λ k. (k, s.completes.gives k, refl) };
        steady = λ m turns k le e lt.
            from_suc (λ turns. read_many_by fp (f m) turns (s.used ++ k) ≡ Err (Refused k)) (length s.used)
            (λ turns _. last_turn m turns s.used k (sym (ap (holds fp) (ap head s.parts ∙ head_append s.used rest k e)) ∙ t) (s.steady m k le e))
            turns lt;
      }

      later : (a : A) (mid : List T) → Found n P f a ts mid → StopsBy n P fp f mid rest → StopsBy n P fp f ts rest
      later a mid p s = record {
        used = p.used ++ s.used;
        parts = p.parts ∙ ap (λ (r : List T). p.used ++ r) s.parts ∙ sym (append_assoc p.used s.used rest);
        completes = record {
          depth = n + s.completes.depth;
          by_ = s.completes.by_;
          value = a ∷ s.completes.value;
          gives = λ k.
              (s.used ++ (s.completes.by_ ++ k), rw append_assoc (raise P grows n _ a _ _ (omega arith) (p.anywhere (s.used ++ (s.completes.by_ ++ k)))), raise (λ m. many (P m)) (many_grows P grows) s.completes.depth _ s.completes.value _ _ (omega arith) (s.completes.gives k));
        };
        steady = λ m turns k le e lt.
            let long : 0 < length p.used = some_used a p.used (p.anywhere []) in
            from_suc (λ turns. read_many_by fp (f m) turns ((p.used ++ s.used) ++ k) ≡ Err (Refused k)) (length (p.used ++ s.used))
            (λ turns below_. turn m turns p.used s.used k a (Err (Refused k)) (begins n P f fp mp lp a _ _ (p.anywhere (s.used ++ k))) (p.steady m (s.used ++ k) le (ap head s.parts ∙ head_append s.used rest k e)) (s.steady m turns k le e (omega (arith, length-append p.used s.used))))
            turns lt;
      }

  many_found : (all : List A) (ts rest : List T) → read_many fp (f n) ts ≡ Ok (all, rest) → Found n (λ m. many (P m)) (λ m. read_many fp (f m)) all ts rest
  many_found all ts rest e =
      let s = many_found_by (suc (length ts)) all ts rest e in
      record { used = s.used; parts = s.parts; anywhere = s.anywhere; steady = λ m k le h. s.steady m (suc (length (s.used ++ k))) k le h (omega (arith, length-append s.used k)) }

  many_refused : (ts rest : List T) → read_many fp (f n) ts ≡ Err (Refused rest) → Stops n (λ m. many (P m)) (λ m. read_many fp (f m)) ts rest
  many_refused ts rest e =
      let s = many_refused_by (suc (length ts)) ts rest e in
      record { used = s.used; parts = s.parts; completes = s.completes; steady = λ m k le h. s.steady m (suc (length (s.used ++ k))) k le h (omega (arith, length-append s.used k)) }

  pub many_lawful : Lawful n (λ m. many (P m)) (λ m. read_many fp (f m)) fp (join true fp mp) true
  many_lawful = record {
    starts = many_starts;
    shrinks = λ all ts rest h. omega (arith, many_shrinks all ts rest h);
    only = λ all ts rest h m. many_only_by (suc (length ts)) all ts rest (omega (arith, many_shrinks all ts rest h)) h m;
    found = many_found;
    refused = many_refused;
    some = record { depth = 0; by_ = []; value = []; gives = λ k. refl };
  }
