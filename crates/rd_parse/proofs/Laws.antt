-- What ties a form to its reader, and that each way to build a form keeps it.
use Rattle.std.proofs.Common.{◌≡◌, ℕ, zero, suc, ◌+◌, ◌-◌, ◌≤◌, Bool, true, false, ◌&&◌, ◌||◌, List, [], ◌∷◌, ◌++◌, length, Option, Some, None, Ok, Err, refl, sym, ap, subst, ◌∙◌, append_assoc, add-zero, arith, inl, inr, ◌⊎◌}
use Rattle.rd_parse.specs.Form.{Form, one, both}
use Rattle.rd_parse.specs.Reader.{Refused, Outcome, Reader, head, holds, sees, is_there, hits, and_then, ◌>>=◌, pure, took, read_one, read_both}

abbrev pub SameHead : {T : Type 0} → List T → List T → Type 0
SameHead a b = head a ≡ head b

-- with a larger number a form holds all the more
abbrev pub Grows : {T A : Type 0} → (ℕ → Form T A) → Type 0
Grows {T} {A} P = (n : ℕ) (a : A) (ts rest : List T) → P n a ts rest → P (suc n) a ts rest

-- what was read can be completed, whatever comes then
pub record Completes {T A : Type 0} (P : ℕ → Form T A) (used : List T) : Type 0 where
  pub depth : ℕ
  pub by_ : List T
  pub value : A
  pub gives : (k : List T) → P depth value (used ++ (by_ ++ k)) k

pub record Found {T A : Type 0} (n : ℕ) (P : ℕ → Form T A) (f : ℕ → Reader T A) (a : A) (ts rest : List T) : Type 0 where
  pub used : List T
  pub parts : ts ≡ used ++ rest
  pub anywhere : (k : List T) → P n a (used ++ k) k
  pub steady : (m : ℕ) (k : List T) → n ≤ m → SameHead rest k → f m (used ++ k) ≡ Ok (a, k)

pub record Stops {T A : Type 0} (n : ℕ) (P : ℕ → Form T A) (f : ℕ → Reader T A) (ts rest : List T) : Type 0 where
  pub used : List T
  pub parts : ts ≡ used ++ rest
  pub completes : Completes P used
  pub steady : (m : ℕ) (k : List T) → n ≤ m → SameHead rest k → f m (used ++ k) ≡ Err (Refused k)

-- how many tokens a text has at least
abbrev pub least : Bool → ℕ
least true = 0
least false = 1

-- The tokens that may begin a text of the form, those with which one may go on, and whether the empty text is one.
pub record Lawful {T A : Type 0} (n : ℕ) (P : ℕ → Form T A) (f : ℕ → Reader T A) (first more : T → Bool) (null : Bool) : Type 0 where
  pub starts : (a : A) (ts rest : List T) → P n a ts rest → (sees first ts ≡ true) ⊎ ((null ≡ true) × (ts ≡ rest))
  pub shrinks : (a : A) (ts rest : List T) → P n a ts rest → length rest + least null ≤ length ts
  pub only : (a : A) (ts rest : List T) → P n a ts rest → sees more rest ≡ false → f n ts ≡ Ok (a, rest)
  pub found : (a : A) (ts rest : List T) → f n ts ≡ Ok (a, rest) → Found n P f a ts rest
  pub refused : (ts rest : List T) → f n ts ≡ Err (Refused rest) → Stops n P f ts rest
  pub some : Completes P []

-- ---- small facts

abbrev pub got : {T A : Type 0} → A → List T → Outcome T A
got a rest = Ok (a, rest)

pub got_value : {T A : Type 0} (a b : A) (r s : List T) → got a r ≡ got b s → a ≡ b
got_value {T} {A} a b r s e = let h : (let p : A × List T = (a, r) in p) ≡ (b, s) = cc in ap (λ (p : A × List T). p.0) h

pub got_rest : {T A : Type 0} (a b : A) (r s : List T) → got a r ≡ got b s → r ≡ s
got_rest {T} {A} a b r s e = let h : (let p : A × List T = (a, r) in p) ≡ (b, s) = cc in ap (λ (p : A × List T). p.1) h

abbrev pub stopped : {T A : Type 0} → List T → Outcome T A
stopped rest = Err (Refused rest)

pub stopped_rest : {T : Type 0} (A : Type 0) (r s : List T) → stopped {T = T} {A = A} r ≡ stopped s → r ≡ s
stopped_rest A r s e = cc

pub bind_ok : {T A B : Type 0} (r : Outcome T A) (f : A → Reader T B) (y : B) (rest : List T) → and_then r f ≡ Ok (y, rest) → (a : A) × (mid : List T) × (r ≡ Ok (a, mid)) × (f a mid ≡ Ok (y, rest))
bind_ok (Ok x) f y rest e = (x.0, x.1, refl, e)
bind_ok (Err d) f y rest e = absurd cc

pub bind_err : {T A B : Type 0} (r : Outcome T A) (f : A → Reader T B) (rest : List T) → and_then r f ≡ Err (Refused rest) → (r ≡ Err (Refused rest)) ⊎ ((a : A) × (mid : List T) × (r ≡ Ok (a, mid)) × (f a mid ≡ Err (Refused rest)))
bind_err (Ok x) f rest e = inr (x.0, x.1, refl, e)
bind_err (Err d) f rest e = inl cc

pub head_append : {T : Type 0} (u r k : List T) → SameHead r k → SameHead (u ++ r) (u ++ k)
head_append [] r k h = h
head_append (t ∷ u) r k h = refl

pub same_sees : {T : Type 0} (s : T → Bool) (r k : List T) → SameHead r k → sees s r ≡ sees s k
same_sees s r k h = ap (holds s) h

pub raise_by : {T A : Type 0} (P : ℕ → Form T A) → Grows P → (j n : ℕ) (a : A) (ts rest : List T) → P n a ts rest → P (n + j) a ts rest
raise_by P up zero n a ts rest h = rw add-zero h
raise_by P up (suc j) n a ts rest h = let e : n + suc j ≡ suc (n + j) = omega arith in subst (λ m. P m a ts rest) (sym e) (up (n + j) a ts rest (raise_by P up j n a ts rest h))

pub raise : {T A : Type 0} (P : ℕ → Form T A) → Grows P → (n m : ℕ) (a : A) (ts rest : List T) → n ≤ m → P n a ts rest → P m a ts rest
raise P up n m a ts rest le h = let e : n + (m - n) ≡ m = omega arith in subst (λ m. P m a ts rest) e (raise_by P up (m - n) n a ts rest h)

-- ---- sets of tokens

abbrev pub join : {T : Type 0} → Bool → (T → Bool) → (T → Bool) → T → Bool
join true s t = λ k. s k || t k
join false s t = s

abbrev pub Apart : {T : Type 0} → (T → Bool) → (T → Bool) → Type 0
Apart {T} s t = (k : T) → (s k && t k) ≡ false

pub or_true : (b : Bool) → (b || true) ≡ true
or_true true = refl
or_true false = refl

pub or_none : (a b : Bool) → (a || b) ≡ false → (a ≡ false) × (b ≡ false)
or_none true b h = absurd cc
or_none false b h = (refl, h)

or_left : (a b : Bool) → a ≡ true → (a || b) ≡ true
or_left true b h = refl
or_left false b h = absurd cc

pub sees_left : {T : Type 0} (b : Bool) (s t : T → Bool) (ts : List T) → sees s ts ≡ true → sees (join b s t) ts ≡ true
sees_left false s t ts h = h
sees_left true s t [] h = absurd cc
sees_left true s t (k ∷ ts) h = or_left (s k) (t k) h

pub sees_right : {T : Type 0} (s t : T → Bool) (ts : List T) → sees t ts ≡ true → sees (join true s t) ts ≡ true
sees_right s t [] h = absurd cc
sees_right s t (k ∷ ts) h = rw h (or_true (s k))

pub none_left : {T : Type 0} (b : Bool) (s t : T → Bool) (ts : List T) → sees (join b s t) ts ≡ false → sees s ts ≡ false
none_left false s t ts h = h
none_left true s t [] h = refl
none_left true s t (k ∷ ts) h = (or_none (s k) (t k) h).0

pub none_right : {T : Type 0} (s t : T → Bool) (ts : List T) → sees (join true s t) ts ≡ false → sees t ts ≡ false
none_right s t [] h = refl
none_right s t (k ∷ ts) h = (or_none (s k) (t k) h).1

pub apart_sees : {T : Type 0} (s t : T → Bool) → Apart s t → (ts : List T) → sees s ts ≡ true → sees t ts ≡ false
apart_sees s t ap_ [] h = refl
apart_sees s t ap_ (k ∷ ts) h = rw h at (ap_ k)

pub least_both : (a b : Bool) → least (a && b) ≤ least a + least b
least_both true true = omega arith
least_both true false = omega arith
least_both false b = omega arith

-- ---- one token

one_found : {T A : Type 0} (n : ℕ) (o : T → Option A) (a : A) (t : T) (ts rest : List T) (v : Option A) → o t ≡ v → took (t ∷ ts) ts v ≡ Ok (a, rest) → Found n (λ _. one o) (λ _. read_one o) a (t ∷ ts) rest
one_found n o a t ts rest None is e = absurd cc
one_found n o a t ts rest (Some b) is e =
    let p : b ≡ a = got_value b a ts rest e in
    let q : ts ≡ rest = got_rest b a ts rest e in
    record {
      used = t ∷ [];
      parts = ap (λ x. t ∷ x) q;
      anywhere = λ k. (is ∙ ap Some p, refl);
      steady = λ m k le h. rw (is, p) refl;
    }

pub took_none : {T A : Type 0} (all rest : List T) (v : Option A) → is_there v ≡ false → took all rest v ≡ Err (Refused all)
took_none all rest None h = refl
took_none all rest (Some a) h = absurd cc

pub one_none : {T A : Type 0} (o : T → Option A) (k : List T) → sees (hits o) k ≡ false → read_one o k ≡ Err (Refused k)
one_none o [] h = refl
one_none o (t ∷ ts) h = took_none (t ∷ ts) ts (o t) h

pub took_stops : {T A : Type 0} (all rest r : List T) (v : Option A) → took all rest v ≡ Err (Refused r) → (is_there v ≡ false) × (all ≡ r)
took_stops all rest r (Some a) h = absurd cc
took_stops {T} {A} all rest r None h = (refl, stopped_rest A all r h)

pub one_stops : {T A : Type 0} (o : T → Option A) (ts r : List T) → read_one o ts ≡ Err (Refused r) → (sees (hits o) ts ≡ false) × (ts ≡ r)
one_stops {T} {A} o [] r h = (refl, stopped_rest A [] r h)
one_stops o (t ∷ ts) r h = took_stops (t ∷ ts) ts r (o t) h

pub one_lawful : {T A : Type 0} (n : ℕ) (o : T → Option A) (t : T) (a : A) → o t ≡ Some a → Lawful n (λ _. one o) (λ _. read_one o) (hits o) (λ _. false) false
one_lawful {T} {A} n o t a is = record {
  starts = st;
  shrinks = sh;
  only = on;
  found = fo;
  refused = re;
  some = some;
}
  where
    some : Completes (λ _. one o) []
    some = record { depth = 0; by_ = t ∷ []; value = a; gives = λ k. (is, refl) }

    st : (a : A) (ts rest : List T) → one o a ts rest → (sees (hits o) ts ≡ true) ⊎ ((false ≡ true) × (ts ≡ rest))
    st a [] rest h = absurd h
    st a (t ∷ ts) rest h = inl (rw h.0 refl)

    sh : (a : A) (ts rest : List T) → one o a ts rest → length rest + 1 ≤ length ts
    sh a [] rest h = absurd h
    sh a (t ∷ ts) rest h = rw (← h.1) (omega arith)

    on : (a : A) (ts rest : List T) → one o a ts rest → sees {T = T} (λ _. false) rest ≡ false → read_one o ts ≡ Ok (a, rest)
    on a [] rest h m = absurd h
    on a (t ∷ ts) rest h m = rw (h.0, h.1) refl

    fo : (a : A) (ts rest : List T) → read_one o ts ≡ Ok (a, rest) → Found n (λ _. one o) (λ _. read_one o) a ts rest
    fo a [] rest h = absurd cc
    fo a (t ∷ ts) rest h = one_found n o a t ts rest (o t) refl h

    re : (ts rest : List T) → read_one o ts ≡ Err (Refused rest) → Stops n (λ _. one o) (λ _. read_one o) ts rest
    re ts rest h =
        let s = one_stops o ts rest h in
        record { used = []; parts = s.1; completes = some; steady = λ m k le e. one_none o k (sym (same_sees (hits o) rest k e) ∙ ap (sees (hits o)) (sym s.1) ∙ s.0) }

-- ---- one after the other

module _ {T A B : Type 0} (n : ℕ) (P : ℕ → Form T A) (Q : ℕ → Form T B) (f : ℕ → Reader T A) (g : ℕ → Reader T B)
    (fp mp fq mq : T → Bool) (np nq : Bool) (grows_p : Grows P) (grows_q : Grows Q) (apart : Apart fq mp)
    (lp : Lawful n P f fp mp np) (lq : Lawful n Q g fq mq nq) where
  both_starts : (x : A × B) (ts rest : List T) → both (P n) (Q n) x ts rest → (sees (join np fp fq) ts ≡ true) ⊎ (((np && nq) ≡ true) × (ts ≡ rest))
  both_starts x ts rest h =
      elim (lp.starts x.0 ts h.0 h.1) [
        | inl s ↦ inl (sees_left np fp fq ts s)
        | inr e ↦ elim (lq.starts x.1 h.0 rest h.2) [
          | inl s ↦ inl (subst (λ b. sees (join b fp fq) ts ≡ true) (sym e.0) (sees_right fp fq ts (ap (sees fq) e.1 ∙ s)))
          | inr d ↦ inr (rw (e.0, d.0) refl, e.1 ∙ d.1)
        ]
      ]

  both_shrinks : (x : A × B) (ts rest : List T) → both (P n) (Q n) x ts rest → length rest + least (np && nq) ≤ length ts
  both_shrinks x ts rest h = omega (arith, least_both np nq, lp.shrinks x.0 ts h.0 h.1, lq.shrinks x.1 h.0 rest h.2)

  both_mid : (b : B) (mid rest : List T) → Q n b mid rest → sees (join nq mq mp) rest ≡ false → sees mp mid ≡ false
  both_mid b mid rest q m =
      elim (lq.starts b mid rest q) [
        | inl s ↦ apart_sees fq mp apart mid s
        | inr e ↦ ap (sees mp) e.1 ∙ none_right mq mp rest (subst (λ b. sees (join b mq mp) rest ≡ false) e.0 m)
      ]

  both_only : (x : A × B) (ts rest : List T) → both (P n) (Q n) x ts rest → sees (join nq mq mp) rest ≡ false → read_both (f n) (g n) ts ≡ Ok (x, rest)
  both_only x ts rest h m =
      let p : f n ts ≡ Ok (x.0, h.0) = lp.only x.0 ts h.0 h.1 (both_mid x.1 h.0 rest h.2 m) in
      let q : g n h.0 ≡ Ok (x.1, rest) = lq.only x.1 h.0 rest h.2 (none_left nq mq mp rest m) in
      rw (p, q) refl

  both_run : (m : ℕ) (u1 u2 k mid : List T) (a : A) (r : Outcome T B) → f m (u1 ++ (u2 ++ k)) ≡ Ok (a, u2 ++ k) → g m (u2 ++ k) ≡ r
      → read_both (f m) (g m) ((u1 ++ u2) ++ k) ≡ and_then r (λ b. pure (a, b))
  both_run m u1 u2 k mid a r p q = rw (append_assoc, p, q) refl

  both_found : (x : A × B) (ts rest : List T) → read_both (f n) (g n) ts ≡ Ok (x, rest) → Found n (λ m. both (P m) (Q m)) (λ m. read_both (f m) (g m)) x ts rest
  both_found x ts rest h =
      let d = bind_ok (f n ts) (λ a. g n >>= λ b. pure (a, b)) x rest h in
      let e = bind_ok (g n d.1) (λ b. pure (d.0, b)) x rest d.3 in
      let w : (d.0, e.0) ≡ x = got_value (d.0, e.0) x e.1 rest e.3 in
      let same : e.1 ≡ rest = got_rest (d.0, e.0) x e.1 rest e.3 in
      let a = lp.found d.0 ts d.1 d.2 in
      let b = lq.found e.0 d.1 rest (e.2 ∙ ap (λ (r : List T). Ok (e.0, r)) same) in
      subst (λ (x : A × B). Found n (λ m. both (P m) (Q m)) (λ m. read_both (f m) (g m)) x ts rest) w (record {
        used = a.used ++ b.used;
        parts = a.parts ∙ ap (λ (r : List T). a.used ++ r) b.parts ∙ sym (append_assoc a.used b.used rest);
        anywhere = λ k. (b.used ++ k, rw append_assoc (a.anywhere (b.used ++ k)), b.anywhere k);
        steady = λ m k le s.
            both_run m a.used b.used k d.1 d.0 (Ok (e.0, k)) (a.steady m (b.used ++ k) le (ap head b.parts ∙ head_append b.used rest k s)) (b.steady m k le s);
      })

  both_refused : (ts rest : List T) → read_both (f n) (g n) ts ≡ Err (Refused rest) → Stops n (λ m. both (P m) (Q m)) (λ m. read_both (f m) (g m)) ts rest
  both_refused ts rest h =
      elim (bind_err (f n ts) (λ a. g n >>= λ b. pure (a, b)) rest h) [
        | inl e ↦ first (lp.refused ts rest e)
        | inr d ↦ elim (bind_err (g n d.1) (λ b. pure (d.0, b)) rest d.3) [
          | inl e ↦ second d.0 d.1 (lp.found d.0 ts d.1 d.2) (lq.refused d.1 rest e)
          | inr e ↦ absurd (let no : got {T = T} (d.0, e.0) e.1 ≡ Err (Refused rest) = e.3 in cc)
        ]
      ]
    where
      first : Stops n P f ts rest → Stops n (λ m. both (P m) (Q m)) (λ m. read_both (f m) (g m)) ts rest
      first s = record {
        used = s.used;
        parts = s.parts;
        completes = record {
          depth = s.completes.depth + lq.some.depth;
          by_ = s.completes.by_ ++ lq.some.by_;
          value = (s.completes.value, lq.some.value);
          gives = λ k.
              (lq.some.by_ ++ k, rw append_assoc (raise P grows_p s.completes.depth _ s.completes.value _ _ (omega arith) (s.completes.gives (lq.some.by_ ++ k))), raise Q grows_q lq.some.depth _ lq.some.value _ _ (omega arith) (lq.some.gives k));
        };
        steady = λ m k le e. rw (s.steady m k le e) refl;
      }

      second : (a : A) (mid : List T) → Found n P f a ts mid → Stops n Q g mid rest → Stops n (λ m. both (P m) (Q m)) (λ m. read_both (f m) (g m)) ts rest
      second a mid p s = record {
        used = p.used ++ s.used;
        parts = p.parts ∙ ap (λ (r : List T). p.used ++ r) s.parts ∙ sym (append_assoc p.used s.used rest);
        completes = record {
          depth = n + s.completes.depth;
          by_ = s.completes.by_;
          value = (a, s.completes.value);
          gives = λ k.
              (s.used ++ (s.completes.by_ ++ k), rw append_assoc (raise P grows_p n _ a _ _ (omega arith) (p.anywhere (s.used ++ (s.completes.by_ ++ k)))), raise Q grows_q s.completes.depth _ s.completes.value _ _ (omega arith) (s.completes.gives k));
        };
        steady = λ m k le e.
            both_run m p.used s.used k mid a (Err (Refused k)) (p.steady m (s.used ++ k) le (ap head s.parts ∙ head_append s.used rest k e)) (s.steady m k le e);
      }

  both_some : Completes (λ m. both (P m) (Q m)) []
  both_some = record {
    depth = lp.some.depth + lq.some.depth;
    by_ = lp.some.by_ ++ lq.some.by_;
    value = (lp.some.value, lq.some.value);
    gives = λ k.
        (lq.some.by_ ++ k, rw append_assoc (raise P grows_p lp.some.depth _ lp.some.value _ _ (omega arith) (lp.some.gives (lq.some.by_ ++ k))), raise Q grows_q lq.some.depth _ lq.some.value _ _ (omega arith) (lq.some.gives k));
  }

  pub both_lawful : Lawful n (λ m. both (P m) (Q m)) (λ m. read_both (f m) (g m)) (join np fp fq) (join nq mq mp) (np && nq)
  both_lawful = record { starts = both_starts; shrinks = both_shrinks; only = both_only; found = both_found; refused = both_refused; some = both_some }

pub both_grows : {T A B : Type 0} (P : ℕ → Form T A) (Q : ℕ → Form T B) → Grows P → Grows Q → Grows (λ m. both (P m) (Q m))
both_grows P Q p q n x ts rest h = (h.0, p n x.0 ts h.0 h.1, q n x.1 h.0 rest h.2)
