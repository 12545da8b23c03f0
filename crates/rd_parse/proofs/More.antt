-- Choices, repetitions and depth.
use Rattle.std.proofs.Common.{◌≡◌, ℕ, ◌+◌, ◌≤◌, Bool, true, false, cond, List, [], ◌++◌, length, Option, Some, None, Ok, Err, refl, sym, ap, subst, ◌∙◌, arith, inl, inr, ◌⊎◌}
use Rattle.rd_parse.specs.Form.{Form, made, either, opt}
use Rattle.rd_parse.specs.Reader.{Refused, Outcome, Reader, head, holds, sees, pure, read_made, read_either, read_opt}
use Rattle.rd_parse.proofs.Laws.{Grows, Found, Stops, least, Lawful, got, got_value, got_rest, bind_ok, bind_err, head_append, same_sees, join, Apart, sees_left, sees_right, none_left, none_right, apart_sees}

-- ---- what is made of a value

module _ {T A B : Type 0} (n : ℕ) (h : A → B) (P : ℕ → Form T A) (f : ℕ → Reader T A) (fp mp : T → Bool) (np : Bool) (lp : Lawful n P f fp mp np) where
  made_only : (b : B) (ts rest : List T) → made h (P n) b ts rest → sees mp rest ≡ false → read_made h (f n) ts ≡ Ok (b, rest)
  made_only b ts rest w m = rw (lp.only w.0 ts rest w.2 m, w.1) refl

  made_found : (b : B) (ts rest : List T) → read_made h (f n) ts ≡ Ok (b, rest) → Found n (λ m. made h (P m)) (λ m. read_made h (f m)) b ts rest
  made_found b ts rest e =
      let d = bind_ok (f n ts) (λ a. pure (h a)) b rest e in
      let w : h d.0 ≡ b = got_value (h d.0) b d.1 rest d.3 in
      let same : d.1 ≡ rest = got_rest (h d.0) b d.1 rest d.3 in
      let a = lp.found d.0 ts rest (d.2 ∙ ap (λ (r : List T). Ok (d.0, r)) same) in
      record { used = a.used; parts = a.parts; anywhere = λ k. (d.0, w, a.anywhere k); steady = λ m k le s. rw (a.steady m k le s, w) refl }

  made_refused : (ts rest : List T) → read_made h (f n) ts ≡ Err (Refused rest) → Stops n (λ m. made h (P m)) (λ m. read_made h (f m)) ts rest
  made_refused ts rest e =
      elim (bind_err (f n ts) (λ a. pure (h a)) rest e) [
        | inl d ↦ stops (lp.refused ts rest d)
        | inr d ↦ absurd (let no : got {T = T} (h d.0) d.1 ≡ Err (Refused rest) = d.3 in cc)
      ]
    where
      stops : Stops n P f ts rest → Stops n (λ m. made h (P m)) (λ m. read_made h (f m)) ts rest
      stops s = record {
        used = s.used;
        parts = s.parts;
        completes = record { depth = s.completes.depth; by_ = s.completes.by_; value = h s.completes.value; gives = λ k. (s.completes.value, refl, s.completes.gives k) };
        steady = λ m k le e. rw (s.steady m k le e) refl;
      }

  pub made_lawful : Lawful n (λ m. made h (P m)) (λ m. read_made h (f m)) fp mp np
  made_lawful = record {
    starts = λ b ts rest w. lp.starts w.0 ts rest w.2;
    shrinks = λ b ts rest w. lp.shrinks w.0 ts rest w.2;
    only = made_only;
    found = made_found;
    refused = made_refused;
    some = record { depth = lp.some.depth; by_ = lp.some.by_; value = h lp.some.value; gives = λ k. (lp.some.value, refl, lp.some.gives k) };
  }

pub made_grows : {T A B : Type 0} (h : A → B) (P : ℕ → Form T A) → Grows P → Grows (λ m. made h (P m))
made_grows h P p n b ts rest w = (w.0, w.1, p n w.0 ts rest w.2)

-- ---- one or the other

pub begins : {T A : Type 0} (n : ℕ) (P : ℕ → Form T A) (f : ℕ → Reader T A) (fp mp : T → Bool) → Lawful n P f fp mp false → (a : A) (ts rest : List T) → P n a ts rest → sees fp ts ≡ true
begins n P f fp mp lp a ts rest h = elim (lp.starts a ts rest h) [ inl s ↦ s | inr e ↦ absurd (let no : false ≡ true = e.0 in cc) ]

-- a test that went one way
pub by_true : {T A : Type 0} (b : Bool) (x y : Outcome T A) → b ≡ true → cond b x y ≡ x
by_true true x y h = refl
by_true false x y h = absurd cc

pub by_false : {T A : Type 0} (b : Bool) (x y : Outcome T A) → b ≡ false → cond b x y ≡ y
by_false false x y h = refl
by_false true x y h = absurd cc

pub way : (b : Bool) → (b ≡ true) ⊎ (b ≡ false)
way true = inl refl
way false = inr refl

least_one : (b : Bool) → least b ≤ 1
least_one true = omega arith
least_one false = omega arith

module _ {T A : Type 0} (n : ℕ) (P : ℕ → Form T A) (Q : ℕ → Form T A) (f : ℕ → Reader T A) (g : ℕ → Reader T A)
    (fp mp fq mq : T → Bool) (nq : Bool) (apart : Apart fq fp) (lp : Lawful n P f fp mp false) (lq : Lawful n Q g fq mq nq) where
  abbrev E : ℕ → Form T A
  E m = either (P m) (Q m)

  abbrev R : ℕ → Reader T A
  R m = read_either fp (f m) (g m)

  either_starts : (a : A) (ts rest : List T) → E n a ts rest → (sees (join true fp fq) ts ≡ true) ⊎ ((nq ≡ true) × (ts ≡ rest))
  either_starts a ts rest h =
      elim h [
        | inl p ↦ inl (sees_left true fp fq ts (begins n P f fp mp lp a ts rest p))
        | inr q ↦ elim (lq.starts a ts rest q) [ inl s ↦ inl (sees_right fp fq ts s) | inr e ↦ inr e ]
      ]

  either_shrinks : (a : A) (ts rest : List T) → E n a ts rest → length rest + least nq ≤ length ts
  either_shrinks a ts rest h = elim h [ inl p ↦ omega (arith, lp.shrinks a ts rest p, least_one nq) | inr q ↦ lq.shrinks a ts rest q ]

  -- what the second one spells doesn't begin as the first one
  second_begins : (a : A) (ts rest : List T) → Q n a ts rest → sees (join nq (join true mp mq) fp) rest ≡ false → sees fp ts ≡ false
  second_begins a ts rest q m =
      elim (lq.starts a ts rest q) [
        | inl s ↦ apart_sees fq fp apart ts s
        | inr e ↦ ap (sees fp) e.1 ∙ none_right (join true mp mq) fp rest (subst (λ b. sees (join b (join true mp mq) fp) rest ≡ false) e.0 m)
      ]

  either_only : (a : A) (ts rest : List T) → E n a ts rest → sees (join nq (join true mp mq) fp) rest ≡ false → R n ts ≡ Ok (a, rest)
  either_only a ts rest h m =
      let both_more : sees (join true mp mq) rest ≡ false = none_left nq (join true mp mq) fp rest m in
      elim h [
        | inl p ↦ by_true (sees fp ts) _ _ (begins n P f fp mp lp a ts rest p) ∙ lp.only a ts rest p (none_left true mp mq rest both_more)
        | inr q ↦ by_false (sees fp ts) _ _ (second_begins a ts rest q m) ∙ lq.only a ts rest q (none_right mp mq rest both_more)
      ]

  either_found : (a : A) (ts rest : List T) → R n ts ≡ Ok (a, rest) → Found n E R a ts rest
  either_found a ts rest e =
      elim (way (sees fp ts)) [
        | inl s ↦ first (lp.found a ts rest (sym (by_true (sees fp ts) _ _ s) ∙ e))
        | inr s ↦ second s (lq.found a ts rest (sym (by_false (sees fp ts) _ _ s) ∙ e))
      ]
    where
      first : Found n P f a ts rest → Found n E R a ts rest
      first s = record {
        used = s.used;
        parts = s.parts;
        anywhere = λ k. inl (s.anywhere k);
        steady = λ m k le e. by_true (sees fp (s.used ++ k)) _ _ (begins n P f fp mp lp a _ k (s.anywhere k)) ∙ s.steady m k le e;
      }

      second : sees fp ts ≡ false → Found n Q g a ts rest → Found n E R a ts rest
      second t s = record {
        used = s.used;
        parts = s.parts;
        anywhere = λ k. inr (s.anywhere k);
        steady = λ m k le e. by_false (sees fp (s.used ++ k)) _ _ (sym (ap (holds fp) (ap head s.parts ∙ head_append s.used rest k e)) ∙ t) ∙ s.steady m k le e;
      }

  either_refused : (ts rest : List T) → R n ts ≡ Err (Refused rest) → Stops n E R ts rest
  either_refused ts rest e =
      elim (way (sees fp ts)) [
        | inl s ↦ first s (lp.refused ts rest (sym (by_true (sees fp ts) _ _ s) ∙ e))
        | inr s ↦ second s (lq.refused ts rest (sym (by_false (sees fp ts) _ _ s) ∙ e))
      ]
    where
      first : sees fp ts ≡ true → Stops n P f ts rest → Stops n E R ts rest
      first t s = record {
        used = s.used;
        parts = s.parts;
        completes = record { depth = s.completes.depth; by_ = s.completes.by_; value = s.completes.value; gives = λ k. inl (s.completes.gives k) };
        steady = λ m k le e. by_true (sees fp (s.used ++ k)) _ _ (sym (ap (holds fp) (ap head s.parts ∙ head_append s.used rest k e)) ∙ t) ∙ s.steady m k le e;
      }

      second : sees fp ts ≡ false → Stops n Q g ts rest → Stops n E R ts rest
      second t s = record {
        used = s.used;
        parts = s.parts;
        completes = record { depth = s.completes.depth; by_ = s.completes.by_; value = s.completes.value; gives = λ k. inr (s.completes.gives k) };
        steady = λ m k le e. by_false (sees fp (s.used ++ k)) _ _ (sym (ap (holds fp) (ap head s.parts ∙ head_append s.used rest k e)) ∙ t) ∙ s.steady m k le e;
      }

  pub either_lawful : Lawful n (λ m. either (P m) (Q m)) (λ m. read_either fp (f m) (g m)) (join true fp fq) (join nq (join true mp mq) fp) nq
  either_lawful = record {
    starts = either_starts;
    shrinks = either_shrinks;
    only = either_only;
    found = either_found;
    refused = either_refused;
    some = record { depth = lp.some.depth; by_ = lp.some.by_; value = lp.some.value; gives = λ k. inl (lp.some.gives k) };
  }

pub either_grows : {T A : Type 0} (P Q : ℕ → Form T A) → Grows P → Grows Q → Grows (λ m. either (P m) (Q m))
either_grows P Q p q n a ts rest h = elim h [ inl x ↦ inl (p n a ts rest x) | inr x ↦ inr (q n a ts rest x) ]

-- ---- at most one

module _ {T A : Type 0} (n : ℕ) (P : ℕ → Form T A) (f : ℕ → Reader T A) (fp mp : T → Bool) (lp : Lawful n P f fp mp false) where
  opt_starts : (o : Option A) (ts rest : List T) → opt (P n) o ts rest → (sees fp ts ≡ true) ⊎ ((true ≡ true) × (ts ≡ rest))
  opt_starts None ts rest h = inr (refl, h)
  opt_starts (Some a) ts rest h = inl (begins n P f fp mp lp a ts rest h)

  opt_shrinks : (o : Option A) (ts rest : List T) → opt (P n) o ts rest → length rest + 0 ≤ length ts
  opt_shrinks None ts rest h = rw h (omega arith)
  opt_shrinks (Some a) ts rest h = let e : length rest + 1 ≤ length ts = lp.shrinks a ts rest h in omega arith

  opt_only : (o : Option A) (ts rest : List T) → opt (P n) o ts rest → sees (join true mp fp) rest ≡ false → read_opt fp (f n) ts ≡ Ok (o, rest)
  opt_only None ts rest h m = by_false (sees fp ts) _ _ (ap (sees fp) h ∙ none_right mp fp rest m) ∙ ap (λ (r : List T). Ok (None, r)) h
  opt_only (Some a) ts rest h m = by_true (sees fp ts) _ _ (begins n P f fp mp lp a ts rest h) ∙ rw (lp.only a ts rest h (none_left true mp fp rest m)) refl

  opt_found : (o : Option A) (ts rest : List T) → read_opt fp (f n) ts ≡ Ok (o, rest) → Found n (λ m. opt (P m)) (λ m. read_opt fp (f m)) o ts rest
  opt_found o ts rest e =
      elim (way (sees fp ts)) [
        | inl s ↦ first (bind_ok (f n ts) (λ a. pure (Some a)) o rest (sym (by_true (sees fp ts) _ _ s) ∙ e))
        | inr s ↦ second s (sym (by_false (sees fp ts) _ _ s) ∙ e)
      ]
    where
      first : ((a : A) × (mid : List T) × (f n ts ≡ Ok (a, mid)) × (got (Some a) mid ≡ Ok (o, rest))) → Found n (λ m. opt (P m)) (λ m. read_opt fp (f m)) o ts rest
      first d =
          let w : Some d.0 ≡ o = got_value (Some d.0) o d.1 rest d.3 in
          let same : d.1 ≡ rest = got_rest (Some d.0) o d.1 rest d.3 in
          let a = lp.found d.0 ts rest (d.2 ∙ ap (λ (r : List T). Ok (d.0, r)) same) in
          subst (λ o. Found n (λ m. opt (P m)) (λ m. read_opt fp (f m)) o ts rest) w (record {
            used = a.used;
            parts = a.parts;
            anywhere = λ k. a.anywhere k;
            steady = λ m k le s. by_true (sees fp (a.used ++ k)) _ _ (begins n P f fp mp lp d.0 _ k (a.anywhere k)) ∙ rw (a.steady m k le s) refl;
          })

      second : sees fp ts ≡ false → got None ts ≡ Ok (o, rest) → Found n (λ m. opt (P m)) (λ m. read_opt fp (f m)) o ts rest
      second t e =
          let w : None ≡ o = got_value None o ts rest e in
          let same : ts ≡ rest = got_rest None o ts rest e in
          subst (λ o. Found n (λ m. opt (P m)) (λ m. read_opt fp (f m)) o ts rest) w (record {
            used = [];
            parts = same;
            anywhere = λ k. refl;
            steady = λ m k le s. by_false (sees fp k) _ _ (sym (same_sees fp rest k s) ∙ ap (sees fp) (sym same) ∙ t);
          })

  opt_refused : (ts rest : List T) → read_opt fp (f n) ts ≡ Err (Refused rest) → Stops n (λ m. opt (P m)) (λ m. read_opt fp (f m)) ts rest
  opt_refused ts rest e =
      elim (way (sees fp ts)) [
        | inl s ↦ elim (bind_err (f n ts) (λ a. pure (Some a)) rest (sym (by_true (sees fp ts) _ _ s) ∙ e)) [
          | inl d ↦ first s (lp.refused ts rest d)
          | inr d ↦ absurd (let no : got {T = T} (Some d.0) d.1 ≡ Err (Refused rest) = d.3 in cc)
        ]
        | inr s ↦ absurd (let no : got {T = T} {A = Option A} None ts ≡ Err (Refused rest) = sym (by_false (sees fp ts) _ _ s) ∙ e in cc)
      ]
    where
      first : sees fp ts ≡ true → Stops n P f ts rest → Stops n (λ m. opt (P m)) (λ m. read_opt fp (f m)) ts rest
      first t s = record {
        used = s.used;
        parts = s.parts;
        completes = record { depth = s.completes.depth; by_ = s.completes.by_; value = Some s.completes.value; gives = s.completes.gives };
        steady = λ m k le e. by_true (sees fp (s.used ++ k)) _ _ (sym (ap (holds fp) (ap head s.parts ∙ head_append s.used rest k e)) ∙ t) ∙ rw (s.steady m k le e) refl;
      }

  pub opt_lawful : Lawful n (λ m. opt (P m)) (λ m. read_opt fp (f m)) fp (join true mp fp) true
  opt_lawful = record {
    starts = opt_starts;
    shrinks = opt_shrinks;
    only = opt_only;
    found = opt_found;
    refused = opt_refused;
    some = record { depth = 0; by_ = []; value = None; gives = λ k. refl };
  }

pub opt_grows : {T A : Type 0} (P : ℕ → Form T A) → Grows P → Grows (λ m. opt (P m))
opt_grows P p n None ts rest h = h
opt_grows P p n (Some a) ts rest h = p n a ts rest h
