-- Levels, and other spellings of a form and its reader.
use Rattle.std.proofs.Common.{◌≡◌, ℕ, zero, suc, ◌≤◌, ◌<◌, Bool, true, false, cond, List, [], ◌∷◌, ◌++◌, Option, Some, Ok, Err, refl, sym, ap, ◌∙◌, arith}
use Rattle.rd_parse.specs.Form.{Form, opening, below}
use Rattle.rd_parse.specs.Reader.{Refused, Deep, Outcome, Reader, sees, hits, read_one, read_opening, read_below}
use Rattle.rd_parse.proofs.Laws.{Grows, Completes, Stops, Lawful, stopped_rest, same_sees, one_none, one_stops, one_lawful}
use Rattle.rd_parse.proofs.More.{by_false}

-- ---- a token that opens a level

pub opening_grows : {T A : Type 0} (o : T → Option A) → Grows (opening o)
opening_grows o zero a ts rest h = absurd h
opening_grows o (suc n) a ts rest h = h

opening_none : {T A : Type 0} (o : T → Option A) (m : ℕ) (k : List T) → sees (hits o) k ≡ false → read_opening o m k ≡ Err (Refused k)
opening_none o zero k h = by_false (sees (hits o) k) _ _ h
opening_none o (suc m) k h = one_none o k h

opening_some : {T A : Type 0} (o : T → Option A) (t : T) (a : A) → o t ≡ Some a → Completes (opening o) []
opening_some o t a is = record { depth = 1; by_ = t ∷ []; value = a; gives = λ k. (is, refl) }

opening_stops : {T A : Type 0} (n : ℕ) (o : T → Option A) → Completes (opening o) [] → (ts rest : List T) → sees (hits o) ts ≡ false → ts ≡ rest → Stops n (opening o) (read_opening o) ts rest
opening_stops n o some ts rest t same = record { used = []; parts = same; completes = some; steady = λ m k le e. opening_none o m k (sym (same_sees (hits o) rest k e) ∙ ap (sees (hits o)) (sym same) ∙ t) }

zero_refused : {T : Type 0} (A : Type 0) (b : Bool) (ts rest : List T) → (let r : Outcome T A = cond b (Err (Deep ts)) (Err (Refused ts)) in r) ≡ Err (Refused rest) → (b ≡ false) × (ts ≡ rest)
zero_refused A true ts rest e = absurd cc
zero_refused A false ts rest e = (refl, stopped_rest A ts rest e)

zero_found : {T A : Type 0} (b : Bool) (ts rest : List T) (a : A) → (let r : Outcome T A = cond b (Err (Deep ts)) (Err (Refused ts)) in r) ≡ Ok (a, rest) → ⊥
zero_found true ts rest a e = cc
zero_found false ts rest a e = cc

opening_steady : {T A : Type 0} (o : T → Option A) (u k : List T) (a : A) (n : ℕ) → read_one o (u ++ k) ≡ Ok (a, k) → (m : ℕ) → suc n ≤ m → read_opening o m (u ++ k) ≡ Ok (a, k)
opening_steady o u k a n h zero le = absurd (omega arith)
opening_steady o u k a n h (suc m) le = h

pub opening_lawful : {T A : Type 0} (n : ℕ) (o : T → Option A) (t : T) (a : A) → o t ≡ Some a → Lawful n (opening o) (read_opening o) (hits o) (λ _. false) false
opening_lawful {T} {A} zero o t a is = record {
  starts = λ a ts rest h. absurd h;
  shrinks = λ a ts rest h. absurd h;
  only = λ a ts rest h m. absurd h;
  found = λ a ts rest e. absurd (zero_found (sees (hits o) ts) ts rest a e);
  refused = λ ts rest e. let d = zero_refused A (sees (hits o) ts) ts rest e in opening_stops 0 o (opening_some o t a is) ts rest d.0 d.1;
  some = opening_some o t a is;
}
opening_lawful {T} {A} (suc n) o t a is =
    let l = one_lawful (suc n) o t a is in
    record {
      starts = l.starts;
      shrinks = l.shrinks;
      only = l.only;
      found = λ a ts rest e. let s = l.found a ts rest e in record { used = s.used; parts = s.parts; anywhere = s.anywhere; steady = λ m k le h. opening_steady o s.used k a n (s.steady (suc n) k (omega arith) h) m le };
      refused = λ ts rest e. let s = one_stops o ts rest e in opening_stops (suc n) o (opening_some o t a is) ts rest s.0 s.1;
      some = opening_some o t a is;
    }

-- how a function looks at the level
pub opens_some : {T A : Type 0} (o : T → Option A) (n : ℕ) (ts : List T) → 0 < n → read_opening o n ts ≡ read_one o ts
opens_some o zero ts lt = absurd (omega arith)
opens_some o (suc n) ts lt = refl

pub opens_none : {T A : Type 0} (o : T → Option A) (n : ℕ) (ts : List T) → n ≡ 0 → read_opening o n ts ≡ cond (sees (hits o) ts) (Err (Deep ts)) (Err (Refused ts))
opens_none o zero ts e = refl
opens_none o (suc n) ts e = absurd cc

-- ---- one level further in

pub below_grows : {T A : Type 0} (P : ℕ → Form T A) → Grows P → Grows (below P)
below_grows P p zero a ts rest h = absurd h
below_grows P p (suc n) a ts rest h = p n a ts rest h

later_steady : {T A : Type 0} (f : ℕ → Reader T A) (x : List T) (r : Outcome T A) (n : ℕ) → ((m : ℕ) → n ≤ m → f (suc m) x ≡ r) → (m : ℕ) → suc n ≤ m → f m x ≡ r
later_steady f x r n h zero le = absurd (omega arith)
later_steady f x r n h (suc m) le = h m (omega arith)

-- where no level may open, nothing is read
pub down_zero : {T A : Type 0} (P : ℕ → Form T A) (f : ℕ → Reader T A) (fp mp : T → Bool) (np : Bool)
    → ((a : A) (ts rest : List T) → P 0 a ts rest → ⊥) → ((ts : List T) → f 0 ts ≡ Err (Deep ts)) → Completes P [] → Lawful 0 P f fp mp np
down_zero {T} {A} P f fp mp np none deep some = record {
  starts = λ a ts rest h. absurd (none a ts rest h);
  shrinks = λ a ts rest h. absurd (none a ts rest h);
  only = λ a ts rest h m. absurd (none a ts rest h);
  found = λ a ts rest e. absurd (let no : (let r : Outcome T A = Err (Deep ts) in r) ≡ Ok (a, rest) = sym (deep ts) ∙ e in cc);
  refused = λ ts rest e. absurd (let no : (let r : Outcome T A = Err (Deep ts) in r) ≡ Err (Refused rest) = sym (deep ts) ∙ e in cc);
  some = some;
}

pub deeper_some : {T A : Type 0} (P : ℕ → Form T A) (used : List T) → Completes (λ m. P (suc m)) used → Completes P used
deeper_some P used c = record { depth = suc c.depth; by_ = c.by_; value = c.value; gives = c.gives }

pub down_suc : {T A : Type 0} (n : ℕ) (P : ℕ → Form T A) (f : ℕ → Reader T A) (fp mp : T → Bool) (np : Bool) → Lawful n (λ m. P (suc m)) (λ m. f (suc m)) fp mp np → Lawful (suc n) P f fp mp np
down_suc n P f fp mp np l = record {
  starts = l.starts;
  shrinks = l.shrinks;
  only = l.only;
  found = λ a ts rest e. let s = l.found a ts rest e in record { used = s.used; parts = s.parts; anywhere = s.anywhere; steady = λ m k le h. later_steady f (s.used ++ k) _ n (λ m le. s.steady m k le h) m le };
  refused = λ ts rest e.
      let s = l.refused ts rest e in
      record { used = s.used; parts = s.parts; completes = deeper_some P s.used s.completes; steady = λ m k le h. later_steady f (s.used ++ k) _ n (λ m le. s.steady m k le h) m le };
  some = deeper_some P [] l.some;
}

pub below_zero : {T A : Type 0} (P : ℕ → Form T A) (f : ℕ → Reader T A) (fp mp : T → Bool) (np : Bool) → Completes P [] → Lawful 0 (below P) (read_below f) fp mp np
below_zero P f fp mp np some = down_zero (below P) (read_below f) fp mp np (λ a ts rest h. h) (λ ts. refl) (deeper_some (below P) [] some)

pub below_suc : {T A : Type 0} (n : ℕ) (P : ℕ → Form T A) (f : ℕ → Reader T A) (fp mp : T → Bool) (np : Bool) → Lawful n P f fp mp np → Lawful (suc n) (below P) (read_below f) fp mp np
below_suc n P f fp mp np l = down_suc n (below P) (read_below f) fp mp np l

-- ---- the same form and reader, spelled otherwise

pub record Same {T A : Type 0} (P Q : ℕ → Form T A) (f g : ℕ → Reader T A) : Type 0 where
  pub there : (n : ℕ) (a : A) (ts rest : List T) → P n a ts rest → Q n a ts rest
  pub back : (n : ℕ) (a : A) (ts rest : List T) → Q n a ts rest → P n a ts rest
  pub reads : (n : ℕ) (ts : List T) → f n ts ≡ g n ts

pub recast : {T A : Type 0} (n : ℕ) (P Q : ℕ → Form T A) (f g : ℕ → Reader T A) (fp mp : T → Bool) (np : Bool) → Same P Q f g → Lawful n P f fp mp np → Lawful n Q g fp mp np
recast n P Q f g fp mp np same l = record {
  starts = λ a ts rest h. l.starts a ts rest (same.back n a ts rest h);
  shrinks = λ a ts rest h. l.shrinks a ts rest (same.back n a ts rest h);
  only = λ a ts rest h m. sym (same.reads n ts) ∙ l.only a ts rest (same.back n a ts rest h) m;
  found = λ a ts rest e.
      let s = l.found a ts rest (same.reads n ts ∙ e) in
      record { used = s.used; parts = s.parts; anywhere = λ k. same.there n a _ k (s.anywhere k); steady = λ m k le h. sym (same.reads m (s.used ++ k)) ∙ s.steady m k le h };
  refused = λ ts rest e.
      let s = l.refused ts rest (same.reads n ts ∙ e) in
      record {
        used = s.used;
        parts = s.parts;
        completes = record { depth = s.completes.depth; by_ = s.completes.by_; value = s.completes.value; gives = λ k. same.there s.completes.depth s.completes.value _ k (s.completes.gives k) };
        steady = λ m k le h. sym (same.reads m (s.used ++ k)) ∙ s.steady m k le h;
      };
  some = record { depth = l.some.depth; by_ = l.some.by_; value = l.some.value; gives = λ k. same.there l.some.depth l.some.value _ k (l.some.gives k) };
}
