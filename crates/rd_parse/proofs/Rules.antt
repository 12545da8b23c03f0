-- The laws of each way to build a form, as one rule each.
use Rattle.std.proofs.Common.{◌≡◌, ℕ, suc, Bool, true, false, ◌&&◌, List, [], ◌∷◌, Option, Some, None, refl, subst, inl, inr}
use Rattle.rd_parse.specs.Form.{Form, one, yields, bound, both, made, either, many, opt, opening, more, all_of, listed}
use Rattle.rd_parse.specs.Reader.{Reader, hits, ◌>>=◌, pure, read_one, read_both, read_made, read_either, read_opt, read_many, read_opening, read_more, read_listed}
use Rattle.rd_parse.proofs.Laws.{Lawful, join, Apart, one_lawful, both_lawful}
use Rattle.rd_parse.proofs.More.{made_lawful, either_lawful, opt_lawful}
use Rattle.rd_parse.proofs.Bound.{yields_lawful, bound_lawful}
use Rattle.rd_parse.proofs.Many.{many_lawful}
use Rattle.rd_parse.proofs.Tail.{tail_lawful}
use Rattle.rd_parse.proofs.Depth.{opening_lawful, opening_grows}

abbrev pub Up : {T A : Type 0} → ℕ → (ℕ → Form T A) → Type 0
Up {T} {A} j P = (a : A) (ts rest : List T) → P j a ts rest → P (suc j) a ts rest

-- U says that the forms on which the others are built hold all the more with a larger number.
pub record Rule {T A : Type 0} (U : ℕ → Type 0) (n : ℕ) (P : ℕ → Form T A) (f : ℕ → Reader T A) (first more : T → Bool) (null : Bool) : Type 0 where
  pub up : (j : ℕ) → U j → Up j P
  pub law : ((j : ℕ) → U j) → Lawful n P f first more null

-- the one form on which others are built
abbrev pub On : {T E : Type 0} → (ℕ → Form T E) → ℕ → Type 0
On X j = Up j X

pub base : {T A : Type 0} {U : ℕ → Type 0} (n : ℕ) (X : ℕ → Form T A) (f : ℕ → Reader T A) (first more : T → Bool) (null : Bool) → ((j : ℕ) → U j → Up j X) → Lawful n X f first more null → Rule U n X f first more null
base n X f first more null u l = record { up = u; law = λ g. l }

pub alone : {T A : Type 0} (n : ℕ) (X : ℕ → Form T A) (f : ℕ → Reader T A) (first more : T → Bool) (null : Bool) → Lawful n X f first more null → Rule (On X) n X f first more null
alone n X f first more null l = base n X f first more null (λ j h. h) l

pub token : {T A : Type 0} (U : ℕ → Type 0) (n : ℕ) (o : T → Option A) (t : T) (a : A) → o t ≡ Some a → Rule U n (λ _. one o) (λ _. read_one o) (hits o) (λ _. false) false
token U n o t a is = record { law = λ g. one_lawful n o t a is; up = λ j u a ts rest h. h }

pub opens : {T A : Type 0} (U : ℕ → Type 0) (n : ℕ) (o : T → Option A) (t : T) (a : A) → o t ≡ Some a → Rule U n (opening o) (read_opening o) (hits o) (λ _. false) false
opens U n o t a is = record { law = λ g. opening_lawful n o t a is; up = λ j u. opening_grows o j }

pub seq : {T A B : Type 0} {U : ℕ → Type 0} {n : ℕ} {P : ℕ → Form T A} {Q : ℕ → Form T B} {f : ℕ → Reader T A} {g : ℕ → Reader T B} {fp mp fq mq : T → Bool} {np nq : Bool}
    → Rule U n P f fp mp np → Rule U n Q g fq mq nq → Apart fq mp → Rule U n (λ m. both (P m) (Q m)) (λ m. read_both (f m) (g m)) (join np fp fq) (join nq mq mp) (np && nq)
seq {n = n} {P = P} {Q = Q} {f = f} {g = g} {fp = fp} {mp = mp} {fq = fq} {mq = mq} {np = np} {nq = nq} p q apart =
    record { law = λ x. both_lawful n P Q f g fp mp fq mq np nq (λ j. p.up j (x j)) (λ j. q.up j (x j)) apart (p.law x) (q.law x); up = λ j u a ts rest h. (h.0, p.up j u a.0 ts h.0 h.1, q.up j u a.1 h.0 rest h.2) }

pub and_false : (b : Bool) → (b && false) ≡ false
and_false true = refl
and_false false = refl

-- behind what no token can lengthen
pub then : {T A B : Type 0} {U : ℕ → Type 0} {n : ℕ} {P : ℕ → Form T A} {Q : ℕ → Form T B} {f : ℕ → Reader T A} {g : ℕ → Reader T B} {fp fq mq : T → Bool} {np nq : Bool}
    → Rule U n P f fp (λ _. false) np → Rule U n Q g fq mq nq → Rule U n (λ m. both (P m) (Q m)) (λ m. read_both (f m) (g m)) (join np fp fq) (join nq mq (λ _. false)) (np && nq)
then {fq = fq} p q = seq p q (λ t. and_false (fq t))

pub maps : {T A B : Type 0} {U : ℕ → Type 0} {n : ℕ} {P : ℕ → Form T A} {f : ℕ → Reader T A} {fp mp : T → Bool} {np : Bool}
    → (h : A → B) → Rule U n P f fp mp np → Rule U n (λ m. made h (P m)) (λ m. read_made h (f m)) fp mp np
maps {n = n} {P = P} {f = f} {fp = fp} {mp = mp} {np = np} h p = record { law = λ x. made_lawful n h P f fp mp np (p.law x); up = λ j u b ts rest w. (w.0, w.1, p.up j u w.0 ts rest w.2) }

pub choice : {T A : Type 0} {U : ℕ → Type 0} {n : ℕ} {P Q : ℕ → Form T A} {f g : ℕ → Reader T A} {fp mp fq mq : T → Bool} {nq : Bool}
    → Rule U n P f fp mp false → Rule U n Q g fq mq nq → Apart fq fp → Rule U n (λ m. either (P m) (Q m)) (λ m. read_either fp (f m) (g m)) (join true fp fq) (join nq (join true mp mq) fp) nq
choice {n = n} {P = P} {Q = Q} {f = f} {g = g} {fp = fp} {mp = mp} {fq = fq} {mq = mq} {nq = nq} p q apart =
    record { law = λ x. either_lawful n P Q f g fp mp fq mq nq apart (p.law x) (q.law x); up = λ j u a ts rest h. elim h [ inl x ↦ inl (p.up j u a ts rest x) | inr x ↦ inr (q.up j u a ts rest x) ] }

-- this value, of no token
pub value : {T A : Type 0} (U : ℕ → Type 0) (n : ℕ) (a : A) → Rule {T = T} U n (λ _. yields a) (λ _. pure a) (λ _. false) (λ _. false) true
value U n a = record { law = λ x. yields_lawful n a; up = λ j u b ts rest h. h }

pub binds : {T A B : Type 0} {U : ℕ → Type 0} {n : ℕ} {P : ℕ → Form T A} {Q : A → ℕ → Form T B} {f : ℕ → Reader T A} {g : A → ℕ → Reader T B} {fp mp fq mq : T → Bool} {np nq : Bool}
    → Rule U n P f fp mp np → ((a : A) → Rule U n (Q a) (g a) fq mq nq) → Apart fq mp → Rule U n (λ m. bound (P m) (λ a. Q a m)) (λ m. f m >>= λ a. g a m) (join np fp fq) (join nq mq mp) (np && nq)
binds {n = n} {P = P} {Q = Q} {f = f} {g = g} {fp = fp} {mp = mp} {fq = fq} {mq = mq} {np = np} {nq = nq} p q apart =
    record { law = λ x. bound_lawful n P Q f g fp mp fq mq np nq (λ j. p.up j (x j)) (λ a j. (q a).up j (x j)) apart (p.law x) (λ a. (q a).law x); up = λ j u b ts rest h. (h.0, h.1, p.up j u h.0 ts h.1 h.2, (q h.0).up j u b h.1 rest h.3) }

-- behind what no token can lengthen
pub next : {T A B : Type 0} {U : ℕ → Type 0} {n : ℕ} {P : ℕ → Form T A} {Q : A → ℕ → Form T B} {f : ℕ → Reader T A} {g : A → ℕ → Reader T B} {fp fq mq : T → Bool} {np nq : Bool}
    → Rule U n P f fp (λ _. false) np → ((a : A) → Rule U n (Q a) (g a) fq mq nq) → Rule U n (λ m. bound (P m) (λ a. Q a m)) (λ m. f m >>= λ a. g a m) (join np fp fq) (join nq mq (λ _. false)) (np && nq)
next {fq = fq} p q = binds p q (λ t. and_false (fq t))

-- what is made of the value that was read
pub gives : {T A B : Type 0} {U : ℕ → Type 0} {n : ℕ} {P : ℕ → Form T A} {f : ℕ → Reader T A} {fp mp : T → Bool} {np : Bool}
    → (h : A → B) → Rule U n P f fp mp np → Rule U n (λ m. bound (P m) (λ a. yields (h a))) (λ m. f m >>= λ a. pure (h a)) (join np fp (λ _. false)) (join true (λ _. false) mp) (np && true)
gives {U = U} {n = n} h p = binds p (λ a. value U n (h a)) (λ t. refl)

opt_up : {T A : Type 0} (P : ℕ → Form T A) (j : ℕ) → Up j P → Up j (λ m. opt (P m))
opt_up P j u None ts rest h = h
opt_up P j u (Some a) ts rest h = u a ts rest h

pub maybe : {T A : Type 0} {U : ℕ → Type 0} {n : ℕ} {P : ℕ → Form T A} {f : ℕ → Reader T A} {fp mp : T → Bool}
    → Rule U n P f fp mp false → Rule U n (λ m. opt (P m)) (λ m. read_opt fp (f m)) fp (join true mp fp) true
maybe {n = n} {P = P} {f = f} {fp = fp} {mp = mp} p = record { law = λ x. opt_lawful n P f fp mp (p.law x); up = λ j u. opt_up P j (p.up j u) }

many_up : {T A : Type 0} (P : ℕ → Form T A) (j : ℕ) → Up j P → Up j (λ m. many (P m))
many_up P j u [] ts rest h = h
many_up P j u (a ∷ more) ts rest h = (h.0, u a ts h.0 h.1, many_up P j u more h.0 rest h.2)

pub repeats : {T A : Type 0} {U : ℕ → Type 0} {n : ℕ} {P : ℕ → Form T A} {f : ℕ → Reader T A} {fp mp : T → Bool}
    → Rule U n P f fp mp false → Apart fp mp → Rule U n (λ m. many (P m)) (λ m. read_many fp (f m)) fp (join true fp mp) true
repeats {n = n} {P = P} {f = f} {fp = fp} {mp = mp} p apart = record { law = λ x. many_lawful n P f fp mp (λ j. p.up j (x j)) apart (p.law x); up = λ j u. many_up P j (p.up j u) }

more_up : {T C A : Type 0} (c : T → Option C) (P : ℕ → Form T A) (j : ℕ) → Up j P → Up j (λ m. more c (P m))
more_up c P j u [] ts rest h = h
more_up c P j u (a ∷ more) ts rest h = (h.0, h.1, h.2, h.3, u a h.1 h.3 h.4, more_up c P j u more h.3 rest h.5)

-- each behind a sign
pub signed : {T C A : Type 0} {U : ℕ → Type 0} {n : ℕ} {P : ℕ → Form T A} {f : ℕ → Reader T A} {fp mp : T → Bool}
    → (c : T → Option C) (t : T) (u : C) → c t ≡ Some u → Apart (hits c) mp → Rule U n P f fp mp false
    → Rule U n (λ m. more c (P m)) (λ m. read_more c fp (f m)) (hits c) (join true (hits c) (join true fp mp)) true
signed {A = A} {n = n} {P = P} {f = f} {fp = fp} {mp = mp} c t u is apart p = record {
  law = λ x. tail_lawful n c t u is (λ (s : Unit {0}). P) (λ (s : Unit {0}). f) (λ (s : Unit {0}). fp) fp mp (λ (s : Unit {0}) (a : A). s) (λ s k h. h) apart (λ s j. p.up j (x j)) (λ s. p.law x) tt;
  up = λ j h. more_up c P j (p.up j h);
}

pub lists : {T C A : Type 0} {U : ℕ → Type 0} {n : ℕ} {P : ℕ → Form T A} {f : ℕ → Reader T A} {fp mp : T → Bool}
    → (c : T → Option C) (t : T) (u : C) → c t ≡ Some u → Apart (hits c) mp → Rule U n P f fp mp false
    → Rule U n (λ m. listed c (P m)) (λ m. read_listed c fp (f m)) fp (join true (join true (join true (hits c) (join true fp mp)) mp) fp) true
lists c t u is apart p = maps all_of (maybe (seq p (signed c t u is apart p) apart))

-- the same sets, spelled otherwise
pub relabel : {T A : Type 0} {U : ℕ → Type 0} {n : ℕ} {P : ℕ → Form T A} {f : ℕ → Reader T A} {fp mp fq mq : T → Bool} {np : Bool}
    → ((k : T) → fp k ≡ fq k) → ((k : T) → mp k ≡ mq k) → Rule U n P f fp mp np → Rule U n P f fq mq np
relabel {T = T} {U = U} {n = n} {P = P} {f = f} {fp = fp} {mp = mp} {fq = fq} {mq = mq} {np = np} s m p =
    let sets : fp ≡ fq = λ i k. s k i in
    let more : mp ≡ mq = λ i k. m k i in
    subst (λ (mq : T → Bool). Rule U n P f fq mq np) more (subst (λ (fq : T → Bool). Rule U n P f fq mp np) sets p)
