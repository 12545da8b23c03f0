-- Readers of many, as a loop reads them.
use Rattle.std.proofs.Common.{◌≡◌, ℕ, zero, suc, ◌<◌, Bool, true, false, cond, List, [], ◌∷◌, ◌++◌, length, Ok, Err, refl, sym, ap, ◌∙◌, append_assoc, length-append, arith, inl, inr, Option, Some, None}
use Rattle.std.proofs.lemmas.List.{append-nil}
use Rattle.rd_parse.specs.Form.{Form}
use Rattle.rd_parse.specs.Reader.{Stop, Outcome, Reader, sees, hits, and_then, ◌>>=◌, pure, took, read_one, read_made, read_many, onto, read_many_by, read_tail, read_tail_by}
use Rattle.rd_parse.proofs.Laws.{Lawful, one_none, got, got_rest}
use Rattle.rd_parse.proofs.More.{by_true, by_false, way}

-- A reader that takes something leaves less.
abbrev pub Shrinks : {T A : Type 0} → Reader T A → Type 0
Shrinks {T} {A} f = (a : A) (ts rest : List T) → f ts ≡ Ok (a, rest) → length rest < length ts

pub shrinks_of : {T A : Type 0} (n : ℕ) (P : ℕ → Form T A) (f : ℕ → Reader T A) (fp mp : T → Bool) → Lawful n P f fp mp false → Shrinks (f n)
shrinks_of n P f fp mp l a ts rest h =
    let s = l.found a ts rest h in
    omega (arith, l.shrinks a (s.used ++ []) [] (s.anywhere []), length-append s.used [], length-append s.used rest, ap length s.parts)

then_same : {T A B : Type 0} (r : Outcome T A) (f g : A → Reader T B) → ((a : A) (mid : List T) → r ≡ Ok (a, mid) → f a mid ≡ g a mid) → and_then r f ≡ and_then r g
then_same (Ok x) f g h = h x.0 x.1 refl
then_same (Err e) f g h = refl

module _ {T A : Type 0} (s : T → Bool) (g : Reader T A) (short : Shrinks g) where
  enough : (t u : ℕ) (ts : List T) → length ts < t → length ts < u → read_many_by s g t ts ≡ read_many_by s g u ts
  enough zero u ts p q = absurd (omega arith)
  enough (suc t) zero ts p q = absurd (omega arith)
  enough (suc t) (suc u) ts p q =
      elim (way (sees s ts)) [
        | inl y ↦ by_true (sees s ts) _ _ y ∙ then_same (g ts) (λ a. read_many_by s g t >>= λ more. pure (a ∷ more)) (λ a. read_many_by s g u >>= λ more. pure (a ∷ more))
            (λ a mid e. ap (λ r. and_then r (λ more. pure (a ∷ more))) (enough t u mid (let l = short a ts mid e in omega arith) (let l = short a ts mid e in omega arith))) ∙ sym (by_true (sees s ts) _ _ y)
        | inr n ↦ by_false (sees s ts) _ _ n ∙ sym (by_false (sees s ts) _ _ n)
      ]

  -- one more of them
  many_step : (ts mid : List T) (a : A) → sees s ts ≡ true → g ts ≡ Ok (a, mid) → read_many s g ts ≡ and_then (read_many s g mid) (λ more. pure (a ∷ more))
  many_step ts mid a y e =
      by_true (sees s ts) _ _ y ∙ rw e (ap (λ r. and_then r (λ more. pure (a ∷ more))) (enough (length ts) (suc (length mid)) mid (let l = short a ts mid e in omega arith) (omega arith)))

taken_sees : {T A : Type 0} (o : T → Option A) (ts after : List T) (a : A) → read_one o ts ≡ Ok (a, after) → sees (hits o) ts ≡ true
taken_sees o ts after a e = elim (way (sees (hits o) ts)) [ inl y ↦ y | inr n ↦ absurd (let no : got a after ≡ Err _ = sym e ∙ one_none o ts n in cc) ]

took_rest : {T A : Type 0} (all r rest : List T) (v : Option A) (a : A) → took all r v ≡ Ok (a, rest) → r ≡ rest
took_rest all r rest None a h = absurd cc
took_rest all r rest (Some b) a h = got_rest b a r rest h

pub taken_short : {T A : Type 0} (o : T → Option A) → Shrinks (read_one o)
taken_short o a [] rest h = absurd cc
taken_short o a (t ∷ ts) rest h = let same : ts ≡ rest = took_rest (t ∷ ts) ts rest (o t) a h in rw (← same) (omega arith)

onto_one : {T A : Type 0} (all : List A) (a : A) (r : Outcome T (List A)) → and_then (and_then r (λ more. pure (a ∷ more))) (λ more. pure (all ++ more)) ≡ and_then r (λ more. pure ((all ++ a ∷ []) ++ more))
onto_one all a (Ok x) = ap (λ xs. Ok (xs, x.1)) (simp append_assoc)
onto_one all a (Err e) = refl

-- what is made of those that are read
module _ {T A B : Type 0} (s : T → Bool) (g : Reader T A) (short : Shrinks g) where
  pub made_goes_on : (h k : List A → B) (a : A) → ((more : List A) → h (a ∷ more) ≡ k more) → (ts mid : List T) → sees s ts ≡ true → g ts ≡ Ok (a, mid) → read_made h (read_many s g) ts ≡ read_made k (read_many s g) mid
  made_goes_on h k a same ts mid y e = ap (λ r. and_then r (λ more. pure (h more))) (many_step s g short ts mid a y e) ∙ one_more (read_many s g mid)
    where
      one_more : (r : Outcome T (List A)) → and_then (and_then r (λ more. pure (a ∷ more))) (λ more. pure (h more)) ≡ and_then r (λ more. pure (k more))
      one_more (Ok x) = ap (λ b. Ok (b, x.1)) (same x.0)
      one_more (Err e) = refl

  pub made_stops : (h : List A → B) (ts : List T) (e : Stop T) → sees s ts ≡ true → g ts ≡ Err e → read_made h (read_many s g) ts ≡ Err e
  made_stops h ts e y d =
      let none : read_many s g ts ≡ Err e = by_true (sees s ts) _ _ y ∙ ap (λ r. and_then r (λ a. read_many_by s g (length ts) >>= λ more. pure (a ∷ more))) d in
      ap (λ r. and_then r (λ more. pure (h more))) none

  pub made_done : (h : List A → B) (ts : List T) → sees s ts ≡ false → read_made h (read_many s g) ts ≡ Ok (h [], ts)
  made_done h ts n = ap (λ r. and_then r (λ more. pure (h more))) (by_false (sees s ts) _ _ n)

module _ {T A : Type 0} (s : T → Bool) (g : Reader T A) (short : Shrinks g) where
  pub plain_goes_on : (all : List A) (ts mid : List T) (a : A) → sees s ts ≡ true → g ts ≡ Ok (a, mid) → onto all (read_many s g) ts ≡ onto (all ++ a ∷ []) (read_many s g) mid
  plain_goes_on all ts mid a y e = made_goes_on s g short (λ more. all ++ more) (λ more. (all ++ a ∷ []) ++ more) a (λ more. simp append_assoc) ts mid y e

  pub plain_stops : (all : List A) (ts : List T) (h : Stop T) → sees s ts ≡ true → g ts ≡ Err h → onto all (read_many s g) ts ≡ Err h
  plain_stops all ts h y e = made_stops s g short (λ more. all ++ more) ts h y e

  pub plain_done : (all : List A) (ts : List T) → sees s ts ≡ false → onto all (read_many s g) ts ≡ Ok (all, ts)
  plain_done all ts n = made_done s g short (λ more. all ++ more) ts n ∙ ap (λ xs. Ok (xs, ts)) (append-nil all)

-- ---- each behind a sign

module _ {T S C A : Type 0} (c : T → Option C) (first : S → T → Bool) (f : S → Reader T A) (step : S → A → S) (short : (s : S) → Shrinks (f s)) where
  abbrev by_turns : ℕ → S → Reader T (List A)
  by_turns = read_tail_by c first f step

  abbrev next_turn : ℕ → S → A → Reader T (List A)
  next_turn turns s a = by_turns turns (step s a) >>= λ more. pure (a ∷ more)

  abbrev behind_sign : ℕ → S → C → Reader T (List A)
  behind_sign turns s u x = cond (sees (first s) x) ((f s >>= next_turn turns s) x) (Ok ([], x))

  enough_turns : (t u : ℕ) (s : S) (ts : List T) → length ts < t → length ts < u → by_turns t s ts ≡ by_turns u s ts
  enough_turns zero u s ts p q = absurd (omega arith)
  enough_turns (suc t) zero s ts p q = absurd (omega arith)
  enough_turns (suc t) (suc u) s ts p q =
      elim (way (sees (hits c) ts)) [
        | inr n ↦ by_false (sees (hits c) ts) _ _ n ∙ sym (by_false (sees (hits c) ts) _ _ n)
        | inl y ↦ by_true (sees (hits c) ts) _ _ y ∙ then_same (read_one c ts) (behind_sign t s) (behind_sign u s) (λ v x e. elim (way (sees (first s) x)) [
          | inr n ↦ by_false (sees (first s) x) _ _ n ∙ sym (by_false (sees (first s) x) _ _ n)
          | inl z ↦ by_true (sees (first s) x) _ _ z ∙ then_same (f s x) (next_turn t s) (next_turn u s) (λ a mid d.
              let shorter : length mid < length ts = omega (arith, taken_short c v ts x e, short s a x mid d) in
              ap (λ r. and_then r (λ more. pure (a ∷ more))) (enough_turns t u (step s a) mid (omega arith) (omega arith))) ∙ sym (by_true (sees (first s) x) _ _ z)
        ]) ∙ sym (by_true (sees (hits c) ts) _ _ y)
      ]

  abbrev reads : S → Reader T (List A)
  reads = read_tail c first f step

  module _ (all : List A) (s : S) (ts after : List T) (u : C) (e : read_one c ts ≡ Ok (u, after)) where
    sign_there : (r : Outcome T (List A)) → behind_sign (length ts) s u after ≡ r → reads s ts ≡ r
    sign_there r d = by_true (sees (hits c) ts) _ _ (taken_sees c ts after u e) ∙ rw e d

    pub signed_goes_on : (mid : List T) (a : A) → sees (first s) after ≡ true → f s after ≡ Ok (a, mid) → onto all (reads s) ts ≡ onto (all ++ a ∷ []) (reads (step s a)) mid
    signed_goes_on mid a z d =
        let shorter : length mid < length ts = omega (arith, taken_short c u ts after e, short s a after mid d) in
        let last : behind_sign (length ts) s u after ≡ and_then (reads (step s a) mid) (λ more. pure (a ∷ more)) =
        by_true (sees (first s) after) _ _ z ∙ rw d (ap (λ r. and_then r (λ more. pure (a ∷ more))) (enough_turns (length ts) (suc (length mid)) (step s a) mid (omega arith) (omega arith))) in
        ap (λ r. and_then r (λ more. pure (all ++ more))) (sign_there _ last) ∙ onto_one all a (reads (step s a) mid)

    pub signed_shorter : (mid : List T) (a : A) → f s after ≡ Ok (a, mid) → length mid < length ts
    signed_shorter mid a d = omega (arith, taken_short c u ts after e, short s a after mid d)
