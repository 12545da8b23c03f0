-- A choice by two tokens.
use Rattle.std.proofs.Common.{◌≡◌, ℕ, ◌<◌, ◌≤◌, Bool, true, false, ◌&&◌, List, [], ◌∷◌, ◌++◌, length, Option, Ok, Err, refl, sym, ap, ◌∙◌, arith, inl, inr, ◌⊎◌, length-append}
use Rattle.rd_parse.specs.Form.{Form, either}
use Rattle.rd_parse.specs.Reader.{Refused, Reader, head, sees, pair, read_pick}
use Rattle.rd_parse.proofs.Laws.{SameHead, Found, Stops, Lawful, head_append, same_sees, join, sees_left, sees_right, none_left, none_right}
use Rattle.rd_parse.proofs.More.{begins, by_true, by_false, way}

pair_same : {T : Type 0} (a : T → Bool) (b : Option T → Bool) (used r k : List T) → 0 < length used → SameHead r k → pair a b (used ++ r) ≡ pair a b (used ++ k)
pair_same a b [] r k some h = absurd (omega arith)
pair_same a b (t ∷ used) r k some h = ap (λ x. a t && b x) (head_append used r k h)

pub pair_none : {T : Type 0} (a : T → Bool) (b : Option T → Bool) (ts : List T) → sees a ts ≡ false → pair a b ts ≡ false
pair_none a b [] h = refl
pair_none a b (t ∷ ts) h = rw h refl

empty_or : {T : Type 0} (used : List T) → (used ≡ []) ⊎ (0 < length used)
empty_or [] = inl refl
empty_or (t ∷ used) = inr (omega arith)

-- A reader that doesn't refuse the first token of a list takes it, whatever comes behind it.
pub eager_by : {T A : Type 0} (n : ℕ) (P : ℕ → Form T A) (f : ℕ → Reader T A) (fp mp : T → Bool) (np : Bool) → Lawful n P f fp mp np → (ts rest : List T) → f n ts ≡ Err (Refused rest)
    → (k : List T) → SameHead ts k → (f n k ≡ Err (Refused k) → ⊥) → length rest < length ts
eager_by {T} n P f fp mp np l ts rest e k same not_first = by_used s.used s.parts (λ k. s.steady n k) (empty_or s.used)
  where
    s : Stops n P f ts rest
    s = l.refused ts rest e

    by_used : (used : List T) → ts ≡ used ++ rest → ((k : List T) → n ≤ n → SameHead rest k → f n (used ++ k) ≡ Err (Refused k)) → (used ≡ []) ⊎ (0 < length used) → length rest < length ts
    by_used used parts steady (inr some) = omega (arith, ap length parts, length-append used rest)
    by_used used parts steady (inl none) =
        let all : ts ≡ rest = parts ∙ ap (λ (u : List T). u ++ rest) none in
        absurd (not_first (ap (λ (u : List T). f n (u ++ k)) (sym none) ∙ steady k (omega arith) (ap head (sym all) ∙ same)))

-- What the texts of two forms begin with, where a test of the first two tokens tells them apart. No token of `behind` stands behind them.
pub record Apart2 {T A : Type 0} (n : ℕ) (a : T → Bool) (b : Option T → Bool) (behind : T → Bool) (P Q : ℕ → Form T A) (f g : ℕ → Reader T A) : Type 0 where
  pub pairs : (x : A) (ts rest : List T) → P n x ts rest → sees behind rest ≡ false → pair a b ts ≡ true
  pub alone : (x : A) (ts rest : List T) → Q n x ts rest → sees behind rest ≡ false → pair a b ts ≡ false
  -- neither reader refuses a token that it chose
  pub eager_pair : (ts rest : List T) → f n ts ≡ Err (Refused rest) → pair a b ts ≡ true → length rest < length ts
  pub eager_alone : (ts rest : List T) → g n ts ≡ Err (Refused rest) → sees a ts ≡ true → length rest < length ts

module _ {T A : Type 0} (n : ℕ) (a : T → Bool) (b : Option T → Bool) (behind : T → Bool) (P Q : ℕ → Form T A) (f g : ℕ → Reader T A) (fp mp fq mq : T → Bool)
    (lp : Lawful n P f fp mp false) (lq : Lawful n Q g fq mq false) (apart : Apart2 n a b behind P Q f g) where
  abbrev E : ℕ → Form T A
  E m = either (P m) (Q m)

  abbrev R : ℕ → Reader T A
  R m = read_pick a b (f m) (g m)

  abbrev more_set : T → Bool
  more_set = join true behind (join true mp mq)

  pick_only : (x : A) (ts rest : List T) → E n x ts rest → sees more_set rest ≡ false → R n ts ≡ Ok (x, rest)
  pick_only x ts rest h m =
      let m1 = none_left true behind (join true mp mq) rest m in
      let m2 = none_right behind (join true mp mq) rest m in
      elim h [
        | inl p ↦ by_true (pair a b ts) _ _ (apart.pairs x ts rest p m1) ∙ lp.only x ts rest p (none_left true mp mq rest m2)
        | inr q ↦ by_false (pair a b ts) _ _ (apart.alone x ts rest q m1) ∙ lq.only x ts rest q (none_right mp mq rest m2)
      ]

  some_p : (x : A) (used : List T) → P n x (used ++ []) [] → 0 < length used
  some_p x used h = omega (arith, lp.shrinks x (used ++ []) [] h, length-append used [])

  some_q : (x : A) (used : List T) → Q n x (used ++ []) [] → 0 < length used
  some_q x used h = omega (arith, lq.shrinks x (used ++ []) [] h, length-append used [])

  pick_found : (x : A) (ts rest : List T) → R n ts ≡ Ok (x, rest) → Found n E R x ts rest
  pick_found x ts rest e =
      elim (way (pair a b ts)) [
        | inl s ↦ first s (lp.found x ts rest (sym (by_true (pair a b ts) _ _ s) ∙ e))
        | inr s ↦ second s (lq.found x ts rest (sym (by_false (pair a b ts) _ _ s) ∙ e))
      ]
    where
      first : pair a b ts ≡ true → Found n P f x ts rest → Found n E R x ts rest
      first t s = record {
        used = s.used;
        parts = s.parts;
        anywhere = λ k. inl (s.anywhere k);
        steady = λ m k le e. by_true (pair a b (s.used ++ k)) _ _ (sym (pair_same a b s.used rest k (some_p x s.used (s.anywhere [])) e) ∙ ap (pair a b) (sym s.parts) ∙ t) ∙ s.steady m k le e;
      }

      second : pair a b ts ≡ false → Found n Q g x ts rest → Found n E R x ts rest
      second t s = record {
        used = s.used;
        parts = s.parts;
        anywhere = λ k. inr (s.anywhere k);
        steady = λ m k le e. by_false (pair a b (s.used ++ k)) _ _ (sym (pair_same a b s.used rest k (some_q x s.used (s.anywhere [])) e) ∙ ap (pair a b) (sym s.parts) ∙ t) ∙ s.steady m k le e;
      }

  pick_refused : (ts rest : List T) → R n ts ≡ Err (Refused rest) → Stops n E R ts rest
  pick_refused ts rest e =
      elim (way (pair a b ts)) [
        | inl s ↦ let d = sym (by_true (pair a b ts) _ _ s) ∙ e in first s (apart.eager_pair ts rest d s) (lp.refused ts rest d)
        | inr s ↦ let d = sym (by_false (pair a b ts) _ _ s) ∙ e in second s (apart.eager_alone ts rest d) (lq.refused ts rest d)
      ]
    where
      first : pair a b ts ≡ true → length rest < length ts → Stops n P f ts rest → Stops n E R ts rest
      first t lt s =
          let some : 0 < length s.used = omega (arith, ap length s.parts, length-append s.used rest) in
          record {
            used = s.used;
            parts = s.parts;
            completes = record { depth = s.completes.depth; by_ = s.completes.by_; value = s.completes.value; gives = λ k. inl (s.completes.gives k) };
            steady = λ m k le e. by_true (pair a b (s.used ++ k)) _ _ (sym (pair_same a b s.used rest k some e) ∙ ap (pair a b) (sym s.parts) ∙ t) ∙ s.steady m k le e;
          }

      stays : (used k : List T) → ts ≡ used ++ rest → pair a b ts ≡ false → (sees a ts ≡ true → length rest < length ts) → SameHead rest k → (used ≡ []) ⊎ (0 < length used) → pair a b (used ++ k) ≡ false
      stays used k parts t eager e (inr some) = sym (pair_same a b used rest k some e) ∙ ap (pair a b) (sym parts) ∙ t
      stays used k parts t eager e (inl none) =
          let same : ts ≡ rest = parts ∙ ap (λ (u : List T). u ++ rest) none in
          elim (way (sees a ts)) [
            | inl y ↦ absurd (let lt : length rest < length ts = eager y in omega (arith, ap length same))
            | inr y ↦ ap (λ (u : List T). pair a b (u ++ k)) none ∙ pair_none a b k (sym (same_sees a rest k e) ∙ ap (sees a) (sym same) ∙ y)
          ]

      second : pair a b ts ≡ false → (sees a ts ≡ true → length rest < length ts) → Stops n Q g ts rest → Stops n E R ts rest
      second t eager s = record {
        used = s.used;
        parts = s.parts;
        completes = record { depth = s.completes.depth; by_ = s.completes.by_; value = s.completes.value; gives = λ k. inr (s.completes.gives k) };
        steady = λ m k le e. by_false (pair a b (s.used ++ k)) _ _ (stays s.used k s.parts t eager e (empty_or s.used)) ∙ s.steady m k le e;
      }

  pub pick_lawful : Lawful n (λ m. either (P m) (Q m)) (λ m. read_pick a b (f m) (g m)) (join true fp fq) (join true behind (join true mp mq)) false
  pick_lawful = record {
    starts = λ x ts rest h. elim h [
      | inl p ↦ inl (sees_left true fp fq ts (begins n P f fp mp lp x ts rest p))
      | inr q ↦ inl (sees_right fp fq ts (begins n Q g fq mq lq x ts rest q))
    ];
    shrinks = λ x ts rest h. elim h [ inl p ↦ lp.shrinks x ts rest p | inr q ↦ lq.shrinks x ts rest q ];
    only = pick_only;
    found = pick_found;
    refused = pick_refused;
    some = record { depth = lp.some.depth; by_ = lp.some.by_; value = lp.some.value; gives = λ k. inl (lp.some.gives k) };
  }
