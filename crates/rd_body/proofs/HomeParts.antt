-- Parts of a body that keep what holds of all that its names stand for: the ways to join them.
use Rattle.std.proofs.Common.{◌≡◌, ℕ, zero, suc, Bool, true, false, List, [], ◌∷◌, Option, None, Some, Result, Ok, Err}
use Rattle.std.specs.Prelude.{nat_le, if◌then◌else◌}
use Rattle.rd_value.specs.declared.value.ErrorValue.{ErrorValue}
use Rattle.rd_value.specs.declared.expr.Lazy.{Lazy}
use Rattle.rd_value.proofs.Ind.{Each}
use Rattle.rd_interpreter.specs.State.{State, Ran, Part, and_then, took, spend, answered, all, goes_on, in_order, each, collected, with_some, turns, loop}

-- it holds of what is there
abbrev pub IfThere : {A : Type 0} → (A → Type 0) → Option A → Type 0
IfThere Q None = Unit {0}
IfThere Q (Some a) = Q a

-- it holds of what was found
abbrev pub IfFound : {A : Type 0} → (A → Type 0) → Result A ErrorValue → Type 0
IfFound Q (Ok a) = Q a
IfFound Q (Err e) = Unit {0}

-- of anything
abbrev pub Anything : {A : Type 0} → A → Type 0
Anything a = Unit {0}

module _ {N F : Type 0} (Home : Lazy F → Type 0) where
  -- it holds of all that names stand for
  abbrev pub IsSafe : State N F → Type 0
  IsSafe s = (x : N) (e : Lazy F) → s.names x ≡ Some e → Home e

  abbrev pub RanWell : {A : Type 0} → (A → Type 0) → Ran N F A → Type 0
  RanWell Q (Ok r) = Q r.0 × IsSafe r.1
  RanWell Q (Err e) = Unit {0}

  -- where it holds before, it holds behind, and this holds of what was found
  abbrev pub Keeps : {A : Type 0} → (A → Type 0) → Part N F A → Type 0
  Keeps Q p = (s : State N F) → IsSafe s → RanWell Q (p s)

  pub goes : {A B : Type 0} (Q : A → Type 0) (R : B → Type 0) (x : Ran N F A) (go : A → Part N F B) → RanWell Q x → ((a : A) → Q a → Keeps R (go a)) → RanWell R (and_then x go)
  goes Q R (Ok r) go u w = w r.0 u.0 r.1 u.1
  goes Q R (Err e) go u w = tt

  pub then_keeps : {A B : Type 0} (Q : A → Type 0) (R : B → Type 0) (p : Part N F A) (go : A → Part N F B) → Keeps Q p → ((a : A) → Q a → Keeps R (go a)) → Keeps R (λ s. and_then (p s) go)
  then_keeps Q R p go u w s h = goes Q R (p s) go (u s h) w

  pub either : {A : Type 0} (Q : A → Type 0) (b : Bool) (x y : Ran N F A) → RanWell Q x → RanWell Q y → RanWell Q (if b then x else y)
  either Q true x y u w = u
  either Q false x y u w = w

  pub spend_keeps : {A : Type 0} (Q : A → Type 0) (n : ℕ) (p : Part N F A) → Keeps Q p → Keeps Q (λ s. spend n s p)
  unfolding took
  spend_keeps Q n p u s h = either Q (nat_le n s.left) (p (took n s)) _ (u (took n s) h) tt

  pub answered_keeps : {A : Type 0} (Q : A → Type 0) (x : Result A ErrorValue) → IfFound Q x → Keeps Q (answered x)
  answered_keeps Q (Ok a) u s h = (u, h)
  answered_keeps Q (Err e) u s h = tt

  pub all_keep : {A : Type 0} (Q : A → Type 0) (ps : List (Part N F A)) → Each (Keeps Q) ps → Keeps (Each Q) (all ps)
  all_keep Q [] us = λ s h. (tt, h)
  all_keep Q (p ∷ ps) us =
      then_keeps Q (Each Q) p _ us.0 (λ a u. then_keeps (Each Q) (Each Q) (all ps) _ (all_keep Q ps us.1) (λ as' ws s h. ((u, ws), h)))

  pub goes_on_keeps : {A : Type 0} (Q : A → Type 0) (o : Option A) (p : Part N F (Option A)) → IfThere Q o → Keeps (IfThere Q) p → Keeps (IfThere Q) (goes_on o p)
  goes_on_keeps Q None p u w = w
  goes_on_keeps Q (Some a) p u w = λ s h. (u, h)

  pub in_order_keeps : {A : Type 0} (Q : A → Type 0) (ps : List (Part N F (Option A))) → Each (Keeps (IfThere Q)) ps → Keeps (IfThere Q) (in_order ps)
  in_order_keeps Q [] us = λ s h. (tt, h)
  in_order_keeps Q (p ∷ ps) us = then_keeps (IfThere Q) (IfThere Q) p _ us.0 (λ o u. goes_on_keeps Q o (in_order ps) u (in_order_keeps Q ps us.1))

  module _ {A B : Type 0} (P : A → Type 0) (Q : B → Type 0) (turn : A → Part N F (Option B)) (us : (a : A) → P a → Keeps (IfThere Q) (turn a)) where
    pub each_keeps : (xs : List A) → Each P xs → Keeps (IfThere Q) (each turn xs)
    each_keeps [] ws = λ s h. (tt, h)
    each_keeps (x ∷ xs) ws =
        spend_keeps (IfThere Q) 1 (λ t. and_then (turn x t) (λ o u. goes_on o (each turn xs) u))
        (then_keeps (IfThere Q) (IfThere Q) (turn x) _ (us x ws.0) (λ o u. goes_on_keeps Q o (each turn xs) u (each_keeps xs ws.1)))

    with_one : (o : Option B) (more : List B) → IfThere Q o → Each Q more → Each Q (with_some o more)
    with_one None more u ws = ws
    with_one (Some b) more u ws = (u, ws)

    pub collected_keeps : (xs : List A) → Each P xs → Keeps (Each Q) (collected turn xs)
    collected_keeps [] ws = λ s h. (tt, h)
    collected_keeps (x ∷ xs) ws =
        spend_keeps (Each Q) 1 (λ t. and_then (turn x t) (λ o u. and_then (collected turn xs u) (λ more v. Ok (with_some o more, v))))
        (then_keeps (IfThere Q) (Each Q) (turn x) _ (us x ws.0)
        (λ o u. then_keeps (Each Q) (Each Q) (collected turn xs) _ (collected_keeps xs ws.1) (λ more vs s h. (with_one o more u vs, h))))

  module _ {A : Type 0} (Q : A → Type 0) (test : Part N F Bool) (turn : Part N F (Option A)) (u : Keeps Anything test) (w : Keeps (IfThere Q) turn) where
    turns_keep : (n : ℕ) → Keeps (IfThere Q) (turns n test turn)
    turns_keep zero = λ s h. tt
    turns_keep (suc n) =
        then_keeps Anything (IfThere Q) test _ u
        (λ holds x s h. either (IfThere Q) holds _ _ (then_keeps (IfThere Q) (IfThere Q) turn _ w (λ o v. goes_on_keeps Q o (turns n test turn) v (turns_keep n)) s h) (tt, h))

    pub loop_keeps : Keeps (IfThere Q) (loop test turn)
    loop_keeps s h = turns_keep (suc s.left) s h
