-- Parts of a body that do the same under other names: the ways to join them.
use Rattle.std.proofs.Common.{◌≡◌, ℕ, zero, suc, Bool, true, false, List, [], ◌∷◌, Option, None, Some, Result, Ok, Err, refl, ap, ◌∙◌}
use Rattle.std.specs.Prelude.{nat_le, if◌then◌else◌}
use Rattle.std.specs.List.{AllZip}
use Rattle.rd_value.specs.declared.value.ErrorValue.{ErrorValue}
use Rattle.rd_interpreter.specs.State.{State, Ran, Part, and_then, took, spend, answered, all, goes_on, in_order, each, collected, with_some, turns, loop}

module _ {N M F : Type 0} (r : N → M) where
  -- the state under the names from before
  abbrev pub through : State M F → State N F
  through s = record { names = λ x. s.names (r x); left = s.left }

  abbrev pub ran_through : {A : Type 0} → Ran M F A → Ran N F A
  ran_through (Ok a) = Ok (a.0, through a.1)
  ran_through (Err e) = Err e

  -- the first does under the names from before what the second does
  abbrev pub Carries : {A : Type 0} → Part N F A → Part M F A → Type 0
  Carries p q = (s : State M F) → p (through s) ≡ ran_through (q s)

  pub goes_through : {A B : Type 0} (x : Ran M F A) (go : A → Part N F B) (go' : A → Part M F B) → ((a : A) → Carries (go a) (go' a)) → and_then (ran_through x) go ≡ ran_through (and_then x go')
  goes_through (Ok a) go go' u = u a.0 a.1
  goes_through (Err e) go go' u = refl

  -- what was found, and what goes on with it
  pub after : {A B : Type 0} (x : Ran N F A) (y : Ran M F A) (go : A → Part N F B) (go' : A → Part M F B) → x ≡ ran_through y → ((a : A) → Carries (go a) (go' a)) → and_then x go ≡ ran_through (and_then y go')
  after x y go go' e u = ap (λ z. and_then z go) e ∙ goes_through y go go' u

  pub then_carries : {A B : Type 0} (p : Part N F A) (q : Part M F A) (go : A → Part N F B) (go' : A → Part M F B)
      → Carries p q → ((a : A) → Carries (go a) (go' a)) → Carries (λ s. and_then (p s) go) (λ s. and_then (q s) go')
  then_carries p q go go' u w s = after (p (through s)) (q s) go go' (u s) w

  pub either : {A : Type 0} (b : Bool) (x x' : Ran N F A) (y y' : Ran M F A) → x ≡ ran_through y → x' ≡ ran_through y' → (if b then x else x') ≡ ran_through (if b then y else y')
  either true x x' y y' u w = u
  either false x x' y y' u w = w

  pub spend_carries : {A : Type 0} (n : ℕ) (p : Part N F A) (q : Part M F A) → Carries p q → Carries (λ s. spend n s p) (λ s. spend n s q)
  unfolding took
  spend_carries n p q u s = either (nat_le n s.left) _ _ _ _ (u (took n s)) refl

  pub answered_carries : {A : Type 0} (x : Result A ErrorValue) → Carries (answered x) (answered x)
  answered_carries (Ok a) = λ s. refl
  answered_carries (Err e) = λ s. refl

  -- parts that do the same, one to one
  abbrev pub AllCarry : {A : Type 0} → List (Part N F A) → List (Part M F A) → Type 0
  AllCarry = AllZip Carries

  pub all_carries : {A : Type 0} (ps : List (Part N F A)) (qs : List (Part M F A)) → AllCarry ps qs → Carries (all ps) (all qs)
  all_carries [] [] us = λ s. refl
  all_carries [] (q ∷ qs) us = absurd us
  all_carries (p ∷ ps) [] us = absurd us
  all_carries (p ∷ ps) (q ∷ qs) us =
      then_carries p q _ _ us.0 (λ a. then_carries (all ps) (all qs) _ _ (all_carries ps qs us.1) (λ as' s. refl))

  pub goes_on_carries : {A : Type 0} (o : Option A) (p : Part N F (Option A)) (q : Part M F (Option A)) → Carries p q → Carries (goes_on o p) (goes_on o q)
  goes_on_carries None p q u = u
  goes_on_carries (Some a) p q u = λ s. refl

  pub in_order_carries : {A : Type 0} (ps : List (Part N F (Option A))) (qs : List (Part M F (Option A))) → AllCarry ps qs → Carries (in_order ps) (in_order qs)
  in_order_carries [] [] us = λ s. refl
  in_order_carries [] (q ∷ qs) us = absurd us
  in_order_carries (p ∷ ps) [] us = absurd us
  in_order_carries (p ∷ ps) (q ∷ qs) us = then_carries p q _ _ us.0 (λ o. goes_on_carries o (in_order ps) (in_order qs) (in_order_carries ps qs us.1))

  module _ {A B : Type 0} (p : A → Part N F (Option B)) (q : A → Part M F (Option B)) (us : (a : A) → Carries (p a) (q a)) where
    pub each_carries : (xs : List A) → Carries (each p xs) (each q xs)
    each_carries [] = λ s. refl
    each_carries (x ∷ xs) =
        spend_carries 1 (λ t. and_then (p x t) (λ o u. goes_on o (each p xs) u)) (λ t. and_then (q x t) (λ o u. goes_on o (each q xs) u))
        (then_carries (p x) (q x) _ _ (us x) (λ o. goes_on_carries o (each p xs) (each q xs) (each_carries xs)))

    pub collected_carries : (xs : List A) → Carries (collected p xs) (collected q xs)
    collected_carries [] = λ s. refl
    collected_carries (x ∷ xs) =
        spend_carries 1 (λ t. and_then (p x t) (λ o u. and_then (collected p xs u) (λ more v. Ok (with_some o more, v)))) (λ t. and_then (q x t) (λ o u. and_then (collected q xs u) (λ more v. Ok (with_some o more, v))))
        (then_carries (p x) (q x) _ _ (us x) (λ o. then_carries (collected p xs) (collected q xs) _ _ (collected_carries xs) (λ more s. refl)))

  module _ {A : Type 0} (test : Part N F Bool) (test' : Part M F Bool) (turn : Part N F (Option A)) (turn' : Part M F (Option A)) (u : Carries test test') (w : Carries turn turn') where
    pub turns_carries : (n : ℕ) → Carries (turns n test turn) (turns n test' turn')
    turns_carries zero = λ s. refl
    turns_carries (suc n) =
        then_carries test test' _ _ u
        (λ holds t. either holds _ _ _ _ (then_carries turn turn' _ _ w (λ o. goes_on_carries o (turns n test turn) (turns n test' turn') (turns_carries n)) t) refl)

    pub loop_carries : Carries (loop test turn) (loop test' turn')
    loop_carries s = turns_carries (suc s.left) s
