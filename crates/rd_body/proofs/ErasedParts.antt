-- Parts of a body that do the same with other files: the ways to join them.
use Rattle.std.proofs.Common.{◌≡◌, ℕ, zero, suc, Bool, true, false, List, [], ◌∷◌, map, Option, None, Some, Result, Ok, Err, refl, ap, ◌∙◌}
use Rattle.std.specs.Prelude.{nat_le, if◌then◌else◌}
use Rattle.std.specs.List.{AllZip}
use Rattle.std.specs.Option.{option_map}
use Rattle.rd_value.specs.declared.value.ErrorValue.{ErrorValue}
use Rattle.rd_value.specs.Erase.{with_files_expr}
use Rattle.rd_interpreter.specs.State.{State, Ran, Part, and_then, took, spend, answered, all, goes_on, in_order, each, collected, with_some, turns, loop}

-- an answer with something else in place of what was found
abbrev pub mapped : {A B : Type 0} → (A → B) → Result A ErrorValue → Result B ErrorValue
mapped k (Ok a) = Ok (k a)
mapped k (Err e) = Err e

pub mapped_same : {A : Type 0} (x : Result A ErrorValue) → x ≡ mapped (λ a. a) x
mapped_same (Ok a) = refl
mapped_same (Err e) = refl

with_some_map : {A B : Type 0} (k : A → B) (o : Option A) (more : List A) → with_some (option_map k o) (map k more) ≡ map k (with_some o more)
with_some_map k None more = refl
with_some_map k (Some a) more = refl

module _ {N F G : Type 0} (h : F → G) where
  -- the state with other files
  abbrev pub state_with : State N F → State N G
  state_with s = record { names = λ x. option_map (with_files_expr h) (s.names x); left = s.left }

  -- what a part comes to, with other files in its state
  abbrev pub ran_with : {A B : Type 0} → (A → B) → Ran N F A → Ran N G B
  ran_with k (Ok a) = Ok (k a.0, state_with a.1)
  ran_with k (Err e) = Err e

  -- the second does with other files what the first does
  abbrev pub Carries : {A B : Type 0} → (A → B) → Part N F A → Part N G B → Type 0
  Carries k p q = (s : State N F) → q (state_with s) ≡ ran_with k (p s)

  pub goes_through : {A A' B B' : Type 0} (k : A → A') (l : B → B') (x : Ran N F A) (go : A → Part N F B) (go' : A' → Part N G B')
      → ((a : A) → Carries l (go a) (go' (k a))) → and_then (ran_with k x) go' ≡ ran_with l (and_then x go)
  goes_through k l (Ok a) go go' u = u a.0 a.1
  goes_through k l (Err e) go go' u = refl

  -- what was found, and what goes on with it
  pub after : {A A' B B' : Type 0} (k : A → A') (l : B → B') (x : Ran N F A) (y : Ran N G A') (go : A → Part N F B) (go' : A' → Part N G B')
      → y ≡ ran_with k x → ((a : A) → Carries l (go a) (go' (k a))) → and_then y go' ≡ ran_with l (and_then x go)
  after k l x y go go' e u = ap (λ z. and_then z go') e ∙ goes_through k l x go go' u

  pub then_carries : {A A' B B' : Type 0} (k : A → A') (l : B → B') (p : Part N F A) (q : Part N G A') (go : A → Part N F B) (go' : A' → Part N G B')
      → Carries k p q → ((a : A) → Carries l (go a) (go' (k a))) → Carries l (λ s. and_then (p s) go) (λ s. and_then (q s) go')
  then_carries k l p q go go' u w s = after k l (p s) (q (state_with s)) go go' (u s) w

  pub either : {A A' : Type 0} (k : A → A') (b : Bool) (x x' : Ran N F A) (y y' : Ran N G A') → y ≡ ran_with k x → y' ≡ ran_with k x' → (if b then y else y') ≡ ran_with k (if b then x else x')
  either k true x x' y y' u w = u
  either k false x x' y y' u w = w

  -- the same test on both sides
  pub either_by : {A A' : Type 0} (k : A → A') (b c : Bool) (x x' : Ran N F A) (y y' : Ran N G A') → c ≡ b → y ≡ ran_with k x → y' ≡ ran_with k x' → (if c then y else y') ≡ ran_with k (if b then x else x')
  either_by k b c x x' y y' e u w = ap (λ d. if d then y else y') e ∙ either k b x x' y y' u w

  pub spend_carries : {A A' : Type 0} (k : A → A') (n : ℕ) (p : Part N F A) (q : Part N G A') → Carries k p q → Carries k (λ s. spend n s p) (λ s. spend n s q)
  unfolding took
  spend_carries k n p q u s = either k (nat_le n s.left) _ _ _ _ (u (took n s)) refl

  pub spend_both : {A A' : Type 0} (k : A → A') (m n : ℕ) (p : Part N F A) (q : Part N G A') → n ≡ m → Carries k p q → Carries k (λ s. spend m s p) (λ s. spend n s q)
  spend_both k m n p q e u s = ap (λ i. spend i (state_with s) q) e ∙ spend_carries k m p q u s

  answered_put : {A A' : Type 0} (k : A → A') (x : Result A ErrorValue) → Carries k (answered x) (answered (mapped k x))
  answered_put k (Ok a) = λ s. refl
  answered_put k (Err e) = λ s. refl

  pub answered_carries : {A A' : Type 0} (k : A → A') (x : Result A ErrorValue) (y : Result A' ErrorValue) → y ≡ mapped k x → Carries k (answered x) (answered y)
  answered_carries k x y e s = ap (λ z. answered z (state_with s)) e ∙ answered_put k x s

  -- parts that do the same, one to one
  abbrev pub AllCarry : {A A' : Type 0} → (A → A') → List (Part N F A) → List (Part N G A') → Type 0
  AllCarry k = AllZip (Carries k)

  pub all_carries : {A A' : Type 0} (k : A → A') (ps : List (Part N F A)) (qs : List (Part N G A')) → AllCarry k ps qs → Carries (map k) (all ps) (all qs)
  all_carries k [] [] us = λ s. refl
  all_carries k [] (q ∷ qs) us = absurd us
  all_carries k (p ∷ ps) [] us = absurd us
  all_carries k (p ∷ ps) (q ∷ qs) us =
      then_carries k (map k) p q _ _ us.0 (λ a. then_carries (map k) (map k) (all ps) (all qs) _ _ (all_carries k ps qs us.1) (λ as' s. refl))

  pub goes_on_carries : {A A' : Type 0} (k : A → A') (o : Option A) (p : Part N F (Option A)) (q : Part N G (Option A')) → Carries (option_map k) p q → Carries (option_map k) (goes_on o p) (goes_on (option_map k o) q)
  goes_on_carries k None p q u = u
  goes_on_carries k (Some a) p q u = λ s. refl

  pub in_order_carries : {A A' : Type 0} (k : A → A') (ps : List (Part N F (Option A))) (qs : List (Part N G (Option A'))) → AllCarry (option_map k) ps qs → Carries (option_map k) (in_order ps) (in_order qs)
  in_order_carries k [] [] us = λ s. refl
  in_order_carries k [] (q ∷ qs) us = absurd us
  in_order_carries k (p ∷ ps) [] us = absurd us
  in_order_carries k (p ∷ ps) (q ∷ qs) us =
      then_carries (option_map k) (option_map k) p q _ _ us.0 (λ o. goes_on_carries k o (in_order ps) (in_order qs) (in_order_carries k ps qs us.1))

  module _ {A A' B B' : Type 0} (j : A → A') (k : B → B') (p : A → Part N F (Option B)) (q : A' → Part N G (Option B')) (us : (a : A) → Carries (option_map k) (p a) (q (j a))) where
    pub each_carries : (xs : List A) → Carries (option_map k) (each p xs) (each q (map j xs))
    each_carries [] = λ s. refl
    each_carries (x ∷ xs) =
        spend_carries (option_map k) 1 (λ t. and_then (p x t) (λ o u. goes_on o (each p xs) u)) (λ t. and_then (q (j x) t) (λ o u. goes_on o (each q (map j xs)) u))
        (then_carries (option_map k) (option_map k) (p x) (q (j x)) _ _ (us x) (λ o. goes_on_carries k o (each p xs) (each q (map j xs)) (each_carries xs)))

    pub collected_carries : (xs : List A) → Carries (map k) (collected p xs) (collected q (map j xs))
    collected_carries [] = λ s. refl
    collected_carries (x ∷ xs) =
        spend_carries (map k) 1 (λ t. and_then (p x t) (λ o u. and_then (collected p xs u) (λ more v. Ok (with_some o more, v))))
        (λ t. and_then (q (j x) t) (λ o u. and_then (collected q (map j xs) u) (λ more v. Ok (with_some o more, v))))
        (then_carries (option_map k) (map k) (p x) (q (j x)) _ _ (us x)
        (λ o. then_carries (map k) (map k) (collected p xs) (collected q (map j xs)) _ _ (collected_carries xs) (λ more s. ap (λ l. Ok (l, state_with s)) (with_some_map k o more))))

  module _ {A A' : Type 0} (k : A → A') (test : Part N F Bool) (test' : Part N G Bool) (turn : Part N F (Option A)) (turn' : Part N G (Option A')) (u : Carries (λ b. b) test test') (w : Carries (option_map k) turn turn') where
    pub turns_carries : (n : ℕ) → Carries (option_map k) (turns n test turn) (turns n test' turn')
    turns_carries zero = λ s. refl
    turns_carries (suc n) =
        then_carries (λ b. b) (option_map k) test test' _ _ u
        (λ holds t. either (option_map k) holds _ _ _ _ (then_carries (option_map k) (option_map k) turn turn' _ _ w (λ o. goes_on_carries k o (turns n test turn) (turns n test' turn') (turns_carries n)) t) refl)

    pub loop_carries : Carries (option_map k) (loop test turn) (loop test' turn')
    loop_carries s = turns_carries (suc s.left) s
