-- Operands and turns, as the functions take them.
use Rattle.std.proofs.Common.{◌≡◌, ℕ, zero, suc, ◌-◌, ◌<◌, Bool, true, List, [], ◌∷◌, map, Option, None, Some, Err, refl, sym, ap, ◌∙◌, arith, length}
use Rattle.std.specs.Prelude.{if◌then◌else◌, Ok}
use Rattle.rd_interpreter.specs.State.{State, Ran, Part, and_then, goes_on, turns}
use Rattle.rd_value.specs.declared.value.FileValue.{FileValue}
use Rattle.rd_interpreter.specs.declared.halt.Halt.{Halt}
use Rattle.rd_interpreter.specs.declared.halt.Halt.TheVariants.{Raised, OutOfMemory}
use Rattle.rd_interpreter.specs.Body.{operators}
use Rattle.rd_interpreter.specs.Running.{Gives}

length_map : {A B : Type 0} (f : A → B) (xs : List A) → length (map f xs) ≡ length xs
length_map f [] = refl
length_map f (x ∷ xs) = ap suc (length_map f xs)

pub operators_map : {A B : Type 0} (f : A → B) (xs : List A) → operators (map f xs) ≡ operators xs
operators_map f [] = refl
operators_map f (x ∷ xs) = ap suc (length_map f xs)

module _ {N F A : Type 0} (test : Part N F Bool) (turn : Part N F (Option A)) (s : State N F) where
  pub turns_on : (n : ℕ) → 0 < n → turns n test turn s ≡ and_then (test s) (λ holds t. if holds then and_then (turn t) (λ r u. goes_on r (turns (n - 1) test turn) u) else Ok (None, t))
  turns_on zero h = absurd (omega arith)
  turns_on (suc n) h = ap (λ k. and_then (test s) (λ holds t. if holds then and_then (turn t) (λ r u. goes_on r (turns k test turn) u) else Ok (None, t))) one_less
    where
      one_less : n ≡ suc n - 1
      one_less = omega arith

-- a turn of a loop that goes on
module _ {A : Type 0} (test : Part ℕ FileValue Bool) (turn : Part ℕ FileValue (Option A)) (s : State ℕ FileValue) (n : ℕ) (more : 0 < n) (whole : Ran ℕ FileValue (Option A)) (same : turns n test turn s ≡ whole) where
  pub test_fails : (h : Halt) (t : State ℕ FileValue) → Gives {A = Bool} (Err h) t (test s) → Gives {A = Option A} (Err h) t whole
  test_fails (Raised e) t h = sym same ∙ turns_on test turn s n more ∙ ap (λ r. and_then r (λ holds t. if holds then and_then (turn t) (λ r u. goes_on r (turns (n - 1) test turn) u) else Ok (None, t))) h
  test_fails OutOfMemory t h = tt

  module _ (t : State ℕ FileValue) (holds : test s ≡ Ok (true, t)) where
    on_turn : whole ≡ and_then (turn t) (λ r u. goes_on r (turns (n - 1) test turn) u)
    on_turn = sym same ∙ turns_on test turn s n more ∙ ap (λ r. and_then r (λ holds t. if holds then and_then (turn t) (λ r u. goes_on r (turns (n - 1) test turn) u) else Ok (None, t))) holds

    pub turn_fails : (h : Halt) (u : State ℕ FileValue) → Gives {A = Option A} (Err h) u (turn t) → Gives {A = Option A} (Err h) u whole
    turn_fails (Raised e) u h = on_turn ∙ ap (λ r. and_then r (λ r u. goes_on r (turns (n - 1) test turn) u)) h
    turn_fails OutOfMemory u h = tt

    pub turn_returns : (a : A) (u : State ℕ FileValue) → turn t ≡ Ok (Some a, u) → whole ≡ Ok (Some a, u)
    turn_returns a u h = on_turn ∙ ap (λ r. and_then r (λ r u. goes_on r (turns (n - 1) test turn) u)) h
