-- What a body has while it runs, and how its parts follow each other.
use Rattle.std.specs.Prelude.{ℕ, zero, suc, ◌-◌, nat_le, Bool, List, [], ◌∷◌, codes, if◌then◌else◌, Option, None, Some, Result, Ok, Err}
use Rattle.rd_value.specs.declared.class.Class.TheVariants.{LimitError}
use Rattle.rd_value.specs.declared.value.ErrorValue.{ErrorValue}
use Rattle.rd_value.specs.declared.expr.Lazy.{Lazy}

-- the error of a body that takes too many steps
abbrev pub steps_limit : ErrorValue
steps_limit = record { class = LimitError; text = codes "steps" }

-- What the names of a function stand for, and how many steps are left. What isn't settled yet is held as its expression.
pub record State (N F : Type 0) : Type 0 where
  pub names : N → Option (Lazy F)
  pub left : ℕ

-- what a part of a body comes to, with the state behind it, or the error that it raises
abbrev pub Ran : Type 0 → Type 0 → Type 0 → Type 0
Ran N F A = Result (A × State N F) ErrorValue

-- a part of a body
abbrev pub Part : Type 0 → Type 0 → Type 0 → Type 0
Part N F A = State N F → Ran N F A

-- with one more in front, where there is one
abbrev pub with_some : {A : Type 0} → Option A → List A → List A
with_some None more = more
with_some (Some a) more = a ∷ more

module _ {N F : Type 0} where
  -- goes on with what was found
  abbrev pub and_then : {A B : Type 0} → Ran N F A → (A → Part N F B) → Ran N F B
  and_then (Ok r) go = go r.0 r.1
  and_then (Err e) go = Err e

  -- with fewer steps left
  unfoldable pub took : ℕ → State N F → State N F
  took n s = record s { left = s.left - n }

  -- takes so many steps
  abbrev pub spend : {A : Type 0} → ℕ → State N F → Part N F A → Ran N F A
  spend n s go = if nat_le n s.left then go (took n s) else Err steps_limit

  -- what takes no steps
  abbrev pub answered : {A : Type 0} → Result A ErrorValue → Part N F A
  answered (Ok a) s = Ok (a, s)
  answered (Err e) s = Err e

  -- one after the other, from the left
  abbrev pub all : {A : Type 0} → List (Part N F A) → Part N F (List A)
  all [] s = Ok ([], s)
  all (part ∷ more) s = and_then (part s) (λ a t. and_then (all more t) (λ as' u. Ok (a ∷ as', u)))

  -- goes on where a statement didn't end the function
  abbrev pub goes_on : {A : Type 0} → Option A → Part N F (Option A) → Part N F (Option A)
  goes_on None rest s = rest s
  goes_on (Some r) rest s = Ok (Some r, s)

  -- statements one after the other
  abbrev pub in_order : {A : Type 0} → List (Part N F (Option A)) → Part N F (Option A)
  in_order [] s = Ok (None, s)
  in_order (first ∷ more) s = and_then (first s) (λ r t. goes_on r (in_order more) t)

  -- a turn for each item, a step for each
  abbrev pub each : {A B : Type 0} → (A → Part N F (Option B)) → List A → Part N F (Option B)
  each turn [] s = Ok (None, s)
  each turn (x ∷ xs) s = spend 1 s (λ t. and_then (turn x t) (λ r u. goes_on r (each turn xs) u))

  -- what the turns give, a step for each
  abbrev pub collected : {A B : Type 0} → (A → Part N F (Option B)) → List A → Part N F (List B)
  collected turn [] s = Ok ([], s)
  collected turn (x ∷ xs) s = spend 1 s (λ t. and_then (turn x t) (λ r u. and_then (collected turn xs u) (λ more v. Ok (with_some r more, v))))

  -- at most so many turns while a test holds
  abbrev pub turns : {A : Type 0} → ℕ → Part N F Bool → Part N F (Option A) → Part N F (Option A)
  turns zero test turn s = Err steps_limit
  turns (suc n) test turn s = and_then (test s) (λ holds t. if holds then and_then (turn t) (λ r u. goes_on r (turns n test turn) u) else Ok (None, t))

  -- Turns while a test holds. Each takes a step, so the last finds none left.
  abbrev pub loop : {A : Type 0} → Part N F Bool → Part N F (Option A) → Part N F (Option A)
  loop test turn s = turns (suc s.left) test turn s
