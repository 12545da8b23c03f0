-- Locals by their numbers.
use Rattle.std.proofs.Common.{◌≡◌, ℕ, zero, suc, ◌<◌, Bool, true, false, List, [], ◌∷◌, ◌++◌, length, Option, None, refl, ap, ◌∙◌, set, get_or}
use Rattle.std.specs.Prelude.{if◌then◌else◌, ◌==◌}
use Rattle.std.proofs.lemmas.Bool.{eqb-true, eqb-false}
use Rattle.std.proofs.lemmas.List.{get_or-set_same, get_or-set_other}
use mathlib.Core.Path.{fun_ext}
use Rattle.rd_value.specs.declared.value.FileValue.{FileValue}
use Rattle.rd_value.specs.declared.expr.Lazy.{Lazy}
use Rattle.rd_interpreter.specs.State.{State}
use Rattle.rd_interpreter.specs.Running.{local, with_local}

abbrev Locals : Type 0
Locals = List (Option (Lazy FileValue))

-- a local more without a value
grown_at : (xs : Locals) (n : ℕ) → get_or (xs ++ None ∷ []) n None ≡ get_or xs n None
grown_at [] zero = refl
grown_at [] (suc n) = refl
grown_at (x ∷ xs) zero = refl
grown_at (x ∷ xs) (suc n) = grown_at xs n

pub local_grown : (xs : Locals) → local (xs ++ None ∷ []) ≡ local xs
local_grown xs = fun_ext (grown_at xs)

chosen : (xs : Locals) (n m : ℕ) (v : Option (Lazy FileValue)) (b : Bool) → n < length xs → (m == n) ≡ b → get_or (set xs n v) m None ≡ (if b then v else get_or xs m None)
chosen xs n m v true h e = ap (λ k. get_or (set xs n v) k None) (eqb-true m n e) ∙ get_or-set_same xs n v None h
chosen xs n m v false h e = get_or-set_other xs n m v None (eqb-false m n e)

pub local_set : (xs : Locals) (n : ℕ) (v : Option (Lazy FileValue)) → n < length xs → local (set xs n v) ≡ with_local (local xs) n v
local_set xs n v h = fun_ext (λ m. chosen xs n m v (m == n) h refl)

abbrev stated : (ℕ → Option (Lazy FileValue)) → ℕ → State ℕ FileValue
stated names left = record { names = names; left = left }

pub both_parts : (names other : ℕ → Option (Lazy FileValue)) (left right : ℕ) → names ≡ other → left ≡ right → stated names left ≡ stated other right
both_parts names other left right e h = rw (e, h) refl
