-- Evaluations that stay within the limits.
use Rattle.std.specs.Prelude.{◌≡◌, ◌≢◌, ℕ, ◌+◌, ◌≤◌, List, [], ◌∷◌, sum, map}
use Rattle.rd_value.specs.declared.value.FileValue.{FileValue}
use Rattle.rd_value.specs.declared.value.Datum.{Datum}
use Rattle.rd_value.specs.declared.expr.Lazy.{Lazy}
use Rattle.rd_value.specs.declared.expr.Lazy.TheOpen.{Lazy-F}
use Rattle.rd_value.specs.declared.expr.Lazy.TheFolds.{fold-Lazy}
use Rattle.rd_tree.specs.declared.tree.Module.{Module}
use Rattle.rd_registry.specs.Fresh.{What, Bound, Unbound, Met, Event, Answer, Deep, fresh, trace}

-- the most nested expressions
abbrev pub most_nested : ℕ
most_nested = 200

-- the most expressions that are met, counted with repeats
abbrev pub most_met : ℕ
most_met = 100000

abbrev pub counts : {A : Type 0} → List (A × ℕ) → List ℕ
counts ps = map (λ p. p.1) ps

-- the lazy expressions in one, itself among them
abbrev pub lazies_at : {F : Type 0} → Lazy-F F ℕ → ℕ
lazies_at (Lazy-F.Val v) = 0
lazies_at (Lazy-F.Call task positional keywords) = (sum positional + sum (counts keywords)) + 1
lazies_at (Lazy-F.Input path) = 1
lazies_at (Lazy-F.Op op parts) = sum parts + 1
lazies_at (Lazy-F.ListOf parts) = sum parts + 1
lazies_at (Lazy-F.DictOf pairs) = sum (counts pairs) + 1
lazies_at (Lazy-F.Cond test when_true when_false) = ((test + when_true) + when_false) + 1
lazies_at (Lazy-F.Map task list) = list + 1
lazies_at (Lazy-F.Catch tried class recover) = tried + 1

abbrev pub lazies : {F : Type 0} → Lazy F → ℕ
lazies {F} = fold-Lazy F ℕ lazies_at

abbrev pub met_in : {F : Type 0} → What F → ℕ
met_in (Met e) = lazies e
met_in (Bound visit) = 0
met_in (Unbound task) = 0

-- how many lazy expressions were met
unfoldable pub count_met : {F : Type 0} → List (Event F) → ℕ
count_met [] = 0
count_met (e ∷ es) = met_in e.what + count_met es

module _ {F : Type 0} (file : F → FileValue) (m : Module) (e : Lazy F) where
  pub record Fits : Type 0 where
    pub ends : fresh file m most_nested e ≢ Deep
    pub few : count_met (trace file m most_nested e) ≤ most_met

  -- from some depth on the answer is this
  abbrev pub FreshGives : Answer (Datum F) → Type 0
  FreshGives x = (n : ℕ) × ((k : ℕ) → n ≤ k → fresh file m k e ≡ x)
