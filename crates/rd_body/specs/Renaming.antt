-- Functions with other names.
use Rattle.std.specs.Prelude.{◌≡◌, ℕ, List, ◌++◌, map, Option, None, Some}
use Rattle.std.specs.List.{IsAmong}
use Rattle.rd_routine.specs.declared.routine.Callee.{Callee}
use Rattle.rd_routine.specs.declared.routine.Callee.TheVariants as callee
use Rattle.rd_code.specs.declared.mention.Mention.{Mention}
use Rattle.rd_code.specs.Mentions.{called, class, mentions_in_block, plain}
use Rattle.rd_code.specs.Renaming.{renamed_first, renamed_statement}
use Rattle.rd_interpreter.specs.Body.{Routine, kind}

-- the names of a function: its parameters, and then those of its block
abbrev pub mentions_of : {N F : Type 0} → Routine N F → List (Mention N)
mentions_of f = map (λ p. plain p.0) f.parameters ++ mentions_in_block (kind f) f.block

-- a helper at such a place
abbrev pub IsHelperAt : (ℕ → Type 0) → Callee → Type 0
IsHelperAt At (callee.Helper place) = At place
IsHelperAt At c = ⊥

-- the same is called, where these places of helpers belong together
abbrev pub SameCallee : (ℕ → ℕ → Type 0) → Callee → Callee → Type 0
SameCallee At (callee.Helper place) d = IsHelperAt (At place) d
SameCallee At c d = d ≡ c

-- No other name becomes one that is met. Both spell a name that is met the same, call the same by one that is called, and raise the same class by one behind `raise`.
pub record Agrees {N M F : Type 0} (At : ℕ → ℕ → Type 0) (r : N → M) (Met : Mention N → Type 0) (f : Routine N F) (g : Routine M F) : Type 0 where
  pub same : (x : N) (m : Mention N) → Met m → g.same (r x) (r m.name) ≡ f.same x m.name
  pub spelling : (m : Mention N) → Met m → g.spelling (r m.name) ≡ f.spelling m.name
  pub callee : (name : N) → Met (called name) → SameCallee At (f.callee name) (g.callee (r name))
  pub class_of : (name : N) → Met (class name) → g.class_of (r name) ≡ f.class_of name

-- The second is the first with other names.
pub record Renames {N M F : Type 0} (At : ℕ → ℕ → Type 0) (r : N → M) (f : Routine N F) (g : Routine M F) : Type 0 where
  pub agrees : Agrees At r (IsAmong (mentions_of f)) f g
  pub parameters : g.parameters ≡ map (renamed_first r) f.parameters
  pub block : g.block ≡ map (renamed_statement r) f.block

-- a function with other names for the same, by some way to rename it
pub record IsRenamed {N M F : Type 0} (At : ℕ → ℕ → Type 0) (f : Routine N F) (g : Routine M F) : Type 0 where
  pub by : N → M
  pub renames : Renames At by f g

-- Helpers at places that belong together are the same with other names. Or nothing stands at both.
abbrev pub AreRenamed : {N M F : Type 0} → (ℕ → ℕ → Type 0) → Option (Routine N F) → Option (Routine M F) → Type 0
AreRenamed At None None = Unit {0}
AreRenamed At (Some f) (Some g) = IsRenamed At f g
AreRenamed At f g = ⊥
