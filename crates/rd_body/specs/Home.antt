-- Expressions that name tasks of some kind alone.
use Rattle.std.specs.Prelude.{◌≡◌, ℕ, true, List, Option, None, Some}
use Rattle.std.specs.List.{IsAmong}
use Rattle.rd_value.specs.declared.expr.Lazy.{Lazy}
use Rattle.rd_value.specs.declared.expr.Lazy.TheOpen.{Lazy-F}
use Rattle.rd_value.specs.declared.expr.Lazy.TheFolds.{every-Lazy}
use Rattle.rd_routine.specs.declared.routine.Callee.TheVariants as callee
use Rattle.rd_value.specs.Limits.{is_within_expr}
use Rattle.rd_value.proofs.Ind.{Each}
use Rattle.rd_code.specs.declared.named.NamedUse.{NamedUse}
use Rattle.rd_code.specs.declared.named.UseKind.TheVariants as kind
use Rattle.rd_interpreter.specs.Body.{Routine}
use Rattle.rd_interpreter.specs.Running.{own}
use Rattle.rd_body.specs.declared.job.Reduction.{Reduction}
use Rattle.rd_body.specs.declared.job.Reduction.TheVariants as made

-- A task that one layer of an expression names is of this kind.
abbrev pub IsHomeAt : {F X : Type 0} → (List ℕ → Type 0) → Lazy-F F X → Type 0
IsHomeAt IsTask (Lazy-F.Call task es ks) = IsTask task
IsHomeAt IsTask (Lazy-F.Map task e) = IsTask task
IsHomeAt IsTask (Lazy-F.Catch e class task) = IsTask task
IsHomeAt IsTask x = Unit {0}

-- All tasks that an expression names are of this kind.
abbrev pub IsHome : {F : Type 0} → (List ℕ → Type 0) → Lazy F → Type 0
IsHome {F} IsTask = every-Lazy F (IsHomeAt IsTask)

-- the same of an expression that may be missing
abbrev pub IsHomeIfThere : {F : Type 0} → (List ℕ → Type 0) → Option (Lazy F) → Type 0
IsHomeIfThere IsTask None = Unit {0}
IsHomeIfThere IsTask (Some e) = IsHome IsTask e

-- The tasks that a function's names stand for are of this kind, and those in its defaults.
pub record NamesTasks {N F : Type 0} (IsTask : List ℕ → Type 0) (f : Routine N F) : Type 0 where
  pub names : (name : N) (task : List ℕ) → f.callee name ≡ callee.Task task → IsTask task
  pub defaults : Each (λ p. IsHomeIfThere IsTask p.1) f.parameters

-- it is the task of one of these uses
pub record IsTaskIn (uses : List NamedUse) (task : List ℕ) : Type 0 where
  pub found : NamedUse
  pub among : IsAmong uses found
  pub is_task : found.kind ≡ kind.Task
  pub is : found.task ≡ task

-- All tasks that a reduction's expression names are of this kind.
abbrev pub IsHomeReduction : (List ℕ → Type 0) → Reduction → Type 0
IsHomeReduction IsTask (made.Expr e) = IsHome IsTask e
IsHomeReduction IsTask (made.Failed failure) = Unit {0}

-- A reduction's expression is within the limits.
abbrev pub IsKeptReduction : Reduction → Type 0
IsKeptReduction (made.Expr e) = is_within_expr own e ≡ true
IsKeptReduction (made.Failed failure) = Unit {0}
