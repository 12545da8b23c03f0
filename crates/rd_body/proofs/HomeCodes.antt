-- What a task's code gives names tasks of its uses alone.
use Rattle.std.proofs.Common.{◌≡◌, ℕ, suc, ◌<◌, Bool, true, false, List, [], ◌∷◌, map, length, Option, None, Some, Result, Ok, Err, refl, arith}
use Rattle.std.specs.Prelude.{if◌then◌else◌}
use Rattle.std.specs.List.{IsAmong}
use Rattle.std.specs.Option.{option_map}
use Rattle.std.specs.Str.{bytes_eq}
use Rattle.rd_value.specs.declared.value.ErrorValue.{ErrorValue}
use Rattle.rd_value.specs.declared.value.FileValue.{FileValue}
use Rattle.rd_value.specs.declared.value.Datum.{Datum}
use Rattle.rd_value.specs.declared.expr.Lazy.{Lazy}
use Rattle.rd_value.specs.declared.signature.Parameter.{Parameter}
use Rattle.rd_value.specs.Limits.{is_within_expr}
use Rattle.rd_value.proofs.Ind.{Each}
use Rattle.rd_tree.specs.declared.tree.Statement.{Statement}
use Rattle.rd_routine.specs.declared.builtin.Builtin.{Builtin}
use Rattle.rd_routine.specs.declared.routine.Callee.TheVariants as callee
use Rattle.rd_routine.specs.declared.special.Special.{Special}
use Rattle.rd_routine.specs.Callees.{known}
use Rattle.rd_names.specs.Special.{special_named}
use Rattle.rd_code.specs.declared.code.TaskCode.{TaskCode}
use Rattle.rd_code.specs.declared.named.Helper.{Helper}
use Rattle.rd_code.specs.declared.named.NamedUse.{NamedUse}
use Rattle.rd_code.specs.declared.named.UseKind.{UseKind}
use Rattle.rd_code.specs.declared.named.UseKind.TheVariants as kind
use Rattle.rd_code.specs.Known.{builtin_named, special_or}
use Rattle.rd_code.specs.Numbering.{use_among, place_among, callee_by, helper_at, word_by, word_or}
use Rattle.rd_interpreter.specs.Body.{literal, reduced, whole}
use Rattle.rd_interpreter.specs.Running.{own}
use Rattle.rd_body.specs.Code.{parameter_with_literal, function_with, helper_with, meaning}
use Rattle.rd_body.specs.Home.{IsHomeIfThere, NamesTasks, IsTaskIn, IsHomeReduction, IsKeptReduction}
use Rattle.rd_body.specs.Jobs.{reduction, outcome}
use Rattle.rd_body.proofs.HomeParts.{IfThere, IfFound}
use Rattle.rd_body.proofs.HomeMakings.{Home, home_val}
use Rattle.rd_body.proofs.HomeBodies.{whole_home}

-- ---- uses

next_among : {A : Type 0} (x y : A) (xs : List A) → IsAmong xs y → IsAmong (x ∷ xs) y
next_among x y xs m = (suc m.0, (later m.0 m.1.0, m.1.1))
  where
    later : (i : ℕ) → i < length xs → suc i < suc (length xs)
    later i le = omega arith

first_among : {A : Type 0} (x : A) (xs : List A) → IsAmong (x ∷ xs) x
first_among x xs = (0, (omega arith, refl))

use_there : (uses : List NamedUse) (text : List ℕ) → IfThere (IsAmong uses) (use_among uses text)
use_there [] text = tt
use_there (u ∷ uses) text = by_test (bytes_eq text u.name) (use_among uses text) (use_there uses text)
  where
    further : (o : Option NamedUse) → IfThere (IsAmong uses) o → IfThere (IsAmong (u ∷ uses)) o
    further None m = tt
    further (Some v) m = next_among u v uses m

    by_test : (b : Bool) (o : Option NamedUse) → IfThere (IsAmong uses) o → IfThere (IsAmong (u ∷ uses)) (if b then Some u else o)
    by_test true o m = first_among u uses
    by_test false o m = further o m

-- no builtin is a task
no_task : (s : Option Special) (b : Option Builtin) (task : List ℕ) → known (special_or s b) ≡ callee.Task task → ⊥
no_task (Some s) b task e = absurd (let no : callee.Special s ≡ callee.Task task = e in cc)
no_task None (Some b) task e = absurd (let no : callee.Builtin b ≡ callee.Task task = e in cc)
no_task None None task e = absurd (let no : callee.Unknown ≡ callee.Task task = e in cc)

no_helper_task : (o : Option ℕ) (task : List ℕ) → helper_at o ≡ callee.Task task → ⊥
no_helper_task None task e = absurd (let no : callee.Unknown ≡ callee.Task task = e in cc)
no_helper_task (Some n) task e = absurd (let no : callee.Helper n ≡ callee.Task task = e in cc)

task_of : (k : UseKind) (name task : List ℕ) (place : Option ℕ) (t : List ℕ) → callee_by k name task place ≡ callee.Task t → (k ≡ kind.Task) × (task ≡ t)
task_of kind.Task name task place t e = (refl, cc)
task_of kind.Helper name task place t e = absurd (no_helper_task place t e)
task_of kind.Builtin name task place t e = absurd (no_task (special_named name) (builtin_named name) t e)
task_of kind.ErrorClass name task place t e = absurd (let no : callee.Unknown ≡ callee.Task t = e in cc)

-- the tasks of these uses are of this kind
abbrev pub AreTasks : List NamedUse → (List ℕ → Type 0) → Type 0
AreTasks uses IsTask = (task : List ℕ) → IsTaskIn uses task → IsTask task

module _ (IsTask : List ℕ → Type 0) (helpers : List Helper) (uses : List NamedUse) (are : AreTasks uses IsTask) where
  word_task : (text : List ℕ) (o : Option NamedUse) → IfThere (IsAmong uses) o → (t : List ℕ) → (word_or text (option_map (word_by (place_among 0 helpers)) o)).callee ≡ callee.Task t → IsTask t
  word_task text None m t e = absurd (let no : callee.Unknown ≡ callee.Task t = e in cc)
  word_task text (Some u) m t e = let k = task_of u.kind u.name u.task (place_among 0 helpers u.name) t e in are t (record { found = u; among = m; is_task = k.0; is = k.1 })

  module _ (F : Type 0) where
    defaults_home : (ps : List Parameter) → Each (λ p. IsHomeIfThere IsTask p.1) (map (parameter_with_literal {F = F}) ps)
    defaults_home [] = tt
    defaults_home (p ∷ ps) = (default p.default, defaults_home ps)
      where
        default : (o : Option (Datum FileValue)) → IsHomeIfThere {F = F} IsTask (option_map literal o)
        default None = tt
        default (Some v) = home_val F IsTask _

    names_tasks : (ps : List Parameter) (block : List (Statement (List ℕ))) → NamesTasks {F = F} IsTask (function_with helpers uses ps block)
    names_tasks ps block = record { names = λ text t e. word_task text (use_among uses text) (use_there uses text) t e; defaults = defaults_home ps }

    all_name_tasks : (hs : List Helper) → Each (NamesTasks {F = F} IsTask) (map (helper_with helpers uses) hs)
    all_name_tasks [] = tt
    all_name_tasks (h ∷ hs) = (names_tasks h.parameters h.block, all_name_tasks hs)

reduction_home : (IsTask : List ℕ → Type 0) (origin : List ℕ) (x : Result (Lazy FileValue) ErrorValue) → IfFound (Home FileValue IsTask) x → IsHomeReduction IsTask (reduction origin x)
reduction_home IsTask origin (Ok e) u = u
reduction_home IsTask origin (Err e) u = tt

module _ (IsTask : List ℕ → Type 0) (code : TaskCode) (are : AreTasks code.names IsTask) where
  -- what a task's code comes to
  meaning_home : (args : List (Datum FileValue)) → IfFound (Home FileValue IsTask) (meaning own code args)
  meaning_home args =
      whole_home (List ℕ) FileValue IsTask own (map (helper_with code.helpers code.names) code.helpers) (all_name_tasks IsTask code.helpers code.names are FileValue code.helpers) (function_with code.helpers code.names code.signature.parameters code.body)
      (names_tasks IsTask code.helpers code.names are FileValue code.signature.parameters code.body) args

  pub outcome_home : (args : List (Datum FileValue)) → IsHomeReduction IsTask (outcome code args)
  outcome_home args = reduction_home IsTask code.full_name (meaning own code args) (meaning_home args)

-- ---- limits

kept_within : (b : Bool) (e : Lazy FileValue) (error : ErrorValue) → is_within_expr own e ≡ b → IfFound (λ x. is_within_expr own x ≡ true) (if b then Ok e else Err error)
kept_within true e error h = h
kept_within false e error h = tt

reduced_within : (x : Result (Lazy FileValue × ℕ) ErrorValue) → IfFound (λ e. is_within_expr own e ≡ true) (reduced own x)
reduced_within (Ok r) = kept_within (is_within_expr own r.0) r.0 _ refl
reduced_within (Err e) = tt

reduction_within : (origin : List ℕ) (x : Result (Lazy FileValue) ErrorValue) → IfFound (λ e. is_within_expr own e ≡ true) x → IsKeptReduction (reduction origin x)
reduction_within origin (Ok e) u = u
reduction_within origin (Err e) u = tt

pub outcome_within : (code : TaskCode) (args : List (Datum FileValue)) → IsKeptReduction (outcome code args)
unfolding whole
outcome_within code args = reduction_within code.full_name (meaning own code args) (reduced_within _)
