-- What the code of a module's task gives is at home in the module.
use Rattle.std.proofs.Common.{◌≡◌, ℕ, true, List, [], ◌∷◌, map, Option, None, Some, is_some, refl, sym, ap, subst, ◌∙◌, inl, inr}
use Rattle.std.specs.Prelude.{◌⊎◌}
use Rattle.std.specs.List.{Contains}
use Rattle.rd_value.specs.declared.value.FileValue.{FileValue}
use Rattle.rd_value.specs.declared.value.Datum.{Datum}
use Rattle.rd_tree.specs.declared.tree.Module.{Module}
use Rattle.rd_names.specs.Options.{first_space}
use Rattle.rd_routine.specs.declared.routine.Callee.{Callee}
use Rattle.rd_routine.specs.declared.routine.Callee.TheVariants as callee
use Rattle.rd_code.specs.declared.code.TaskCode.{TaskCode}
use Rattle.rd_code.specs.declared.named.Helper.{Helper}
use Rattle.rd_code.specs.declared.named.NamedUse.{NamedUse}
use Rattle.rd_code.specs.declared.named.UseKind.TheVariants as kind
use Rattle.rd_code.specs.Known.{built_in}
use Rattle.rd_body.specs.Home.{IsTaskIn}
use Rattle.rd_body.specs.Jobs.{outcome}
use Rattle.rd_body.proofs.HomeCodes.{outcome_home}
use Rattle.rd_registry.specs.Bodies.{find_task}
use Rattle.rd_registry.specs.Codes.{use_by, use_or, use_with}
use Rattle.rd_registry.specs.Home.{HasTaskNamed, IsAtHome}
use Rattle.rd_registry.specs.Registry.{callees_in}
use Rattle.rd_registry.specs.Resolved.{Resolves}
use Rattle.rd_registry.proofs.Elements.{among, cases, nothing_in}
use Rattle.rd_registry.proofs.Registered.{name_called, task_called, task_there}

-- what a mapped list contains was mapped
from_map_by : {X Y : Type 0} (f : X → Y) (x : X) (xs : List X) (y : Y) → (Contains (map f xs) y → (z : X) × (y ≡ f z)) → (f x ≡ y) ⊎ Contains (map f xs) y → (z : X) × (y ≡ f z)
from_map_by f x xs y more (inl e) = (x, sym e)
from_map_by f x xs y more (inr c) = more c

from_map : {X Y : Type 0} (f : X → Y) (xs : List X) (y : Y) → Contains (map f xs) y → (x : X) × (y ≡ f x)
from_map f [] y h = nothing_in y h
from_map f (x ∷ xs) y h = from_map_by f x xs y (from_map f xs y) (cases (f x) (map f xs) y h)

is_there : {A : Type 0} (o : Option A) → (o ≡ None → ⊥) → is_some o ≡ true
is_there None h = absurd (h refl)
is_there (Some a) h = refl

-- a use that names this task
abbrev IsTaskUse : NamedUse → List ℕ → Type 0
IsTaskUse u task = (u.kind ≡ kind.Task) × (u.task ≡ task)

module _ (m : Module) where
  -- the full name by which a function is called is that of a task
  named_there : (text full : List ℕ) → callees_in m text ≡ Some (callee.Task full) → HasTaskNamed m full
  named_there text full e =
      is_there (find_task m full)
      (λ none. task_there (first_space m.namespaces) full m.functions text (sym (name_called (first_space m.namespaces) 0 m.functions text) ∙ ap task_called e) none)

  by_there : (text : List ℕ) (c : Option Callee) → callees_in m text ≡ c → (task : List ℕ) → IsTaskUse (use_by text c) task → HasTaskNamed m task
  by_there text (Some (callee.Task full)) e task u = subst (HasTaskNamed m) u.1 (named_there text full e)
  by_there text (Some (callee.Helper place)) e task u = absurd (let no : kind.Helper ≡ kind.Task = u.0 in cc)
  by_there text (Some (callee.Builtin b)) e task u = absurd (let no : kind.ErrorClass ≡ kind.Task = u.0 in cc)
  by_there text (Some (callee.Special s)) e task u = absurd (let no : kind.ErrorClass ≡ kind.Task = u.0 in cc)
  by_there text (Some callee.Unknown) e task u = absurd (let no : kind.ErrorClass ≡ kind.Task = u.0 in cc)
  by_there text None e task u = absurd (let no : kind.ErrorClass ≡ kind.Task = u.0 in cc)

  use_there : (text : List ℕ) (b : Option Callee) (task : List ℕ) → IsTaskUse (use_or text b (callees_in m text)) task → HasTaskNamed m task
  use_there text (Some b) task u = absurd (let no : kind.Builtin ≡ kind.Task = u.0 in cc)
  use_there text None task u = by_there text (callees_in m text) refl task u

  module _ (helpers : List ℕ → Option Helper) (code : TaskCode) (resolves : Resolves helpers (callees_in m) code) where
    tasks_there : (task : List ℕ) → IsTaskIn code.names task → HasTaskNamed m task
    tasks_there task u =
        let from = from_map (use_with (callees_in m)) resolves.texts u.found (subst (λ us. Contains us u.found) resolves.uses (among code.names u.found u.among)) in
        use_there from.0 (built_in from.0) task (ap (λ x. x.kind) (sym from.1) ∙ u.is_task, ap (λ x. x.task) (sym from.1) ∙ u.is)

    pub gives_at_home : (args : List (Datum FileValue)) → IsAtHome m (outcome code args)
    gives_at_home args = outcome_home (HasTaskNamed m) code tasks_there args
