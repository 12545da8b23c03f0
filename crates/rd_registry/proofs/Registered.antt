-- The number of a task under its full name, and under its function's.
use Rattle.std.proofs.Common.{◌≡◌, ℕ, Bool, true, false, List, [], ◌∷◌, Option, None, Some, MatchOption, is_some, slice_get, refl, sym, ap, subst, ◌∙◌}
use Rattle.std.specs.Option.{option_map}
use Rattle.std.specs.Prelude.{if◌then◌else◌}
use Rattle.std.specs.Str.{bytes_eq}
use Rattle.std.proofs.lemmas.Slice.Eq.{bytes_eq-Decides}
use Rattle.indexmap.specs.IndexMap.{get, values}
use Rattle.rd_tree.specs.declared.tree.Function.{Function}
use Rattle.rd_tree.specs.declared.tree.Module.{Module}
use Rattle.rd_names.specs.Options.{first_space}
use Rattle.rd_routine.specs.declared.routine.Callee.{Callee}
use Rattle.rd_routine.specs.declared.routine.Callee.TheVariants as callee
use Rattle.rd_registry.specs.declared.functions.Found.{Found}
use Rattle.rd_registry.specs.declared.registry.Registry.{Registry}
use Rattle.rd_registry.specs.declared.task.Task.{Task}
use Rattle.rd_registry.specs.declared.task.TaskId.{TaskId}
use Rattle.rd_registry.specs.Bodies.{callee_by, find_task, helpers_with, is_named, task_among, task_name_by}
use Rattle.rd_registry.specs.Functions.{callee_in, found_among, found_of}
use Rattle.rd_registry.specs.Registry.{CodedOf, IsTaskOf, Registers, code_at}
use Rattle.rd_registry.specs.Words.{by_name}

named_if : (text : List ℕ) (o : Option (List ℕ)) → is_named text o ≡ true → o ≡ Some text
named_if text None e = absurd (let no : false ≡ true = e in cc)
named_if text (Some full) e = ap Some (sym ((bytes_eq-Decides text full).0 e))

module _ (space : Option (List ℕ)) where
  among_if : (text : List ℕ) (f g : Function) (b : Bool) (more : Option Function) → is_named text (task_name_by space f.name.text f.task) ≡ b → (more ≡ Some g → task_name_by space g.name.text g.task ≡ Some text) → (if b then Some f else more) ≡ Some g
      → task_name_by space g.name.text g.task ≡ Some text
  among_if text f g true more e next is = subst (λ h. task_name_by space h.name.text h.task ≡ Some text) (let same : f ≡ g = cc in same) (named_if text (task_name_by space f.name.text f.task) e)
  among_if text f g false more e next is = next is

  -- a task that was found has this full name
  pub among_named : (fs : List Function) (text : List ℕ) (g : Function) → task_among space fs text ≡ Some g → task_name_by space g.name.text g.task ≡ Some text
  among_named [] text g e = absurd (let no : None ≡ Some g = e in cc)
  among_named (f ∷ fs) text g e = among_if text f g (is_named text (task_name_by space f.name.text f.task)) (task_among space fs text) refl (among_named fs text g) e

some_same : {A : Type 0} (x y : A) → Some x ≡ Some y → x ≡ y
some_same x y e = cc

module _ (m : Module) (r : Registry) (text : List ℕ) (id : TaskId) (at : slice_get (values r.tasks) id.0 ≡ get bytes_eq r.tasks text) where
  task_of : (found : Option Function) (o : Option Task) → find_task m text ≡ found → get bytes_eq r.tasks text ≡ o → is_some o ≡ true → CodedOf m found (option_map code_at o) → IsTaskOf m r text id
  task_of None None f g h u = absurd (let no : false ≡ true = h in cc)
  task_of None (Some t) f g h u = absurd u
  task_of (Some x) None f g h u = absurd u
  task_of (Some x) (Some t) f g h u = record {
    function = x;
    found = f;
    code = code_at t;
    named = some_same (code_at t).full_name text (sym u.full_name ∙ among_named (first_space m.namespaces) m.functions text x f);
    coded = ap (option_map code_at) (at ∙ g);
    is = u;
  }

  -- the number at which a full name stands
  pub numbered : Registers m r → is_some (get bytes_eq r.tasks text) ≡ true → IsTaskOf m r text id
  numbered u h = task_of (find_task m text) (get bytes_eq r.tasks text) refl refl h (u.tasks text)

module _ (m : Module) (r : Registry) (text : List ℕ) where
  none_by : (found : Option Function) (o : Option Task) → is_some o ≡ false → CodedOf m found (option_map code_at o) → found ≡ None
  none_by None o h u = refl
  none_by (Some f) None h u = absurd u
  none_by (Some f) (Some t) h u = absurd (let no : true ≡ false = h in cc)

  -- no task stands where no name does
  pub not_there : Registers m r → is_some (get bytes_eq r.tasks text) ≡ false → find_task m text ≡ None
  not_there u h = none_by (find_task m text) (get bytes_eq r.tasks text) h (u.tasks text)

-- ---- functions by their names

-- the full name of what is called
abbrev pub task_called : Option Callee → Option (List ℕ)
task_called (Some (callee.Task full)) = Some full
task_called o = None

called_by : (place : ℕ) (o : Option (List ℕ)) → task_called (Some (callee_by place o)) ≡ o
called_by place None = refl
called_by place (Some full) = refl

name_if : (space : Option (List ℕ)) (place : ℕ) (f : Function) (b : Bool) (more : Option (List ℕ)) (found : Option Found) → task_called (callee_in found) ≡ more
    → task_called (callee_in (if b then Some (found_of space place f) else found)) ≡ (if b then task_name_by space f.name.text f.task else more)
name_if space place f true more found e = called_by place (task_name_by space f.name.text f.task)
name_if space place f false more found e = e

-- the first function of a name is called by its full name
pub name_called : (space : Option (List ℕ)) (place : ℕ) (fs : List Function) (text : List ℕ) → task_called (callee_in (found_among space place fs text)) ≡ by_name space fs text
name_called space place [] text = refl
name_called space place (f ∷ fs) text = name_if space place f (bytes_eq text f.name.text) (by_name space fs text) (found_among space (helpers_with place f.task) fs text) (name_called space (helpers_with place f.task) fs text)

-- what is no task has no full name
not_task : (c : Callee) → ((full : List ℕ) → c ≡ callee.Task full → ⊥) → task_called (Some c) ≡ None
not_task (callee.Task full) h = absurd (h full refl)
not_task c h = refl

named_self : (full : List ℕ) (o : Option (List ℕ)) → o ≡ Some full → is_named full o ≡ true
named_self full o e = ap (is_named full) e ∙ (bytes_eq-Decides full full).1 refl

module _ (space : Option (List ℕ)) (full : List ℕ) where
  there_if : (f : Function) (name : Option (List ℕ)) (more : Option Function) (b c : Bool) → is_named full (task_name_by space f.name.text f.task) ≡ c → (if b then task_name_by space f.name.text f.task else name) ≡ Some full → (if c then Some f else more) ≡ None
      → (name ≡ Some full → more ≡ None → ⊥) → ⊥
  there_if f name more b true is e h next = absurd (let no : Some f ≡ None = h in cc)
  there_if f name more true false is e h next = absurd (let no : true ≡ false = sym (named_self full (task_name_by space f.name.text f.task) e) ∙ is in cc)
  there_if f name more false false is e h next = next e h

  -- the full name of a function is that of a task
  pub task_there : (fs : List Function) (text : List ℕ) → by_name space fs text ≡ Some full → task_among space fs full ≡ None → ⊥
  task_there [] text e h = absurd (let no : None ≡ Some full = e in cc)
  task_there (f ∷ fs) text e h = there_if f (by_name space fs text) (task_among space fs full) (bytes_eq text f.name.text) (is_named full (task_name_by space f.name.text f.task)) refl e h (task_there fs text)

module _ (m : Module) (r : Registry) (name : List ℕ) (u : Registers m r) where
  -- the full name of the module's function of this name
  by_name_is : by_name (first_space m.namespaces) m.functions name ≡ task_called (callee_in (get bytes_eq r.functions name))
  by_name_is = sym (ap (λ o. task_called (callee_in o)) (u.functions name) ∙ name_called (first_space m.namespaces) 0 m.functions name)

  pub no_function : get bytes_eq r.functions name ≡ None → by_name (first_space m.namespaces) m.functions name ≡ None
  no_function none = by_name_is ∙ ap (λ o. task_called (callee_in o)) none

  pub no_task : (found : Found) → get bytes_eq r.functions name ≡ Some found → ((full : List ℕ) → found.callee ≡ callee.Task full → ⊥) → by_name (first_space m.namespaces) m.functions name ≡ None
  no_task found there h = by_name_is ∙ ap (λ o. task_called (callee_in o)) there ∙ not_task found.callee h

  pub found_by : (found : Found) (full : List ℕ) → get bytes_eq r.functions name ≡ Some found → found.callee ≡ callee.Task full → (id : Option TaskId) → MatchOption id (find_task m full ≡ None) (IsTaskOf m r full)
      → MatchOption id (by_name (first_space m.namespaces) m.functions name ≡ None) (λ task. (x : List ℕ) × (by_name (first_space m.namespaces) m.functions name ≡ Some x) × IsTaskOf m r x task)
  found_by found full there is None h = absurd (task_there (first_space m.namespaces) full m.functions name (by_name_is ∙ ap (λ o. task_called (callee_in o)) there ∙ ap (λ c. task_called (Some c)) is) h)
  found_by found full there is (Some id) h = (full, by_name_is ∙ ap (λ o. task_called (callee_in o)) there ∙ ap (λ c. task_called (Some c)) is, h)
