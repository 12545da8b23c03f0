-- The code of tasks under their full names.
use Rattle.std.proofs.Common.{◌≡◌, ℕ, Bool, true, false, List, [], ◌∷◌, ◌++◌, Option, None, Some, Result, Ok, Err, OnOk, refl, sym, ap, subst, ◌∙◌}
use Rattle.std.proofs.Math.Path.{fun_ext}
use Rattle.std.specs.Option.{option_map, option_or}
use Rattle.std.specs.Prelude.{if◌then◌else◌}
use Rattle.std.specs.Str.{bytes_eq}
use Rattle.rd_tree.specs.declared.tree.Function.{Function}
use Rattle.rd_tree.specs.declared.tree.Module.{Module}
use Rattle.rd_names.specs.Options.{first_space}
use Rattle.rd_routine.specs.declared.routine.Callee.{Callee}
use Rattle.rd_code.specs.declared.named.Helper.{Helper}
use Rattle.rd_code.specs.declared.code.TaskCode.{TaskCode}
use Rattle.rd_registry.specs.declared.functions.Found.{Found}
use Rattle.rd_registry.specs.declared.task.Task.{Task}
use Rattle.rd_registry.specs.Bodies.{find_task, is_named, task_among, task_name_by}
use Rattle.rd_registry.specs.Codes.{block_of, signature_of}
use Rattle.rd_registry.specs.Functions.{callee_in, found_among, helper_at}
use Rattle.rd_registry.specs.Registry.{Coded, CodedOf, IsMade, code_at}
use Rattle.rd_registry.specs.Resolved.{HasParts, Resolves}
use Rattle.rd_registry.proofs.Meanings.{is_code}

pub on_ok_then : {A E : Type 0} {P Q : Type 0} (r : Result A E) → OnOk r P → (P → Q) → OnOk r Q
on_ok_then (Ok a) p k = k p
on_ok_then (Err e) p k = tt

module _ (helpers : List ℕ → Option Helper) (callees : List ℕ → Option Callee) (space : Option (List ℕ)) where
  abbrev Rule : Option Function → Option TaskCode → Type 0
  Rule = Coded helpers callees space

  coded_by : (b : Bool) (found : Option Function) (old : Option Task) (f : Function) (task : Task) → IsMade helpers callees space f (code_at task) → Rule found (option_map code_at old)
      → Rule (option_or found (if b then Some f else None)) (option_map code_at (option_or old (if b then Some task else None)))
  coded_by true None None f task made u = made
  coded_by true None (Some a) f task made u = absurd u
  coded_by true (Some g) None f task made u = absurd u
  coded_by true (Some g) (Some a) f task made u = u
  coded_by false None None f task made u = tt
  coded_by false None (Some a) f task made u = absurd u
  coded_by false (Some g) None f task made u = absurd u
  coded_by false (Some g) (Some a) f task made u = u

  -- one task more under its full name
  pub coded_put : (old new : List ℕ → Option Task) (f : Function) (full : List ℕ) (task : Task) → task_name_by space f.name.text f.task ≡ Some full → IsMade helpers callees space f (code_at task)
      → ((text : List ℕ) → new text ≡ option_or (old text) (if bytes_eq text full then Some task else None))
      → (text : List ℕ) (found : Option Function) → Rule found (option_map code_at (old text)) → Rule (option_or found (if is_named text (task_name_by space f.name.text f.task) then Some f else None)) (option_map code_at (new text))
  coded_put old new f full task named made put text found u =
      subst (λ o. Rule (option_or found (if is_named text (task_name_by space f.name.text f.task) then Some f else None)) (option_map code_at o)) (sym (put text))
      (subst (λ n. Rule (option_or found (if is_named text n then Some f else None)) (option_map code_at (option_or (old text) (if bytes_eq text full then Some task else None)))) (sym named)
      (coded_by (bytes_eq text full) found (old text) f task made u))

  pub made_of : (f : Function) (full copied : List ℕ) (code : TaskCode) (task : Task) → task_name_by space f.name.text f.task ≡ Some full → copied ≡ full → HasParts copied (signature_of f) (block_of f.body) code → Resolves helpers callees code
      → code_at task ≡ code → IsMade helpers callees space f (code_at task)
  made_of f full copied code task named same parts resolves is =
      subst (IsMade helpers callees space f) (sym is) (record { named = named ∙ ap Some (sym (parts.named ∙ same)); parts = record { named = refl; signed = parts.signed; bodied = parts.bodied }; resolves = resolves })

  or_nothing : {A : Type 0} (o : Option A) → option_or o None ≡ o
  or_nothing None = refl
  or_nothing (Some a) = refl

  -- a helper is no task
  pub coded_kept : (f : Function) → task_name_by space f.name.text f.task ≡ None → (text : List ℕ) (found : Option Function) (code : Option TaskCode) → Rule found code → Rule (option_or found (if is_named text (task_name_by space f.name.text f.task) then Some f else None)) code
  coded_kept f none text found code u =
      subst (λ n. Rule (option_or found (if is_named text n then Some f else None)) code) (sym none) (subst (λ o. Rule o code) (sym (or_nothing found)) u)

  task_if : (b : Bool) (f : Function) (o p : Option Function) → (if b then Some f else option_or o p) ≡ option_or (if b then Some f else o) p
  task_if true f o p = refl
  task_if false f o p = refl

  -- the first task of a name, with one function more
  pub task_more : (fs : List Function) (f : Function) (text : List ℕ) → task_among space (fs ++ f ∷ []) text ≡ option_or (task_among space fs text) (if is_named text (task_name_by space f.name.text f.task) then Some f else None)
  task_more [] f text = refl
  task_more (g ∷ fs) f text = ap (λ o. if is_named text (task_name_by space g.name.text g.task) then Some g else o) (task_more fs f text) ∙ task_if (is_named text (task_name_by space g.name.text g.task)) g (task_among space fs text) _

module _ (m : Module) where
  abbrev found : List ℕ → Option Found
  found text = found_among (first_space m.namespaces) 0 m.functions text

  coded_of : (f : Option Function) (code : Option TaskCode) → Coded (λ text. helper_at (found text)) (λ text. callee_in (found text)) (first_space m.namespaces) f code → CodedOf m f code
  coded_of None None u = tt
  coded_of None (Some code) u = absurd u
  coded_of (Some f) None u = absurd u
  coded_of (Some f) (Some code) u = is_code m f code u

  -- what was made of a module's functions is the code of its tasks
  pub codes_of : (space : Option (List ℕ)) (fs : List Function) → space ≡ first_space m.namespaces → fs ≡ m.functions → (functions : List ℕ → Option Found) → ((text : List ℕ) → functions text ≡ found_among space 0 fs text)
      → (text : List ℕ) (code : Option TaskCode) → Coded (λ t. helper_at (functions t)) (λ t. callee_in (functions t)) space (task_among space fs text) code → CodedOf m (find_task m text) code
  codes_of space fs is_space are_fs functions found_there text code u =
      coded_of (find_task m text) code
      (subst (λ s. Coded (λ t. helper_at (found t)) (λ t. callee_in (found t)) s (task_among s m.functions text) code) is_space
      (subst (λ gs. Coded (λ t. helper_at (found t)) (λ t. callee_in (found t)) space (task_among space gs text) code) are_fs
      (subst (λ h. Coded (λ t. helper_at (h t)) (λ t. callee_in (h t)) space (task_among space fs text) code)
      (fun_ext (λ t. found_there t ∙ ap (λ s. found_among s 0 fs t) is_space ∙ ap (λ gs. found_among (first_space m.namespaces) 0 gs t) are_fs)) u)))
