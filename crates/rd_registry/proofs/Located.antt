-- The functions of a module by their names, and their places.
use Rattle.std.proofs.Common.{◌≡◌, ℕ, suc, ◌-◌, ◌≤◌, Bool, true, false, cond, List, [], ◌∷◌, filter, Option, None, Some, slice_get, refl, sym, ap, ◌∙◌, arith}
use Rattle.std.proofs.lemmas.Slice.Eq.{bytes_eq-Decides}
use Rattle.std.specs.Prelude.{if◌then◌else◌}
use Rattle.std.specs.Str.{bytes_eq}
use Rattle.rd_tree.specs.declared.tree.TaskOption.{TaskOption}
use Rattle.rd_tree.specs.declared.tree.Function.{Function}
use Rattle.rd_routine.specs.declared.routine.Callee.{Callee}
use Rattle.rd_registry.specs.declared.functions.Found.{Found}
use Rattle.rd_registry.specs.Bodies.{is_helper_by, is_helper, helpers_with, function_called, callee_by, task_name_by}
use Rattle.rd_registry.specs.Functions.{found_of, found_among, callee_in}

pub some_same : {A : Type 0} (x y : A) → Some x ≡ Some y → x ≡ y
some_same x y e = cc

module _ (space : Option (List ℕ)) where
  callee_if : (b : Bool) (n : ℕ) (f : Function) (o : Option Found) (p : Option Callee) → callee_in o ≡ p
      → callee_in (if b then Some (found_of space n f) else o) ≡ (if b then Some (callee_by n (task_name_by space f.name.text f.task)) else p)
  callee_if true n f o p e = refl
  callee_if false n f o p e = e

  -- what is called by a name is the first function of the name
  pub callee_found : (n : ℕ) (fs : List Function) (text : List ℕ) → callee_in (found_among space n fs text) ≡ function_called space n fs text
  callee_found n [] text = refl
  callee_found n (f ∷ fs) text = callee_if (bytes_eq text f.name.text) n f _ _ (callee_found (helpers_with n f.task) fs text)

  -- A function that was found has the name, and stands at its place among the helpers where it is one.
  pub record Located (n : ℕ) (fs : List Function) (text : List ℕ) (found : Found) : Type 0 where
    pub function : Function
    pub place : ℕ
    pub is : found ≡ found_of space place function
    pub named : text ≡ function.name.text
    pub behind : n ≤ place
    pub at : function.task ≡ None → slice_get (filter is_helper fs) (place - n) ≡ Some function

  here_at : (f : Function) (hs : List Function) (n : ℕ) (b : Bool) → b ≡ true → slice_get (cond b (f ∷ hs) hs) (n - n) ≡ Some f
  here_at f hs n true e = ap (slice_get (f ∷ hs)) (none_left n)
    where
      none_left : (k : ℕ) → k - k ≡ 0
      none_left k = omega arith
  here_at f hs n false e = absurd (let no : false ≡ true = e in cc)

  located_here : (n : ℕ) (f : Function) (fs : List Function) (text : List ℕ) (found : Found) → bytes_eq text f.name.text ≡ true → Some (found_of space n f) ≡ Some found → Located n (f ∷ fs) text found
  located_here n f fs text found t e = record {
    function = f;
    place = n;
    is = sym (some_same (found_of space n f) found e);
    named = (bytes_eq-Decides text f.name.text).0 t;
    behind = omega arith;
    at = λ h. here_at f (filter is_helper fs) n (is_helper f) (ap is_helper_by h);
  }

  one_behind : (f : Function) (hs : List Function) (n p : ℕ) → suc n ≤ p → slice_get (f ∷ hs) (p - n) ≡ slice_get hs (p - suc n)
  one_behind f hs n p h = ap (slice_get (f ∷ hs)) (step n p h)
    where
      step : (a b : ℕ) → suc a ≤ b → b - a ≡ suc (b - suc a)
      step a b k = omega (arith, k)

  located_by : (o : Option (List TaskOption)) (n : ℕ) (f : Function) (fs : List Function) (text : List ℕ) (found : Found) → f.task ≡ o → Located (helpers_with n o) fs text found → Located n (f ∷ fs) text found
  located_by None n f fs text found t u = record {
    function = u.function;
    place = u.place;
    is = u.is;
    named = u.named;
    behind = omega (arith, u.behind);
    at = λ h. ap (λ b. slice_get (cond b (f ∷ filter is_helper fs) (filter is_helper fs)) (u.place - n)) (ap is_helper_by t) ∙ one_behind f (filter is_helper fs) n u.place u.behind ∙ u.at h;
  }
  located_by (Some options) n f fs text found t u = record {
    function = u.function;
    place = u.place;
    is = u.is;
    named = u.named;
    behind = u.behind;
    at = λ h. ap (λ b. slice_get (cond b (f ∷ filter is_helper fs) (filter is_helper fs)) (u.place - n)) (ap is_helper_by t) ∙ u.at h;
  }

  located_if : (b : Bool) (n : ℕ) (f : Function) (fs : List Function) (text : List ℕ) (found : Found) (o : Option Found) → bytes_eq text f.name.text ≡ b → (o ≡ Some found → Located n (f ∷ fs) text found)
      → (if b then Some (found_of space n f) else o) ≡ Some found → Located n (f ∷ fs) text found
  located_if true n f fs text found o t more e = located_here n f fs text found t e
  located_if false n f fs text found o t more e = more e

  pub located : (n : ℕ) (fs : List Function) (text : List ℕ) (found : Found) → found_among space n fs text ≡ Some found → Located n fs text found
  located n [] text found e = absurd (let no : None ≡ Some found = e in cc)
  located n (f ∷ fs) text found e =
      located_if (bytes_eq text f.name.text) n f fs text found (found_among space (helpers_with n f.task) fs text) refl
      (λ k. located_by f.task n f fs text found refl (located (helpers_with n f.task) fs text found k)) e
