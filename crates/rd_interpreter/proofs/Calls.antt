-- Calls of helpers, by how many more may be open.
use Rattle.std.proofs.Common.{◌≡◌, ℕ, zero, suc, ◌-◌, ◌<◌, List, [], ◌∷◌, map, None, Some, Result, Ok, Err, refl, sym, ap, ◌∙◌, arith, slice_get}
use Rattle.std.specs.Option.{option_map}
use Rattle.rd_value.specs.declared.value.ErrorValue.{ErrorValue}
use Rattle.rd_value.specs.declared.value.FileValue.{FileValue}
use Rattle.rd_value.specs.declared.expr.Lazy.{Lazy}
use Rattle.rd_routine.specs.declared.routine.Routine.{Routine}
use Rattle.rd_interpreter.specs.Builtins.{then_}
use Rattle.rd_interpreter.specs.Body.{too_many_calls, calling, opened, bound, run}
use Rattle.rd_interpreter.specs.declared.halt.Halt.{Halt}
use Rattle.rd_interpreter.specs.declared.halt.Halt.TheVariants.{Raised, OutOfMemory}
use Rattle.rd_interpreter.specs.Running.{own, routine_of, calls_of, Answers, Raises}

get_map : {A B : Type 0} (f : A → B) (xs : List A) (n : ℕ) → slice_get (map f xs) n ≡ option_map f (slice_get xs n)
get_map f [] n = refl
get_map f (x ∷ xs) zero = refl
get_map f (x ∷ xs) (suc n) = get_map f xs n

module _ (hs : List Routine) (place : ℕ) (es : List (Lazy FileValue)) (ks : List (List ℕ × Lazy FileValue)) (left : ℕ) where
  -- no helper stands there
  pub none_there : (spare : ℕ) → slice_get hs place ≡ None → calls_of hs spare place es ks left ≡ Err too_many_calls
  unfolding calling
  none_there zero h = ap (λ o. opened (λ f args left. Err too_many_calls) o place es ks left) (get_map routine_of hs place ∙ ap (option_map routine_of) h)
  none_there (suc n) h = ap (λ o. opened (run own (calling own (map routine_of hs) n)) o place es ks left) (get_map routine_of hs place ∙ ap (option_map routine_of) h)

  -- no more calls may be open
  pub none_spare : (r : Routine) → slice_get hs place ≡ Some r → calls_of hs 0 place es ks left ≡ then_ (bound (routine_of r) es ks) (λ args. Err too_many_calls)
  unfolding calling
  none_spare r h = ap (λ o. opened (λ f args left. Err too_many_calls) o place es ks left) (get_map routine_of hs place ∙ ap (option_map routine_of) h)

  pub one_spare : (spare : ℕ) (r : Routine) → slice_get hs place ≡ Some r → 0 < spare → calls_of hs spare place es ks left ≡ then_ (bound (routine_of r) es ks) (λ args. run own (calls_of hs (spare - 1)) (routine_of r) args left)
  unfolding calling
  one_spare zero r h more = absurd (omega arith)
  one_spare (suc n) r h more = ap (λ o. opened (run own (calling own (map routine_of hs) n)) o place es ks left) (get_map routine_of hs place ∙ ap (option_map routine_of) h) ∙ ap (λ k. then_ (bound (routine_of r) es ks) (λ args. run own (calls_of hs k) (routine_of r) args left)) one_less
    where
      one_less : n ≡ suc n - 1
      one_less = omega arith

-- an error of the program's own
pub raised_answer : {A : Type 0} (h : Halt) (e : ErrorValue) (r : Result A ErrorValue) → Raises h e → r ≡ Err e → Answers (Err h) r
raised_answer (Raised x) e r is h = h ∙ ap Err (sym is)
raised_answer OutOfMemory e r is h = tt

-- an error of a part is the error of the whole
pub fails_answer : {A B : Type 0} (h : Halt) (x : Result A ErrorValue) (y : Result B ErrorValue) → ((e : ErrorValue) → x ≡ Err e → y ≡ Err e) → Answers (Err h) x → Answers (Err h) y
fails_answer (Raised e) x y go h = go e h
fails_answer OutOfMemory x y go h = tt

module _ (hs : List Routine) (place : ℕ) (es : List (Lazy FileValue)) (ks : List (List ℕ × Lazy FileValue)) (left : ℕ) (r : Routine) (there : slice_get hs place ≡ Some r) where
  pub bound_fails : (spare : ℕ) (e : ErrorValue) → bound (routine_of r) es ks ≡ Err e → calls_of hs spare place es ks left ≡ Err e
  bound_fails zero e h = none_spare hs place es ks left r there ∙ ap (λ b. then_ b (λ args. Err too_many_calls)) h
  bound_fails (suc n) e h =
      one_spare hs place es ks left (suc n) r there (omega arith) ∙ ap (λ b. then_ b (λ args. run own (calls_of hs (suc n - 1)) (routine_of r) args left)) h

  pub none_left : (spare : ℕ) (args : List (Lazy FileValue)) → spare ≡ 0 → bound (routine_of r) es ks ≡ Ok args → calls_of hs spare place es ks left ≡ Err too_many_calls
  none_left spare args z h =
      ap (λ n. calls_of hs n place es ks left) z ∙ none_spare hs place es ks left r there ∙ ap (λ b. then_ b (λ args. Err too_many_calls)) h

  pub one_left : (spare : ℕ) (args : List (Lazy FileValue)) → 0 < spare → bound (routine_of r) es ks ≡ Ok args → calls_of hs spare place es ks left ≡ run own (calls_of hs (spare - 1)) (routine_of r) args left
  one_left spare args more h =
      one_spare hs place es ks left spare r there more ∙ ap (λ b. then_ b (λ args. run own (calls_of hs (spare - 1)) (routine_of r) args left)) h
