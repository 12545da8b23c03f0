-- A body comes to the same with other files.
use Rattle.std.proofs.Common.{◌≡◌, ℕ, zero, suc, List, [], ◌∷◌, map, Option, None, Some, Result, Ok, Err, refl, ap, ◌∙◌}
use Rattle.std.specs.List.{AllZip, slice_get}
use Rattle.std.specs.Option.{option_map}
use Rattle.rd_value.specs.declared.value.ErrorValue.{ErrorValue}
use Rattle.rd_value.specs.declared.value.FileValue.{FileValue}
use Rattle.rd_value.specs.declared.value.Datum.{Datum}
use Rattle.rd_value.specs.declared.expr.Lazy.{Lazy}
use Rattle.rd_value.specs.declared.expr.Lazy.TheVariants as lazy
use Rattle.rd_value.specs.Bind.{arguments}
use Rattle.rd_value.specs.Erase.{with_files, with_files_expr, carried_expr}
use Rattle.rd_value.proofs.ErasedBind.{arguments_put}
use Rattle.rd_interpreter.specs.State.{Ran}
use Rattle.rd_interpreter.specs.Body as body
use Rattle.rd_interpreter.specs.Body.{Routine, Calls, returned, run, calling, whole, bound, opened, result_of, first_state, with_names, with_name, reduced, too_many_calls, most_calls, most_steps}
use Rattle.rd_body.specs.Erasure.{with_files_parameter, HasFilesOf}
use Rattle.rd_value.proofs.ErasedExpand.{kept_expr_carried}
use Rattle.rd_value.proofs.ErasedOperators.{slice_get_map}
use Rattle.rd_body.proofs.ErasedParts.{mapped, state_with, ran_with}
use Rattle.rd_body.proofs.ErasedHeld.{square, vals}
use Rattle.rd_body.proofs.ErasedMaking.{before}
use Rattle.rd_body.proofs.ErasedBuiltins.{then_put}
use Rattle.rd_body.proofs.ErasedAnswers.{keyword_with, nothing_held}
use Rattle.rd_body.proofs.ErasedNodes.{CallsAgree, given_with, routine_with, named}
use Rattle.rd_body.proofs.ErasedStatements.{block_carries}

-- what a function does with its arguments and the steps that are left
abbrev Goes : Type 0 → Type 0 → Type 0
Goes N F = Routine N F → List (Lazy F) → ℕ → Result (Lazy F × ℕ) ErrorValue

-- what is given is the same
abbrev GivenBy : {F G : Type 0} → (F → G) → Result (Lazy F × ℕ) ErrorValue → Result (Lazy G × ℕ) ErrorValue → Type 0
GivenBy h x y = y ≡ mapped (given_with h) x

module _ {N F G : Type 0} (h : F → G) where
  module _ (f : Routine N F) where
    abbrev other : Routine N G
    other = routine_with h f

    with_names_put : (ps : List (N × Option (Lazy F))) (vs : List (Lazy F)) (names : N → Option (Lazy F))
        → with_names other (λ x. option_map (with_files_expr h) (names x)) (map (with_files_parameter h) ps) (map (with_files_expr h) vs) ≡ (λ x. option_map (with_files_expr h) (with_names f names ps vs x))
    with_names_put [] vs names = refl
    with_names_put (p ∷ ps) [] names = refl
    with_names_put (p ∷ ps) (v ∷ vs) names =
        ap (λ ns. with_names other ns (map (with_files_parameter h) ps) (map (with_files_expr h) vs)) (named h f names p.0 (Some v)) ∙ with_names_put ps vs (with_name f names p.0 (Some v))

    first_put : (args : List (Lazy F)) (left : ℕ) → first_state other (map (with_files_expr h) args) left ≡ state_with h (first_state f args left)
    first_put args left = ap (λ ns. record { names = ns; left = left }) (with_names_put f.parameters args (λ name. None))

    returned_put : (o : Option (Lazy F)) → returned (option_map (with_files_expr h) o) ≡ with_files_expr h (returned o)
    returned_put None = nothing_held h
    returned_put (Some e) = refl

    result_put : (x : Ran N F (Option (Lazy F))) → GivenBy h (result_of x) (result_of (ran_with h (option_map (with_files_expr h)) x))
    result_put (Ok a) = ap (λ e. Ok (e, a.1.left)) (returned_put a.0)
    result_put (Err e) = refl

    -- with calls that give the same
    run_put : (file : G → FileValue) (calls : Calls F) (calls' : Calls G) → CallsAgree h calls calls' → (args : List (Lazy F)) (left : ℕ)
        → GivenBy h (run (before h file) calls f args left) (run file calls' other (map (with_files_expr h) args) left)
    run_put file calls calls' agree args left =
        ap (λ s. result_of (body.block file calls' other f.block s)) (first_put args left)
        ∙ ap result_of (block_carries h f file calls calls' agree f.block (first_state f args left))
        ∙ result_put (body.block (before h file) calls f f.block (first_state f args left))

    bound_put : (es : List (Lazy F)) (ks : List (List ℕ × Lazy F)) → bound other (map (with_files_expr h) es) (map (keyword_with h) ks) ≡ mapped (map (with_files_expr h)) (bound f es ks)
    bound_put es ks =
        ap (λ ps. arguments ps (map (with_files_expr h) es) (map (keyword_with h) ks)) (square (with_files_parameter h) (body.spelled other) (body.spelled f) (λ p. (p.0, option_map (with_files_expr h) p.1)) (λ p. refl) f.parameters)
        ∙ arguments_put (with_files_expr h) (map (body.spelled f) f.parameters) es ks

  -- a function that is called, where it gives the same
  opened_put : (go : Goes N F) (go' : Goes N G) → ((f : Routine N F) (args : List (Lazy F)) (left : ℕ) → GivenBy h (go f args left) (go' (routine_with h f) (map (with_files_expr h) args) left))
      → (o : Option (Routine N F)) (place : ℕ) (es : List (Lazy F)) (ks : List (List ℕ × Lazy F)) (left : ℕ)
      → GivenBy h (opened go o place es ks left) (opened go' (option_map (routine_with h) o) place (map (with_files_expr h) es) (map (keyword_with h) ks) left)
  opened_put go go' u None place es ks left = refl
  opened_put go go' u (Some f) place es ks left =
      then_put (map (with_files_expr h)) (given_with h) (bound f es ks) (bound (routine_with h f) (map (with_files_expr h) es) (map (keyword_with h) ks)) (λ args. go f args left) (λ args. go' (routine_with h f) args left)
      (bound_put f es ks) (λ args. u f args left)

  called_put : (go : Goes N F) (go' : Goes N G) → ((f : Routine N F) (args : List (Lazy F)) (left : ℕ) → GivenBy h (go f args left) (go' (routine_with h f) (map (with_files_expr h) args) left))
      → (fs : List (Routine N F)) (place : ℕ) (es : List (Lazy F)) (ks : List (List ℕ × Lazy F)) (left : ℕ)
      → GivenBy h (opened go (slice_get fs place) place es ks left) (opened go' (slice_get (map (routine_with h) fs) place) place (map (with_files_expr h) es) (map (keyword_with h) ks) left)
  called_put go go' u fs place es ks left =
      ap (λ o. opened go' o place (map (with_files_expr h) es) (map (keyword_with h) ks) left) (slice_get_map (routine_with h) fs place) ∙ opened_put go go' u (slice_get fs place) place es ks left

  module _ (file : G → FileValue) (fs : List (Routine N F)) where
    abbrev own : F → FileValue
    own = before h file

    -- as many calls may be open
    calling_put : (n : ℕ) → CallsAgree h (calling own fs n) (calling file (map (routine_with h) fs) n)
    unfolding calling
    calling_put zero place es ks left = called_put (λ f args left. Err too_many_calls) (λ f args left. Err too_many_calls) (λ f args left. refl) fs place es ks left
    calling_put (suc n) place es ks left =
        called_put (run own (calling own fs n)) (run file (calling file (map (routine_with h) fs) n))
        (λ f args left. run_put f file (calling own fs n) (calling file (map (routine_with h) fs) n) (calling_put n) args left) fs place es ks left

    reduced_put : (x : Result (Lazy F × ℕ) ErrorValue) → reduced file (mapped (given_with h) x) ≡ carried_expr h (reduced own x)
    reduced_put (Ok r) = kept_expr_carried h file r.0
    reduced_put (Err e) = refl

    -- a whole body
    whole_put : (f : Routine N F) (args : List (Datum F)) → whole file (map (routine_with h) fs) (routine_with h f) (map (with_files h) args) ≡ carried_expr h (whole own fs f args)
    unfolding whole
    whole_put f args =
        ap (λ vs. reduced file (run file (calling file (map (routine_with h) fs) most_calls) (routine_with h f) vs most_steps)) (vals h args)
        ∙ ap (reduced file) (run_put f file (calling own fs most_calls) (calling file (map (routine_with h) fs) most_calls) (calling_put most_calls) (map lazy.Val args) most_steps)
        ∙ reduced_put (run own (calling own fs most_calls) f (map lazy.Val args) most_steps)

  -- ---- functions that are the same but for their files

  is_with : (f : Routine N F) (g : Routine N G) → HasFilesOf h f g → g ≡ routine_with h f
  is_with f g u =
      ap (λ x. record { same = x; spelling = g.spelling; callee = g.callee; class_of = g.class_of; parameters = g.parameters; block = g.block }) u.same
      ∙ ap (λ x. record { same = f.same; spelling = x; callee = g.callee; class_of = g.class_of; parameters = g.parameters; block = g.block }) u.spelling
      ∙ ap (λ x. record { same = f.same; spelling = f.spelling; callee = x; class_of = g.class_of; parameters = g.parameters; block = g.block }) u.callee
      ∙ ap (λ x. record { same = f.same; spelling = f.spelling; callee = f.callee; class_of = x; parameters = g.parameters; block = g.block }) u.class_of
      ∙ ap (λ x. record { same = f.same; spelling = f.spelling; callee = f.callee; class_of = f.class_of; parameters = x; block = g.block }) u.parameters
      ∙ ap (λ x. record { same = f.same; spelling = f.spelling; callee = f.callee; class_of = f.class_of; parameters = map (with_files_parameter h) f.parameters; block = x }) u.block

  are_with : (fs : List (Routine N F)) (gs : List (Routine N G)) → AllZip (HasFilesOf h) fs gs → gs ≡ map (routine_with h) fs
  are_with [] [] us = refl
  are_with [] (g ∷ gs) us = absurd us
  are_with (f ∷ fs) [] us = absurd us
  are_with (f ∷ fs) (g ∷ gs) us = ap (λ x. x ∷ gs) (is_with f g us.0) ∙ ap (λ xs. routine_with h f ∷ xs) (are_with fs gs us.1)

  -- a body of functions with other files
  pub whole_with_files : (file : G → FileValue) (fs : List (Routine N F)) (gs : List (Routine N G)) → AllZip (HasFilesOf h) fs gs → (f : Routine N F) (g : Routine N G) → HasFilesOf h f g
      → (args : List (Datum F)) → whole file gs g (map (with_files h) args) ≡ carried_expr h (whole (λ x. file (h x)) fs f args)
  whole_with_files file fs gs us f g u args =
      ap (λ xs. whole file xs g (map (with_files h) args)) (are_with fs gs us) ∙ ap (λ x. whole file (map (routine_with h) fs) x (map (with_files h) args)) (is_with f g u) ∙ whole_put file fs f args
