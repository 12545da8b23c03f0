-- A function with other names comes to what the function comes to.
use Rattle.std.proofs.Common.{◌≡◌, ℕ, zero, suc, ◌<◌, List, [], ◌∷◌, map, length, Option, None, Some, Result, Ok, Err, refl, sym, ap, ◌∙◌, arith, slice_get}
use Rattle.std.proofs.Math.Path.{fun_ext}
use Rattle.std.specs.List.{IsAmong}
use Rattle.rd_value.specs.declared.value.ErrorValue.{ErrorValue}
use Rattle.rd_value.specs.declared.value.FileValue.{FileValue}
use Rattle.rd_value.specs.declared.value.Datum.{Datum}
use Rattle.rd_value.specs.declared.expr.Lazy.{Lazy}
use Rattle.rd_value.specs.declared.expr.Lazy.TheVariants as lazy
use Rattle.rd_value.specs.Bind.{arguments}
use Rattle.rd_value.proofs.Ind.{Each}
use Rattle.rd_interpreter.specs.State.{Ran}
use Rattle.rd_interpreter.specs.Builtins.{then_}
use Rattle.rd_interpreter.specs.Body as body
use Rattle.rd_interpreter.specs.Body.{Routine, Calls, kind, run, calling, whole, bound, opened, result_of, first_state, with_names, with_name, reduced, too_many_calls, most_calls, most_steps}
use Rattle.rd_code.specs.declared.mention.Mention.{Mention}
use Rattle.rd_code.specs.Mentions.{plain, mentions_in_block}
use Rattle.rd_code.specs.Renaming.{renamed_first, renamed_statement}
use Rattle.rd_body.specs.Renaming.{mentions_of, Renames, IsRenamed, AreRenamed}
use Rattle.rd_body.proofs.RenamedParts.{through, ran_through}
use Rattle.rd_body.proofs.RenamedNodes.{each_left, each_right, named, SameCalls}
use Rattle.rd_body.proofs.RenamedStatements.{block_carries}

-- what holds of all that is among some holds of each of them
each_of : {A : Type 0} (P : A → Type 0) (xs : List A) → ((x : A) → IsAmong xs x → P x) → Each P xs
each_of P [] h = tt
each_of P (x ∷ xs) h = (h x (0, (omega arith, refl)), each_of P xs (λ y m. h y (suc m.0, (next m.0 m.1.0, m.1.1))))
  where
    next : (i : ℕ) → i < length xs → suc i < suc (length xs)
    next i le = omega arith

module _ {N M F : Type 0} (At : ℕ → ℕ → Type 0) (r : N → M) (f : Routine N F) (g : Routine M F) (renames : Renames At r f g) where
  abbrev Used : Mention N → Type 0
  Used = IsAmong (mentions_of f)

  all_used : Each Used (mentions_of f)
  all_used = each_of Used (mentions_of f) (λ x m. m)

  abbrev parameter_mentions : List (N × Option (Lazy F)) → List (Mention N)
  parameter_mentions ps = map (λ p. plain p.0) ps

  parameters_used : Each Used (parameter_mentions f.parameters)
  parameters_used = each_left Used (parameter_mentions f.parameters) (mentions_in_block (kind f) f.block) all_used

  block_used : Each Used (mentions_in_block (kind f) f.block)
  block_used = each_right Used (parameter_mentions f.parameters) (mentions_in_block (kind f) f.block) all_used

  with_names_through : (ps : List (N × Option (Lazy F))) → Each Used (parameter_mentions ps) → (vs : List (Lazy F)) (names : M → Option (Lazy F))
      → with_names f (λ x. names (r x)) ps vs ≡ (λ x. with_names g names (map (renamed_first r) ps) vs (r x))
  with_names_through [] us vs names = refl
  with_names_through (p ∷ ps) us [] names = refl
  with_names_through (p ∷ ps) us (v ∷ vs) names =
      ap (λ ns. with_names f ns ps vs) (named At r Used f g renames.agrees names (plain p.0) (Some v) us.0) ∙ with_names_through ps us.1 vs (with_name g names (r p.0) (Some v))

  first_through : (args : List (Lazy F)) (left : ℕ) → first_state f args left ≡ through r (first_state g args left)
  first_through args left =
      ap (λ ns. record { names = ns; left = left })
      (with_names_through f.parameters parameters_used args (λ m. None) ∙ ap (λ ps. λ x. with_names g (λ m. None) ps args (r x)) (sym renames.parameters))

  result_through : (x : Ran M F (Option (Lazy F))) → result_of (ran_through r x) ≡ result_of x
  result_through (Ok a) = refl
  result_through (Err e) = refl

  -- on the same arguments, with calls that give the same
  pub run_renamed : (file : F → FileValue) (calls calls' : Calls F) → SameCalls At calls calls' → (args : List (Lazy F)) (left : ℕ) → run file calls' g args left ≡ run file calls f args left
  run_renamed file calls calls' same args left =
      let s = first_state g args left in
      ap (λ b. result_of (body.block file calls' g b s)) renames.block
      ∙ sym (ap (λ t. result_of (body.block file calls f f.block t)) (first_through args left)
      ∙ ap result_of (block_carries At r Used f g renames.agrees file calls calls' same f.block block_used s)
      ∙ result_through (body.block file calls' g (map (renamed_statement r) f.block) s))

  spelled_renamed : (ps : List (N × Option (Lazy F))) → Each Used (parameter_mentions ps) → map (body.spelled g) (map (renamed_first r) ps) ≡ map (body.spelled f) ps
  spelled_renamed [] us = refl
  spelled_renamed (p ∷ ps) us = ap (λ t. (t, p.1) ∷ map (body.spelled g) (map (renamed_first r) ps)) (renames.agrees.spelling (plain p.0) us.0) ∙ ap (λ qs. body.spelled f p ∷ qs) (spelled_renamed ps us.1)

  pub bound_renamed : (es : List (Lazy F)) (ks : List (List ℕ × Lazy F)) → bound g es ks ≡ bound f es ks
  bound_renamed es ks = ap (λ ps. arguments (map (body.spelled g) ps) es ks) renames.parameters ∙ ap (λ ps. arguments ps es ks) (spelled_renamed f.parameters parameters_used)

  opened_renamed : (go : Routine N F → List (Lazy F) → ℕ → Result (Lazy F × ℕ) ErrorValue) (go' : Routine M F → List (Lazy F) → ℕ → Result (Lazy F × ℕ) ErrorValue)
      → ((args : List (Lazy F)) (left : ℕ) → go' g args left ≡ go f args left)
      → (place : ℕ) (es : List (Lazy F)) (ks : List (List ℕ × Lazy F)) (left : ℕ) → opened go' (Some g) place es ks left ≡ opened go (Some f) place es ks left
  opened_renamed go go' same place es ks left =
      ap (λ b. then_ b (λ args. go' g args left)) (bound_renamed es ks) ∙ ap (then_ (bound f es ks)) (fun_ext (λ args. same args left))

module _ {N M F : Type 0} (At : ℕ → ℕ → Type 0) (file : F → FileValue) where
  opened_both : (go : Routine N F → List (Lazy F) → ℕ → Result (Lazy F × ℕ) ErrorValue) (go' : Routine M F → List (Lazy F) → ℕ → Result (Lazy F × ℕ) ErrorValue)
      → ((f : Routine N F) (g : Routine M F) → IsRenamed At f g → (args : List (Lazy F)) (left : ℕ) → go' g args left ≡ go f args left)
      → (f : Option (Routine N F)) (g : Option (Routine M F)) → AreRenamed At f g → (place other : ℕ) (es : List (Lazy F)) (ks : List (List ℕ × Lazy F)) (left : ℕ) → opened go' g other es ks left ≡ opened go f place es ks left
  opened_both go go' same None None u place other es ks left = refl
  opened_both go go' same None (Some g) u place other es ks left = absurd u
  opened_both go go' same (Some f) None u place other es ks left = absurd u
  opened_both go go' same (Some f) (Some g) u place other es ks left = opened_renamed At u.by f g u.renames go go' (same f g u) place es ks left

  module _ (fs : List (Routine N F)) (gs : List (Routine M F)) (us : (place other : ℕ) → At place other → AreRenamed At (slice_get fs place) (slice_get gs other)) where
    -- as many calls may be open
    pub calling_renamed : (n : ℕ) → SameCalls At (calling file fs n) (calling file gs n)
    unfolding calling
    calling_renamed zero place other at es ks left =
        opened_both (λ f args left. Err too_many_calls) (λ f args left. Err too_many_calls) (λ f g u args left. refl) (slice_get fs place) (slice_get gs other) (us place other at) place other es ks left
    calling_renamed (suc n) place other at es ks left =
        opened_both (run file (calling file fs n)) (run file (calling file gs n))
        (λ f g u args left. run_renamed At u.by f g u.renames file (calling file fs n) (calling file gs n) (calling_renamed n) args left) (slice_get fs place) (slice_get gs other) (us place other at) place other es ks left

    -- a whole body
    pub whole_renamed : (f : Routine N F) (g : Routine M F) → IsRenamed At f g → (args : List (Datum F)) → whole file gs g args ≡ whole file fs f args
    unfolding whole
    whole_renamed f g u args =
        ap (reduced file) (run_renamed At u.by f g u.renames file (calling file fs most_calls) (calling file gs most_calls) (calling_renamed most_calls) (map lazy.Val args) most_steps)
