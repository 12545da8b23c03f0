-- What a body gives names no other tasks than its functions do.
use Rattle.std.proofs.Common.{◌≡◌, ℕ, zero, suc, Bool, true, false, List, [], ◌∷◌, map, Option, None, Some, Result, Ok, Err, slice_get}
use Rattle.std.specs.Prelude.{if◌then◌else◌}
use Rattle.std.specs.Str.{bytes_eq}
use Rattle.rd_value.specs.declared.value.ErrorValue.{ErrorValue}
use Rattle.rd_value.specs.declared.value.FileValue.{FileValue}
use Rattle.rd_value.specs.declared.value.Datum.{Datum}
use Rattle.rd_value.specs.declared.value.Datum.TheVariants as value
use Rattle.rd_value.specs.declared.expr.Lazy.{Lazy}
use Rattle.rd_value.specs.declared.expr.Lazy.TheVariants as lazy
use Rattle.rd_value.specs.Bind as bind
use Rattle.rd_value.specs.Bind.{Slot, empty, placed, filled, with_keyword, with_keywords, settled, all_settled, arguments}
use Rattle.rd_value.specs.Limits.{is_within_expr}
use Rattle.rd_value.proofs.Ind.{Each, EachSecond}
use Rattle.rd_interpreter.specs.State.{Ran}
use Rattle.rd_interpreter.specs.Builtins.{then_}
use Rattle.rd_interpreter.specs.Body as body
use Rattle.rd_interpreter.specs.Body.{Routine, Calls, with_names, first_state, result_of, returned, run, spelled, bound, opened, calling, reduced, whole, most_calls, most_steps}
use Rattle.rd_body.specs.Home.{IsHomeIfThere, NamesTasks}
use Rattle.rd_body.proofs.HomeParts.{IfThere, IfFound, IsSafe, RanWell}
use Rattle.rd_body.proofs.HomeMakings.{Home, home_val, values_home}
use Rattle.rd_body.proofs.HomeNodes.{HomeCalls, set_safe}
use Rattle.rd_body.proofs.HomeStatements.{block_ends}

-- ---- binding

module _ (V : Type 0) (P : V → Type 0) where
  abbrev SlotHolds : Slot V → Type 0
  SlotHolds s = IfThere P s.default × IfThere P s.given

  abbrev DefaultHolds : List ℕ × Option V → Type 0
  DefaultHolds p = IfThere P p.1

  bind_then : {A B : Type 0} (Q : A → Type 0) (R : B → Type 0) (x : Result A ErrorValue) (go : A → Result B ErrorValue) → IfFound Q x → ((a : A) → Q a → IfFound R (go a)) → IfFound R (bind.and_then x go)
  bind_then Q R (Ok a) go u w = w a u
  bind_then Q R (Err e) go u w = tt

  empty_holds : (ps : List (List ℕ × Option V)) → Each DefaultHolds ps → Each SlotHolds (map empty ps)
  empty_holds [] us = tt
  empty_holds (p ∷ ps) us = ((us.0, tt), empty_holds ps us.1)

  placed_holds : (ps : List (List ℕ × Option V)) (vs : List V) → Each DefaultHolds ps → Each P vs → IfFound (Each SlotHolds) (placed ps vs)
  placed_holds ps [] us ws = empty_holds ps us
  placed_holds [] (v ∷ vs) us ws = tt
  placed_holds (p ∷ ps) (v ∷ vs) us ws = bind_then (Each SlotHolds) (Each SlotHolds) (placed ps vs) _ (placed_holds ps vs us.1 ws.1) (λ slots xs. ((us.0, ws.0), xs))

  filled_holds : (v : V) (slot : Slot V) (o : Option V) → P v → SlotHolds slot → IfFound SlotHolds (filled v slot o)
  filled_holds v slot None u w = (w.0, u)
  filled_holds v slot (Some x) u w = tt

  found_if : {A : Type 0} (Q : A → Type 0) (b : Bool) (x y : Result A ErrorValue) → IfFound Q x → IfFound Q y → IfFound Q (if b then x else y)
  found_if Q true x y u w = u
  found_if Q false x y u w = w

  keyword_holds : (k : List ℕ × V) (slots : List (Slot V)) → P k.1 → Each SlotHolds slots → IfFound (Each SlotHolds) (with_keyword k slots)
  keyword_holds k [] u ws = tt
  keyword_holds k (slot ∷ slots) u ws =
      found_if (Each SlotHolds) (bytes_eq slot.name k.0) _ _
      (bind_then SlotHolds (Each SlotHolds) (filled k.1 slot slot.given) (λ full. Ok (full ∷ slots)) (filled_holds k.1 slot slot.given u ws.0) (λ full x. (x, ws.1)))
      (bind_then (Each SlotHolds) (Each SlotHolds) (with_keyword k slots) (λ rest. Ok (slot ∷ rest)) (keyword_holds k slots u ws.1) (λ rest xs. (ws.0, xs)))

  keywords_hold : (ks : List (List ℕ × V)) (slots : List (Slot V)) → EachSecond P ks → Each SlotHolds slots → IfFound (Each SlotHolds) (with_keywords ks slots)
  keywords_hold [] slots us ws = ws
  keywords_hold (k ∷ ks) slots us ws = bind_then (Each SlotHolds) (Each SlotHolds) (with_keyword k slots) (with_keywords ks) (keyword_holds k slots us.0 ws) (λ slots xs. keywords_hold ks slots us.1 xs)

  settled_holds : (name : List ℕ) (given default : Option V) → IfThere P given → IfThere P default → IfFound P (settled name given default)
  settled_holds name (Some v) default u w = u
  settled_holds name None (Some v) u w = w
  settled_holds name None None u w = tt

  all_settled_hold : (slots : List (Slot V)) → Each SlotHolds slots → IfFound (Each P) (all_settled slots)
  all_settled_hold [] us = tt
  all_settled_hold (s ∷ slots) us =
      bind_then P (Each P) (settled s.name s.given s.default) _ (settled_holds s.name s.given s.default us.0.1 us.0.0)
      (λ v u. bind_then (Each P) (Each P) (all_settled slots) (λ vs. Ok (v ∷ vs)) (all_settled_hold slots us.1) (λ vs ws. (u, ws)))

  pub arguments_hold : (ps : List (List ℕ × Option V)) (vs : List V) (ks : List (List ℕ × V)) → Each DefaultHolds ps → Each P vs → EachSecond P ks → IfFound (Each P) (arguments ps vs ks)
  arguments_hold ps vs ks us ws xs =
      bind_then (Each SlotHolds) (Each P) (placed ps vs) (λ slots. bind.and_then (with_keywords ks slots) all_settled) (placed_holds ps vs us ws)
      (λ slots ys. bind_then (Each SlotHolds) (Each P) (with_keywords ks slots) all_settled (keywords_hold ks slots xs ys) all_settled_hold)

-- ---- functions

module _ (N F : Type 0) (IsTask : List ℕ → Type 0) where
  abbrev Own : Lazy F → Type 0
  Own = Home F IsTask

  names_safe : (f : Routine N F) (ps : List (N × Option (Lazy F))) (vs : List (Lazy F)) (left : ℕ) (names : N → Option (Lazy F)) → Each Own vs → IsSafe {N = N} Own (record { names = names; left = left }) → IsSafe {N = N} Own (record { names = with_names f names ps vs; left = left })
  names_safe f [] vs left names us h = h
  names_safe f (p ∷ ps) [] left names us h = h
  names_safe f (p ∷ ps) (v ∷ vs) left names us h =
      names_safe f ps vs left (body.with_name f names p.0 (Some v)) us.1 (set_safe N F IsTask f p.0 (Some v) (record { names = names; left = left }) us.0 h)

  none_safe : (left : ℕ) → IsSafe {N = N} Own (record { names = λ name. None; left = left })
  none_safe left x e is = absurd (let no : None ≡ Some e = is in cc)

  result_home : (x : Ran N F (Option (Lazy F))) → RanWell {N = N} Own (IfThere Own) x → IfFound (λ r. Own r.0) (result_of x)
  result_home (Ok r) u = returned_home r.0 u.0
    where
      returned_home : (o : Option (Lazy F)) → IfThere Own o → Own (returned o)
      returned_home None w = home_val F IsTask value.Nothing
      returned_home (Some e) w = w
  result_home (Err e) u = tt

  pub run_home : (file : F → FileValue) (calls : Calls F) → HomeCalls F IsTask calls → (f : Routine N F) → NamesTasks IsTask f → (args : List (Lazy F)) (left : ℕ) → Each Own args → IfFound (λ r. Own r.0) (run file calls f args left)
  run_home file calls fine f u args left us =
      result_home (body.block file calls f f.block (first_state f args left)) (block_ends N F IsTask f file calls u.names fine f.block (first_state f args left) (names_safe f f.parameters args left (λ name. None) us (none_safe left)))

  spelled_hold : (f : Routine N F) (ps : List (N × Option (Lazy F))) → Each (λ p. IsHomeIfThere IsTask p.1) ps → Each (DefaultHolds (Lazy F) Own) (map (spelled f) ps)
  spelled_hold f [] us = tt
  spelled_hold f (p ∷ ps) us = (default p.1 us.0, spelled_hold f ps us.1)
    where
      default : (o : Option (Lazy F)) → IsHomeIfThere IsTask o → IfThere Own o
      default None w = tt
      default (Some e) w = w

  then_home : {A B : Type 0} (Q : A → Type 0) (R : B → Type 0) (x : Result A ErrorValue) (go : A → Result B ErrorValue) → IfFound Q x → ((a : A) → Q a → IfFound R (go a)) → IfFound R (then_ x go)
  then_home Q R (Ok a) go u w = w a u
  then_home Q R (Err e) go u w = tt

  abbrev Goes : (Routine N F → List (Lazy F) → ℕ → Result (Lazy F × ℕ) ErrorValue) → Type 0
  Goes go = (f : Routine N F) → NamesTasks IsTask f → (args : List (Lazy F)) (left : ℕ) → Each Own args → IfFound (λ r. Own r.0) (go f args left)

  opened_home : (go : Routine N F → List (Lazy F) → ℕ → Result (Lazy F × ℕ) ErrorValue) → Goes go → (o : Option (Routine N F)) → IfThere (NamesTasks IsTask) o
      → (place : ℕ) (es : List (Lazy F)) (ks : List (List ℕ × Lazy F)) (left : ℕ) → Each Own es → EachSecond Own ks → IfFound (λ r. Own r.0) (opened go o place es ks left)
  opened_home go u None w place es ks left us ws = tt
  opened_home go u (Some f) w place es ks left us ws =
      then_home (Each Own) (λ r. Own r.0) (bound f es ks) (λ args. go f args left) (arguments_hold (Lazy F) Own (map (spelled f) f.parameters) es ks (spelled_hold f f.parameters w.defaults) us ws) (λ args xs. u f w args left xs)

  at_place : (fs : List (Routine N F)) (n : ℕ) → Each (NamesTasks IsTask) fs → IfThere (NamesTasks IsTask) (slice_get fs n)
  at_place [] n us = tt
  at_place (f ∷ fs) zero us = us.0
  at_place (f ∷ fs) (suc n) us = at_place fs n us.1

  calling_home : (file : F → FileValue) (fs : List (Routine N F)) → Each (NamesTasks IsTask) fs → (n : ℕ) → HomeCalls F IsTask (calling file fs n)
  unfolding calling
  calling_home file fs us zero place es ks left ws xs = opened_home (λ f args left. Err body.too_many_calls) (λ f u args left ys. tt) (slice_get fs place) (at_place fs place us) place es ks left ws xs
  calling_home file fs us (suc n) place es ks left ws xs =
      opened_home (run file (calling file fs n)) (run_home file (calling file fs n) (calling_home file fs us n)) (slice_get fs place) (at_place fs place us) place es ks left ws xs

  kept_if : (b : Bool) (e : Lazy F) (error : ErrorValue) → Own e → IfFound Own (if b then Ok e else Err error)
  kept_if true e error u = u
  kept_if false e error u = tt

  reduced_home : (file : F → FileValue) (x : Result (Lazy F × ℕ) ErrorValue) → IfFound (λ r. Own r.0) x → IfFound Own (reduced file x)
  reduced_home file (Ok r) u = kept_if (is_within_expr file r.0) r.0 _ u
  reduced_home file (Err e) u = tt

  -- a whole body
  pub whole_home : (file : F → FileValue) (fs : List (Routine N F)) → Each (NamesTasks IsTask) fs → (f : Routine N F) → NamesTasks IsTask f → (args : List (Datum F)) → IfFound Own (whole file fs f args)
  unfolding whole
  whole_home file fs us f u args =
      reduced_home file (run file (calling file fs most_calls) f (map lazy.Val args) most_steps) (run_home file (calling file fs most_calls) (calling_home file fs us most_calls) f u (map lazy.Val args) most_steps (values_home F IsTask args))
