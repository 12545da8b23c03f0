-- What a body makes names no other tasks than what it was made of.
use Rattle.std.proofs.Common.{◌≡◌, ℕ, Bool, List, [], ◌∷◌, map, Option, None, Some, Result, Ok, Err, refl, ap, ◌∙◌, subst}
use Rattle.rd_value.specs.declared.class.Class.{Class}
use Rattle.rd_value.specs.declared.value.ErrorValue.{ErrorValue}
use Rattle.rd_value.specs.declared.value.FileValue.{FileValue}
use Rattle.rd_value.specs.declared.value.Datum.{Datum, out-Datum}
use Rattle.rd_value.specs.declared.value.Datum.TheOpen.{Datum-F}
use Rattle.rd_value.specs.declared.expr.OpKind.{OpKind}
use Rattle.rd_value.specs.declared.expr.Lazy.{Lazy, out-Lazy}
use Rattle.rd_value.specs.declared.expr.Lazy.TheViews as made_expr
use Rattle.rd_value.specs.declared.expr.Lazy.TheVariants as lazy
use Rattle.rd_value.specs.declared.expr.Lazy.TheOpen.{Lazy-F}
use Rattle.rd_value.specs.declared.expr.Lazy.TheFolds.{every_made-Lazy, every_held-Lazy, map-Lazy}
use Rattle.rd_value.specs.Expand.{listed}
use Rattle.rd_value.specs.Limits.{is_within_expr}
use Rattle.rd_value.specs.Make.{values_of, list_of, dict_of}
use Rattle.rd_value.proofs.Ind.{Each, EachSecond}
use Rattle.rd_interpreter.specs.State.{Part, spend}
use Rattle.rd_interpreter.specs.Held.{pair_held, items_of_value, items_at, items_of, iterated_value, iterated_at, iterated, all_held}
use Rattle.rd_interpreter.specs.Making.{is_kept, making, making_held, measured, made, worked, taken, truth_value}
use Rattle.rd_body.specs.Home.{IsHomeAt, IsHome}
use Rattle.rd_body.proofs.HomeParts.{IfThere, IfFound, Keeps, either, spend_keeps}

module _ (F : Type 0) (IsTask : List ℕ → Type 0) where
  abbrev pub Home : Lazy F → Type 0
  Home = IsHome IsTask

  abbrev HomeAt : Lazy-F F (Lazy F) → Type 0
  HomeAt = IsHomeAt IsTask

  -- ---- what is made of parts

  abbrev Held : Type 0
  Held = (e : Lazy F) × Home e

  abbrev expr_of : Held → Lazy F
  expr_of h = h.0

  held : (es : List (Lazy F)) → Each Home es → List Held
  held [] hs = []
  held (e ∷ es) hs = (e, hs.0) ∷ held es hs.1

  held_is : (es : List (Lazy F)) (hs : Each Home es) → map expr_of (held es hs) ≡ es
  unfolding held
  held_is [] hs = refl
  held_is (e ∷ es) hs = ap (λ xs. e ∷ xs) (held_is es hs.1)

  held_seconds : (K : Type 0) (ps : List (K × Lazy F)) → EachSecond Home ps → List (K × Held)
  held_seconds K [] hs = []
  held_seconds K (p ∷ ps) hs = (p.0, (p.1, hs.0)) ∷ held_seconds K ps hs.1

  held_seconds_are : (K : Type 0) (ps : List (K × Lazy F)) (hs : EachSecond Home ps) → map (λ h. (h.0, h.1.0)) (held_seconds K ps hs) ≡ ps
  unfolding held_seconds
  held_seconds_are K [] hs = refl
  held_seconds_are K (p ∷ ps) hs = ap (λ xs. p ∷ xs) (held_seconds_are K ps hs.1)

  pub home_val : (v : Datum F) → Home (lazy.Val v)
  unfolding made_expr.roll-Lazy denote.Hole.Carrier.roll
  home_val v = every_made-Lazy F HomeAt (Lazy-F.Val v) (Lazy-F.Val v) refl tt

  pub home_call : (task : List ℕ) (es : List (Lazy F)) (ks : List (List ℕ × Lazy F)) → IsTask task → Each Home es → EachSecond Home ks → Home (lazy.Call task es ks)
  unfolding made_expr.roll-Lazy denote.Hole.Carrier.roll
  home_call task es ks u hs gs = every_made-Lazy F HomeAt (Lazy-F.Call task es ks) (Lazy-F.Call task (held es hs) (held_seconds (List ℕ) ks gs)) (λ i. Lazy-F.Call task (held_is es hs i) (held_seconds_are (List ℕ) ks gs i)) u

  pub home_op : (kind : OpKind) (es : List (Lazy F)) → Each Home es → Home (lazy.Op kind es)
  unfolding made_expr.roll-Lazy denote.Hole.Carrier.roll
  home_op kind es hs = every_made-Lazy F HomeAt (Lazy-F.Op kind es) (Lazy-F.Op kind (held es hs)) (ap (Lazy-F.Op kind) (held_is es hs)) tt

  home_list_of : (es : List (Lazy F)) → Each Home es → Home (lazy.ListOf es)
  unfolding made_expr.roll-Lazy denote.Hole.Carrier.roll
  home_list_of es hs = every_made-Lazy F HomeAt (Lazy-F.ListOf es) (Lazy-F.ListOf (held es hs)) (ap Lazy-F.ListOf (held_is es hs)) tt

  home_dict_of : (ps : List (Datum F × Lazy F)) → EachSecond Home ps → Home (lazy.DictOf ps)
  unfolding made_expr.roll-Lazy denote.Hole.Carrier.roll
  home_dict_of ps hs = every_made-Lazy F HomeAt (Lazy-F.DictOf ps) (Lazy-F.DictOf (held_seconds (Datum F) ps hs)) (ap Lazy-F.DictOf (held_seconds_are (Datum F) ps hs)) tt

  pub home_cond : (a b c : Lazy F) → Home a → Home b → Home c → Home (lazy.Cond a b c)
  unfolding made_expr.roll-Lazy denote.Hole.Carrier.roll
  home_cond a b c f g h = every_made-Lazy F HomeAt (Lazy-F.Cond a b c) (Lazy-F.Cond (a, f) (b, g) (c, h)) refl tt

  pub home_map : (task : List ℕ) (e : Lazy F) → IsTask task → Home e → Home (lazy.Map task e)
  unfolding made_expr.roll-Lazy denote.Hole.Carrier.roll
  home_map task e u h = every_made-Lazy F HomeAt (Lazy-F.Map task e) (Lazy-F.Map task (e, h)) refl u

  pub home_catch : (e : Lazy F) (class : Class) (task : List ℕ) → IsTask task → Home e → Home (lazy.Catch e class task)
  unfolding made_expr.roll-Lazy denote.Hole.Carrier.roll
  home_catch e class task u h = every_made-Lazy F HomeAt (Lazy-F.Catch e class task) (Lazy-F.Catch (e, h) class task) refl u

  -- ---- the parts of lists and dicts

  each_held : (hs : List Held) → Each Home (map expr_of hs)
  each_held [] = tt
  each_held (h ∷ hs) = (h.1, each_held hs)

  seconds_held : (K : Type 0) (hs : List (K × Held)) → EachSecond Home (map (λ h. (h.0, h.1.0)) hs)
  seconds_held K [] = tt
  seconds_held K (h ∷ hs) = (h.1.1, seconds_held K hs)

  abbrev Layer : Type 0
  Layer = Lazy-F F Held

  abbrev under : Layer → Lazy-F F (Lazy F)
  under = map-Lazy F Held (Lazy F) expr_of

  list_parts : (es : List (Lazy F)) (y : Layer) → under y ≡ Lazy-F.ListOf es → Each Home es
  list_parts es (Lazy-F.ListOf hs) e = let is : map expr_of hs ≡ es = cc in subst (Each Home) is (each_held hs)
  list_parts es y e = absurd (let no : under y ≡ Lazy-F.ListOf es = e in cc)

  dict_parts : (ps : List (Datum F × Lazy F)) (y : Layer) → under y ≡ Lazy-F.DictOf ps → EachSecond Home ps
  dict_parts ps (Lazy-F.DictOf hs) e = let is : map (λ h. (h.0, h.1.0)) hs ≡ ps = cc in subst (EachSecond Home) is (seconds_held (Datum F) hs)
  dict_parts ps y e = absurd (let no : under y ≡ Lazy-F.DictOf ps = e in cc)

  pub items_home : (e : Lazy F) (es : List (Lazy F)) → out-Lazy F e ≡ Lazy-F.ListOf es → Home e → Each Home es
  items_home e es is h = let y = every_held-Lazy F HomeAt e h in list_parts es y.0 (y.1 ∙ is)

  pub pairs_home : (e : Lazy F) (ps : List (Datum F × Lazy F)) → out-Lazy F e ≡ Lazy-F.DictOf ps → Home e → EachSecond Home ps
  pairs_home e ps is h = let y = every_held-Lazy F HomeAt e h in dict_parts ps y.0 (y.1 ∙ is)

  pub values_home : (vs : List (Datum F)) → Each Home (map lazy.Val vs)
  values_home [] = tt
  values_home (v ∷ vs) = (home_val v, values_home vs)

  pub pairs_held_home : (ps : List (Datum F × Datum F)) → EachSecond Home (map pair_held ps)
  pairs_held_home [] = tt
  pairs_held_home (p ∷ ps) = (home_val p.1, pairs_held_home ps)

  keys_home : (ps : List (Datum F × Lazy F)) → Each Home (map (λ p. lazy.Val p.0) ps)
  keys_home [] = tt
  keys_home (p ∷ ps) = (home_val p.0, keys_home ps)

  items_by : (e : Lazy F) (x : Lazy-F F (Lazy F)) → out-Lazy F e ≡ x → Home e → IfThere (Each Home) (items_at x)
  items_by e (Lazy-F.Val v) is h = of_value (out-Datum F v)
    where
      of_value : (x : Datum-F F (Datum F)) → IfThere (Each Home) (items_of_value x)
      of_value (Datum-F.List vs) = values_home vs
      of_value x = tt
  items_by e (Lazy-F.ListOf es) is h = items_home e es is h
  items_by e x is h = tt

  pub items_of_home : (e : Lazy F) → Home e → IfThere (Each Home) (items_of e)
  items_of_home e h = items_by e (out-Lazy F e) refl h

  all_held_home : (x : Result (List (Datum F)) ErrorValue) → IfFound (Each Home) (all_held x)
  all_held_home (Ok vs) = values_home vs
  all_held_home (Err e) = tt

  iterated_by : (e : Lazy F) (x : Lazy-F F (Lazy F)) → out-Lazy F e ≡ x → Home e → IfFound (Each Home) (iterated_at x)
  iterated_by e (Lazy-F.Val v) is h = all_held_home (iterated_value v)
  iterated_by e (Lazy-F.ListOf es) is h = items_home e es is h
  iterated_by e (Lazy-F.DictOf ps) is h = keys_home ps
  iterated_by e x is h = tt

  pub iterated_home : (e : Lazy F) → Home e → IfFound (Each Home) (iterated e)
  iterated_home e h = iterated_by e (out-Lazy F e) refl h

  -- ---- lists and dicts of parts

  list_by : (es : List (Lazy F)) (vs : Option (List (Datum F))) → Each Home es → Home (list_of es vs)
  list_by es (Some vs) hs = home_val _
  list_by es None hs = home_list_of es hs

  pub listed_home : (file : F → FileValue) (es : List (Lazy F)) → Each Home es → Home (listed file es)
  listed_home file es hs = list_by es (values_of es) hs

  pub dict_home : (ps : List (Datum F × Lazy F)) (vs : Option (List (Datum F × Datum F))) → EachSecond Home ps → Home (dict_of ps vs)
  dict_home ps (Some vs) hs = home_val _
  dict_home ps None hs = home_dict_of ps hs

  -- ---- what is made, worked out or taken

  module _ {N : Type 0} where
    abbrev pub KeepsHome : Part N F (Lazy F) → Type 0
    KeepsHome p = Keeps {N = N} Home Home p

    pub worked_keeps : (x : Result (Datum F) ErrorValue) → KeepsHome (worked x)
    worked_keeps (Ok v) = spend_keeps Home Home (making v) (λ t. Ok (lazy.Val v, t)) (λ s h. (home_val v, h))
    worked_keeps (Err e) = λ s h. tt

    pub taken_keeps : (x : Result (Datum F) ErrorValue) → KeepsHome (taken x)
    taken_keeps (Ok v) = λ s h. (home_val v, h)
    taken_keeps (Err e) = λ s h. tt

    pub truth_keeps : (x : Result Bool ErrorValue) → KeepsHome (truth_value x)
    truth_keeps (Ok b) = λ s h. (home_val _, h)
    truth_keeps (Err e) = λ s h. tt

    module _ (file : F → FileValue) where
      pub measured_keeps : (e : Lazy F) → Home e → KeepsHome (measured file e)
      measured_keeps e u s h = either Home Home (is_within_expr file e) (Ok (e, s)) _ (u, h) tt

      pub made_keeps : (e : Lazy F) → Home e → KeepsHome (made file e)
      made_keeps e u s h = either Home Home (is_kept file e) (spend (making_held e) s (λ t. Ok (e, t))) _ (spend_keeps Home Home (making_held e) (λ t. Ok (e, t)) (λ s h. (u, h)) s h) tt
