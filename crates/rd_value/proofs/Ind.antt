-- Induction over values and expressions, with a case for each kind.
use Rattle.std.proofs.Common.{ℕ, ℤ, Bool, List, [], ◌∷◌, map, subst}
use Rattle.rd_value.specs.declared.value.Datum.{Datum}
use Rattle.rd_value.specs.declared.value.ErrorValue.{ErrorValue}
use Rattle.rd_value.specs.declared.value.Datum.TheViews as made
use Rattle.rd_value.specs.declared.value.Datum.TheVariants as variant
use Rattle.rd_value.specs.declared.value.Datum.TheOpen.{Datum-F}
use Rattle.rd_value.specs.declared.value.Datum.TheFolds.{ind-Datum, map-Datum}
use Rattle.rd_value.specs.declared.class.Class.{Class}
use Rattle.rd_value.specs.declared.expr.OpKind.{OpKind}
use Rattle.rd_value.specs.declared.expr.Lazy.{Lazy}
use Rattle.rd_value.specs.declared.expr.Lazy.TheViews as lazy
use Rattle.rd_value.specs.declared.expr.Lazy.TheVariants as expr
use Rattle.rd_value.specs.declared.expr.Lazy.TheOpen.{Lazy-F}
use Rattle.rd_value.specs.declared.expr.Lazy.TheFolds.{ind-Lazy, map-Lazy}

-- P holds of each item
abbrev pub Each : {A : Type 0} → (A → Type 0) → List A → Type 0
Each P [] = Unit {0}
Each P (x ∷ xs) = P x × Each P xs

-- P holds of both parts of each pair
abbrev pub EachPair : {A : Type 0} → (A → Type 0) → List (A × A) → Type 0
EachPair P [] = Unit {0}
EachPair P (p ∷ ps) = (P p.0 × P p.1) × EachPair P ps

module _ {F : Type 0} (P : Datum F → Type 0)
    (nothing : P variant.Nothing) (bool : (b : Bool) → P (variant.Bool b)) (int : (n : ℤ) → P (variant.Int n))
    (text : (t : List ℕ) → P (variant.Text t))
    (list : (xs : List (Datum F)) → Each P xs → P (variant.List xs))
    (dict : (ps : List (Datum F × Datum F)) → EachPair P ps → P (variant.Dict ps))
    (file : (f : F) → P (variant.File f)) (error : (e : ErrorValue) → P (variant.Error e)) where
  abbrev Held : Type 0
  Held = (v : Datum F) × P v

  all_held : (hs : List Held) → Each P (map (λ h. h.0) hs)
  all_held [] = tt
  all_held (h ∷ hs) = (h.1, all_held hs)

  all_pairs_held : (hs : List (Held × Held)) → EachPair P (map (λ h. (h.0.0, h.1.0)) hs)
  all_pairs_held [] = tt
  all_pairs_held (h ∷ hs) = ((h.0.1, h.1.1), all_pairs_held hs)

  step : (y : Datum-F F Held) → P (made.roll-Datum F (map-Datum F Held (Datum F) (λ h. h.0) y))
  unfolding made.roll-Datum denote.Hole.Carrier.roll
  step Datum-F.Nothing = nothing
  step (Datum-F.Bool b) = bool b
  step (Datum-F.Int n) = int n
  step (Datum-F.Text t) = text t
  step (Datum-F.List hs) = list (map (λ h. h.0) hs) (all_held hs)
  step (Datum-F.Dict hs) = dict (map (λ h. (h.0.0, h.1.0)) hs) (all_pairs_held hs)
  step (Datum-F.File f) = file f
  step (Datum-F.Error e) = error e

  pub datum_ind : (v : Datum F) → P v
  datum_ind = ind-Datum F P (λ x y is. subst (λ z. P (made.roll-Datum F z)) is (step y))

-- P holds of the second part of each pair
abbrev pub EachSecond : {K A : Type 0} → (A → Type 0) → List (K × A) → Type 0
EachSecond P [] = Unit {0}
EachSecond P (p ∷ ps) = P p.1 × EachSecond P ps

module _ {F : Type 0} (P : Lazy F → Type 0)
    (val : (v : Datum F) → P (expr.Val v))
    (call : (task : List ℕ) (xs : List (Lazy F)) (ks : List (List ℕ × Lazy F)) → Each P xs → EachSecond P ks → P (expr.Call task xs ks))
    (input : (path : List ℕ) → P (expr.Input path))
    (op : (kind : OpKind) (xs : List (Lazy F)) → Each P xs → P (expr.Op kind xs))
    (list_of : (xs : List (Lazy F)) → Each P xs → P (expr.ListOf xs))
    (dict_of : (ps : List (Datum F × Lazy F)) → EachSecond P ps → P (expr.DictOf ps))
    (cond_of : (a b c : Lazy F) → P a → P b → P c → P (expr.Cond a b c))
    (map_of : (task : List ℕ) (e : Lazy F) → P e → P (expr.Map task e))
    (catch_of : (e : Lazy F) (class : Class) (recover : List ℕ) → P e → P (expr.Catch e class recover)) where
  abbrev HeldExpr : Type 0
  HeldExpr = (e : Lazy F) × P e

  each_held : (hs : List HeldExpr) → Each P (map (λ h. h.0) hs)
  each_held [] = tt
  each_held (h ∷ hs) = (h.1, each_held hs)

  seconds_held : {K : Type 0} (hs : List (K × HeldExpr)) → EachSecond P (map (λ h. (h.0, h.1.0)) hs)
  seconds_held [] = tt
  seconds_held (h ∷ hs) = (h.1.1, seconds_held hs)

  step_expr : (y : Lazy-F F HeldExpr) → P (lazy.roll-Lazy F (map-Lazy F HeldExpr (Lazy F) (λ h. h.0) y))
  unfolding lazy.roll-Lazy denote.Hole.Carrier.roll
  step_expr (Lazy-F.Val v) = val v
  step_expr (Lazy-F.Call task hs ks) = call task (map (λ h. h.0) hs) (map (λ h. (h.0, h.1.0)) ks) (each_held hs) (seconds_held ks)
  step_expr (Lazy-F.Input path) = input path
  step_expr (Lazy-F.Op kind hs) = op kind (map (λ h. h.0) hs) (each_held hs)
  step_expr (Lazy-F.ListOf hs) = list_of (map (λ h. h.0) hs) (each_held hs)
  step_expr (Lazy-F.DictOf ps) = dict_of (map (λ h. (h.0, h.1.0)) ps) (seconds_held ps)
  step_expr (Lazy-F.Cond a b c) = cond_of a.0 b.0 c.0 a.1 b.1 c.1
  step_expr (Lazy-F.Map task h) = map_of task h.0 h.1
  step_expr (Lazy-F.Catch h class recover) = catch_of h.0 class recover h.1

  pub lazy_ind : (e : Lazy F) → P e
  lazy_ind = ind-Lazy F P (λ x y is. subst (λ z. P (lazy.roll-Lazy F z)) is (step_expr y))
