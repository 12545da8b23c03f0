-- The expansions do not look at what files carry.
use Rattle.std.proofs.Common.{◌≡◌, ℕ, Bool, true, false, refl, sym, ap, ◌∙◌, List, [], ◌∷◌, map, None, Some, Ok, Err, cond}
use Rattle.std.specs.Prelude.{Option, Result}
use Rattle.std.specs.Option.{option_map}
use Rattle.rd_value.specs.declared.class.Class.{Class}
use Rattle.rd_value.specs.declared.value.ErrorValue.{ErrorValue}
use Rattle.rd_value.specs.declared.value.FileValue.{FileValue}
use Rattle.rd_value.specs.declared.value.Datum.{Datum, out-Datum}
use Rattle.rd_value.specs.declared.value.Datum.TheViews as made
use Rattle.rd_value.specs.declared.value.Datum.TheVariants as variant
use Rattle.rd_value.specs.declared.value.Datum.TheOpen.{Datum-F}
use Rattle.rd_value.specs.declared.value.Datum.TheFolds.{fold-roll-Datum}
use Rattle.rd_value.specs.declared.expr.Lazy.{Lazy, out-Lazy}
use Rattle.rd_value.specs.declared.expr.Lazy.TheViews as lazy
use Rattle.rd_value.specs.declared.expr.Lazy.TheVariants as expr
use Rattle.rd_value.specs.declared.expr.Lazy.TheOpen.{Lazy-F}
use Rattle.rd_value.specs.declared.expr.Lazy.TheFolds.{fold-roll-Lazy, fold_out-Lazy, map-Lazy}
use Rattle.rd_value.specs.Erase.{with_file, with_files, with_files_expr, with_file_expr, carried_expr}
use Rattle.rd_value.specs.Expand.{call_with, kept_expr, listed, map_at, expand_map, catches, expand_catch}
use Rattle.rd_value.specs.Limits.{is_within_expr}
use Rattle.rd_value.specs.Make.{value_of, value_at, values_of, with_first, list_of}
use Rattle.rd_value.specs.Operators.{value_limit}
use Rattle.rd_value.proofs.Erased.{list_with_files}
use Rattle.rd_value.proofs.ErasedCompare.{lifted, out_with_files}
use Rattle.rd_value.proofs.ErasedLimits.{is_within_expr_with_files}

module _ {F G : Type 0} (h : F → G) where
  error_with_files : (e : ErrorValue) → with_files h (variant.Error e) ≡ variant.Error e
  unfolding made.roll-Datum denote.Hole.Carrier.roll
  error_with_files e = fold-roll-Datum F (Datum G) (λ x. made.roll-Datum G (with_file h x)) (Datum-F.Error e)

  pub val_with_files : (v : Datum F) → with_files_expr h (expr.Val v) ≡ expr.Val (with_files h v)
  unfolding lazy.roll-Lazy denote.Hole.Carrier.roll
  val_with_files v = fold-roll-Lazy F (Lazy G) (λ x. lazy.roll-Lazy G (with_file_expr h x)) (Lazy-F.Val v)

  pub list_of_with_files : (es : List (Lazy F)) → with_files_expr h (expr.ListOf es) ≡ expr.ListOf (map (with_files_expr h) es)
  unfolding lazy.roll-Lazy denote.Hole.Carrier.roll
  list_of_with_files es = fold-roll-Lazy F (Lazy G) (λ x. lazy.roll-Lazy G (with_file_expr h x)) (Lazy-F.ListOf es)

  call_of_one : (task : List ℕ) (e : Lazy F) → with_files_expr h (expr.Call task (e ∷ []) []) ≡ expr.Call task (with_files_expr h e ∷ []) []
  unfolding lazy.roll-Lazy denote.Hole.Carrier.roll
  call_of_one task e = fold-roll-Lazy F (Lazy G) (λ x. lazy.roll-Lazy G (with_file_expr h x)) (Lazy-F.Call task (e ∷ []) [])

  pub call_with_files : (task : List ℕ) (v : Datum F) → with_files_expr h (call_with task v) ≡ call_with task (with_files h v)
  call_with_files task v = call_of_one task (expr.Val v) ∙ ap (λ e. expr.Call task (e ∷ []) []) (val_with_files v)

  calls_with_files : (task : List ℕ) (vs : List (Datum F)) → map (call_with task) (map (with_files h) vs) ≡ map (with_files_expr h) (map (call_with task) vs)
  calls_with_files task [] = refl
  calls_with_files task (v ∷ vs) = rw (calls_with_files task vs, call_with_files task v) refl

  -- what is seen at the first layer
  pub out_with_files_expr : (e : Lazy F) → out-Lazy G (with_files_expr h e) ≡ with_file_expr h (map-Lazy F (Lazy F) (Lazy G) (with_files_expr h) (out-Lazy F e))
  out_with_files_expr e =
      ap (out-Lazy G) (fold_out-Lazy F (Lazy G) (λ x. lazy.roll-Lazy G (with_file_expr h x)) e) ∙ lazy.out-roll-Lazy G (with_file_expr h (map-Lazy F (Lazy F) (Lazy G) (with_files_expr h) (out-Lazy F e)))

  value_lifted : (x : Lazy-F F (Lazy F)) → value_at (with_file_expr h (map-Lazy F (Lazy F) (Lazy G) (with_files_expr h) x)) ≡ option_map (with_files h) (value_at x)
  value_lifted (Lazy-F.Val v) = refl
  value_lifted x = refl

  pub value_with_files : (e : Lazy F) → value_of (with_files_expr h e) ≡ option_map (with_files h) (value_of e)
  value_with_files e = ap value_at (out_with_files_expr e) ∙ value_lifted (out-Lazy F e)

  firsts : (o : Option (Datum F)) (os : Option (List (Datum F))) → with_first (option_map (with_files h) o) (option_map (map (with_files h)) os) ≡ option_map (map (with_files h)) (with_first o os)
  firsts (Some v) (Some vs) = refl
  firsts (Some v) None = refl
  firsts None os = refl

  pub values_with_files : (es : List (Lazy F)) → values_of (map (with_files_expr h) es) ≡ option_map (map (with_files h)) (values_of es)
  values_with_files [] = refl
  values_with_files (e ∷ es) = rw (value_with_files e, values_with_files es) (firsts (value_of e) (values_of es))

  list_of_either : (es : List (Lazy F)) (o : Option (List (Datum F))) → list_of (map (with_files_expr h) es) (option_map (map (with_files h)) o) ≡ with_files_expr h (list_of es o)
  list_of_either es (Some vs) = ap expr.Val (sym (list_with_files h vs)) ∙ sym (val_with_files (variant.List vs))
  list_of_either es None = sym (list_of_with_files es)

  pub expand_catch_with_files : (class : Class) (recover : List ℕ) (e : ErrorValue) → expand_catch class recover e ≡ option_map (with_files_expr h) (expand_catch class recover e)
  expand_catch_with_files class recover e =
      elim (catches class e.class) as (λ b. cond b (Some (call_with recover (variant.Error e))) None ≡ option_map (with_files_expr h) (cond b (Some (call_with recover (variant.Error e))) None))
      [ true ↦ ap Some (sym (call_with_files recover (variant.Error e) ∙ ap (call_with recover) (error_with_files e))) | false ↦ refl ]

module _ {F G : Type 0} (h : F → G) (file : G → FileValue) where
  pub listed_with_files : (es : List (Lazy F)) → listed file (map (with_files_expr h) es) ≡ with_files_expr h (listed (λ f. file (h f)) es)
  listed_with_files es = rw (values_with_files h es) (list_of_either h es (values_of es))

  pub kept_expr_carried : (e : Lazy F) → kept_expr file (with_files_expr h e) ≡ carried_expr h (kept_expr (λ f. file (h f)) e)
  kept_expr_carried e = rw (is_within_expr_with_files h file e) (elim (is_within_expr (λ f. file (h f)) e) as (λ b. cond b (Ok (with_files_expr h e)) (Err value_limit) ≡ carried_expr h (cond b (Ok e) (Err value_limit))) [ true ↦ refl | false ↦ refl ])

  map_lifted : (task : List ℕ) (x : Datum-F F (Datum F)) → map_at file task (lifted h x) ≡ carried_expr h (map_at (λ f. file (h f)) task x)
  map_lifted task (Datum-F.List vs) =
      ap (λ es. kept_expr file (listed file es)) (calls_with_files h task vs) ∙ (ap (kept_expr file) (listed_with_files (map (call_with task) vs)) ∙ kept_expr_carried (listed (λ f. file (h f)) (map (call_with task) vs)))
  map_lifted task x = refl

  pub expand_map_with_files : (task : List ℕ) (v : Datum F) → expand_map file task (with_files h v) ≡ carried_expr h (expand_map (λ f. file (h f)) task v)
  expand_map_with_files task v = ap (map_at file task) (out_with_files h v) ∙ map_lifted task (out-Datum F v)
