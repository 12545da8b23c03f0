-- Expressions of one layer, and values, with other files.
use Rattle.std.proofs.Common.{◌≡◌, ℕ, true, false, cond, List, [], map, Ok, Err, refl, sym, ap, ◌∙◌}
use Rattle.rd_value.specs.declared.value.FileValue.{FileValue}
use Rattle.rd_value.specs.declared.value.Datum.{Datum}
use Rattle.rd_value.specs.declared.value.Datum.TheViews as datum
use Rattle.rd_value.specs.declared.value.Datum.TheVariants as value
use Rattle.rd_value.specs.declared.value.Datum.TheOpen.{Datum-F}
use Rattle.rd_value.specs.declared.value.Datum.TheFolds.{fold-roll-Datum}
use Rattle.rd_value.specs.declared.expr.Lazy.{Lazy, out-Lazy}
use Rattle.rd_value.specs.declared.expr.Lazy.TheViews as expr
use Rattle.rd_value.specs.declared.expr.Lazy.TheVariants as lazy
use Rattle.rd_value.specs.declared.expr.Lazy.TheOpen.{Lazy-F}
use Rattle.rd_value.specs.declared.expr.Lazy.TheFolds.{fold-roll-Lazy, fold_out-Lazy, map-Lazy}
use Rattle.rd_value.specs.Erase.{with_file, with_files, with_file_expr, with_files_expr, carried}
use Rattle.rd_value.specs.Limits.{is_within}
use Rattle.rd_value.specs.Operators.{kept, value_limit}
use Rattle.rd_value.proofs.Erased.{list_with_files}
use Rattle.rd_value.proofs.ErasedLimits.{is_within_with_files}

module _ {F G : Type 0} (h : F → G) where
  pub call_with_files : (task : List ℕ) (es : List (Lazy F)) → with_files_expr h (lazy.Call task es []) ≡ lazy.Call task (map (with_files_expr h) es) []
  unfolding expr.roll-Lazy denote.Hole.Carrier.roll
  call_with_files task es = fold-roll-Lazy F (Lazy G) (λ x. expr.roll-Lazy G (with_file_expr h x)) (Lazy-F.Call task es [])

  -- what is seen at the first layer
  abbrev pub layer_with : Lazy-F F (Lazy F) → Lazy-F G (Lazy G)
  layer_with x = with_file_expr h (map-Lazy F (Lazy F) (Lazy G) (with_files_expr h) x)

  pub out_with_files_expr : (e : Lazy F) → out-Lazy G (with_files_expr h e) ≡ layer_with (out-Lazy F e)
  out_with_files_expr e = ap (out-Lazy G) (fold_out-Lazy F (Lazy G) (λ x. expr.roll-Lazy G (with_file_expr h x)) e) ∙ expr.out-roll-Lazy G (layer_with (out-Lazy F e))

  -- a pair of values
  abbrev pub pair_with : Datum F × Datum F → Datum G × Datum G
  pair_with p = (with_files h p.0, with_files h p.1)

  pub dict_with_files : (ps : List (Datum F × Datum F)) → with_files h (value.Dict ps) ≡ value.Dict (map pair_with ps)
  unfolding datum.roll-Datum denote.Hole.Carrier.roll
  dict_with_files ps = fold-roll-Datum F (Datum G) (λ x. datum.roll-Datum G (with_file h x)) (Datum-F.Dict ps)

  module _ (file : G → FileValue) where
    -- also where the value with other files is written another way
    kept_with : (v : Datum F) (w : Datum G) → w ≡ with_files h v → kept file w ≡ carried h (kept (λ f. file (h f)) v)
    kept_with v w is =
        rw (is, is_within_with_files h file v)
        (elim (is_within (λ f. file (h f)) v) as (λ b. cond b (Ok (with_files h v)) (Err value_limit) ≡ carried h (cond b (Ok v) (Err value_limit))) [ true ↦ refl | false ↦ refl ])

    pub kept_list : (vs : List (Datum F)) → kept file (value.List (map (with_files h) vs)) ≡ carried h (kept (λ f. file (h f)) (value.List vs))
    kept_list vs = kept_with (value.List vs) (value.List (map (with_files h) vs)) (sym (list_with_files h vs))

    pub kept_dict : (ps : List (Datum F × Datum F)) → kept file (value.Dict (map pair_with ps)) ≡ carried h (kept (λ f. file (h f)) (value.Dict ps))
    kept_dict ps = kept_with (value.Dict ps) (value.Dict (map pair_with ps)) (sym (dict_with_files ps))
