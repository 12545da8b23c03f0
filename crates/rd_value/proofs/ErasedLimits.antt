-- The limits do not depend on what files carry.
use Rattle.std.proofs.Common.{◌≡◌, refl, List}
use Rattle.rd_value.specs.declared.value.FileValue.{FileValue}
use Rattle.rd_value.specs.declared.value.Datum.{Datum}
use Rattle.rd_value.specs.declared.expr.Lazy.{Lazy}
use Rattle.rd_value.specs.Erase.{with_files, with_files_expr}
use Rattle.rd_value.specs.Limits.{is_within, is_within_expr, are_within}
use Rattle.rd_value.proofs.Erased.{depth_with_files, canon_with_files, list_with_files}
use Rattle.rd_value.proofs.ErasedExprs.{depth_expr_with_files, canon_expr_with_files}
use Rattle.std.specs.Prelude.{map}

module _ {F G : Type 0} (h : F → G) (file : G → FileValue) where
  pub is_within_with_files : (v : Datum F) → is_within file (with_files h v) ≡ is_within (λ f. file (h f)) v
  is_within_with_files v = rw (canon_with_files h file v, depth_with_files h v) refl

  pub is_within_expr_with_files : (e : Lazy F) → is_within_expr file (with_files_expr h e) ≡ is_within_expr (λ f. file (h f)) e
  is_within_expr_with_files e = rw (canon_expr_with_files h file e, depth_expr_with_files h e) refl

  pub are_within_with_files : (vs : List (Datum F)) → are_within file (map (with_files h) vs) ≡ are_within (λ f. file (h f)) vs
  are_within_with_files vs = rw (← list_with_files h vs) (is_within_with_files _)
