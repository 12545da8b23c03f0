-- The root expression, in the program and over model files.
use Rattle.std.proofs.Common.{◌≡◌, ℕ, List, [], ◌∷◌, map, refl, sym, ap, ◌∙◌}
use Rattle.rd_value.specs.Model.{file_of}
use Rattle.rd_value.specs.Erase.{with_files, with_files_expr, with_file_expr, erase_expr}
use Rattle.rd_value.specs.Limits.{is_within_expr}
use Rattle.rd_value.specs.declared.value.FileValue.{FileValue}
use Rattle.rd_value.specs.declared.value.Datum.{Datum}
use Rattle.rd_value.specs.declared.expr.Lazy.{Lazy}
use Rattle.rd_value.specs.declared.expr.Lazy.TheViews as expr
use Rattle.rd_value.specs.declared.expr.Lazy.TheVariants as lazy
use Rattle.rd_value.specs.declared.expr.Lazy.TheOpen.{Lazy-F}
use Rattle.rd_value.specs.declared.expr.Lazy.TheFolds.{fold-roll-Lazy}
use Rattle.rd_value.proofs.ErasedLimits.{is_within_expr_with_files}
use Rattle.rd_top.specs.Arguments.{plain, HoldNoFiles}
use Rattle.rd_top.specs.Command.{Argument}
use Rattle.rd_top.specs.Printed.{given, root}
use Rattle.rd_top.specs.Running.{own}
use Rattle.rd_top.proofs.PlainValues.{with_files_plain}

-- the call as the program makes it
pub root_is : (task : List ℕ) (arguments : List Argument) → HoldNoFiles arguments → lazy.Call task [] (map (λ a. (a.0, lazy.Val a.1)) arguments) ≡ root task arguments
root_is task arguments none = sym (ap (λ (xs : List Argument). lazy.Call task [] (map (λ (a : Argument). (a.0, lazy.Val a.1)) xs)) none) ∙ ap (lazy.Call task []) (twice arguments)
  where
    twice : (xs : List Argument) → map (λ (b : Argument). (b.0, lazy.Val b.1)) (map (λ (a : Argument). (a.0, plain {F = FileValue} a.1)) xs) ≡ map given xs
    twice [] = refl
    twice (a ∷ xs) = ap (λ ks. given a ∷ ks) (twice xs)

module _ {F G : Type 0} (h : F → G) where
  keyword : List ℕ × Lazy F → List ℕ × Lazy G
  keyword k = (k.0, with_files_expr h k.1)

  val_with_files : (v : Datum F) → with_files_expr h (lazy.Val v) ≡ lazy.Val (with_files h v)
  unfolding expr.roll-Lazy denote.Hole.Carrier.roll
  val_with_files v = fold-roll-Lazy F (Lazy G) (λ x. expr.roll-Lazy G (with_file_expr h x)) (Lazy-F.Val v)

  call_with_files : (task : List ℕ) (ks : List (List ℕ × Lazy F)) → with_files_expr h (lazy.Call task [] ks) ≡ lazy.Call task [] (map (λ k. (k.0, with_files_expr h k.1)) ks)
  unfolding expr.roll-Lazy denote.Hole.Carrier.roll
  call_with_files task ks = fold-roll-Lazy F (Lazy G) (λ x. expr.roll-Lazy G (with_file_expr h x)) (Lazy-F.Call task [] ks)

  given_with_files : (xs : List Argument) → map (λ k. (k.0, with_files_expr h k.1)) (map given xs) ≡ map given xs
  given_with_files [] = refl
  given_with_files (a ∷ xs) = ap (λ e. (a.0, e) ∷ map (λ k. (k.0, with_files_expr h k.1)) (map given xs)) (val_with_files (plain a.1) ∙ ap lazy.Val (with_files_plain h a.1)) ∙ ap (λ ks. given a ∷ ks) (given_with_files xs)

  pub root_with_files : (task : List ℕ) (xs : List Argument) → with_files_expr h (root task xs) ≡ root task xs
  root_with_files task xs = call_with_files task (map given xs) ∙ ap (lazy.Call task []) (given_with_files xs)

module _ (task : List ℕ) (arguments : List Argument) where
  pub root_erased : root task arguments ≡ erase_expr (root task arguments)
  root_erased = sym (root_with_files file_of task arguments)

  pub root_within : is_within_expr own (root task arguments) ≡ is_within_expr file_of (root task arguments)
  root_within = ap (is_within_expr own) root_erased ∙ is_within_expr_with_files file_of own (root task arguments)
