-- The equations of sizes, depths and printed forms at some kinds of values.
use Rattle.std.proofs.Common.{◌≡◌, ℕ, ◌+◌, ◌∙◌, ap, List, ◌++◌, length, map, arith, length-append}
use Rattle.rd_value.specs.declared.value.FileValue.{FileValue}
use Rattle.rd_value.specs.declared.value.ErrorValue.{ErrorValue}
use Rattle.rd_value.specs.declared.value.Datum.{Datum}
use Rattle.rd_value.specs.declared.value.Datum.TheViews as made
use Rattle.rd_value.specs.declared.value.Datum.TheVariants as variant
use Rattle.rd_value.specs.declared.value.Datum.TheOpen.{Datum-F}
use Rattle.rd_value.specs.declared.value.Datum.TheFolds.{fold-roll-Datum}
use Rattle.rd_value.specs.Class.{name}
use Rattle.rd_value.specs.Canon.{canon, canon_at, string, joined, keyed}
use Rattle.rd_value.specs.Depth.{depth, depth_at, greatest, greater}
use Rattle.std.specs.Prelude.{codes}
use Rattle.rd_value.specs.Repr.{repr, repr_at, with_commas, pair_repr}
use Rattle.rd_value.specs.Limits.{size}

module _ {F : Type 0} (file : F → FileValue) where
  pub size_dict : (ps : List (Datum F × Datum F)) → size file (variant.Dict ps) ≡ length (joined (map keyed (map (λ p. (canon file p.0, canon file p.1)) ps))) + 5
  unfolding made.roll-Datum denote.Hole.Carrier.roll
  size_dict ps = ap length (fold-roll-Datum F (List ℕ) (canon_at file) (Datum-F.Dict ps)) ∙ simp length-append (omega arith)

  pub size_file : (f : F) → size file (variant.File f) ≡ (length (string (file f).path) + length (string (file f).digest.0)) + 5
  unfolding made.roll-Datum denote.Hole.Carrier.roll
  size_file f = ap length (fold-roll-Datum F (List ℕ) (canon_at file) (Datum-F.File f)) ∙ simp length-append (omega arith)

  pub size_error : (e : ErrorValue) → size file (variant.Error e) ≡ (length (string (name e.class)) + length (string e.text)) + 5
  unfolding made.roll-Datum denote.Hole.Carrier.roll
  size_error e = ap length (fold-roll-Datum F (List ℕ) (canon_at file) (Datum-F.Error e)) ∙ simp length-append (omega arith)

pub depth_dict : {F : Type 0} (ps : List (Datum F × Datum F)) → depth (variant.Dict ps) ≡ greatest (map greater (map (λ p. (depth p.0, depth p.1)) ps)) + 1
unfolding made.roll-Datum denote.Hole.Carrier.roll
depth_dict {F} ps = fold-roll-Datum F ℕ depth_at (Datum-F.Dict ps)

pub repr_dict : {F : Type 0} (file : F → FileValue) (ps : List (Datum F × Datum F)) → repr file (variant.Dict ps) ≡ codes "{" ++ with_commas (map pair_repr (map (λ p. (repr file p.0, repr file p.1)) ps)) ++ codes "}"
unfolding made.roll-Datum denote.Hole.Carrier.roll
repr_dict {F} file ps = fold-roll-Datum F (List ℕ) (repr_at file) (Datum-F.Dict ps)

pub depth_list : {F : Type 0} (xs : List (Datum F)) → depth (variant.List xs) ≡ greatest (map depth xs) + 1
unfolding made.roll-Datum denote.Hole.Carrier.roll
depth_list {F} xs = fold-roll-Datum F ℕ depth_at (Datum-F.List xs)
