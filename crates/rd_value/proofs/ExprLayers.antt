-- The equations of sizes and depths at an expression of each kind.
use Rattle.std.proofs.Common.{◌≡◌, ℕ, ◌+◌, ◌∙◌, ap, max, List, length, map, arith, length-append}
use Rattle.rd_value.specs.declared.class.Class.{Class}
use Rattle.rd_value.specs.declared.value.FileValue.{FileValue}
use Rattle.rd_value.specs.declared.value.Datum.{Datum}
use Rattle.rd_value.specs.declared.expr.OpKind.{OpKind}
use Rattle.rd_value.specs.declared.expr.Lazy.{Lazy}
use Rattle.rd_value.specs.declared.expr.Lazy.TheViews as made
use Rattle.rd_value.specs.declared.expr.Lazy.TheVariants as variant
use Rattle.rd_value.specs.declared.expr.Lazy.TheOpen.{Lazy-F}
use Rattle.rd_value.specs.declared.expr.Lazy.TheFolds.{fold-roll-Lazy}
use Rattle.rd_value.specs.Class.{name}
use Rattle.rd_value.specs.Canon.{canon_expr, canon_expr_at, string, joined, named, under_key, op_text}
use Rattle.rd_value.specs.Depth.{depth_expr, depth_expr_at, greatest, named_depth, keyed_depth}
use Rattle.rd_value.specs.Limits.{size_expr}

module _ {F : Type 0} (file : F → FileValue) where
  pub size_call : (t : List ℕ) (xs : List (Lazy F)) (ks : List (List ℕ × Lazy F)) → size_expr file (variant.Call t xs ks)
      ≡ ((length (string t) + length (joined (map (canon_expr file) xs))) + length (joined (map named (map (λ p. (p.0, canon_expr file p.1)) ks)))) + 9
  unfolding made.roll-Lazy denote.Hole.Carrier.roll
  size_call t xs ks = ap length (fold-roll-Lazy F (List ℕ) (canon_expr_at file) (Lazy-F.Call t xs ks)) ∙ simp length-append (omega arith)

  pub size_input : (p : List ℕ) → size_expr file (variant.Input p) ≡ length (string p) + 5
  unfolding made.roll-Lazy denote.Hole.Carrier.roll
  size_input p = ap length (fold-roll-Lazy F (List ℕ) (canon_expr_at file) (Lazy-F.Input p)) ∙ simp length-append (omega arith)

  pub size_op : (op : OpKind) (xs : List (Lazy F)) → size_expr file (variant.Op op xs) ≡ (length (string (op_text op)) + length (joined (map (canon_expr file) xs))) + 5
  unfolding made.roll-Lazy denote.Hole.Carrier.roll
  size_op op xs = ap length (fold-roll-Lazy F (List ℕ) (canon_expr_at file) (Lazy-F.Op op xs)) ∙ simp length-append (omega arith)

  pub size_list_of : (xs : List (Lazy F)) → size_expr file (variant.ListOf xs) ≡ length (joined (map (canon_expr file) xs)) + 5
  unfolding made.roll-Lazy denote.Hole.Carrier.roll
  size_list_of xs = ap length (fold-roll-Lazy F (List ℕ) (canon_expr_at file) (Lazy-F.ListOf xs)) ∙ simp length-append (omega arith)

  pub size_dict_of : (ps : List (Datum F × Lazy F)) → size_expr file (variant.DictOf ps) ≡ length (joined (map (under_key file) (map (λ p. (p.0, canon_expr file p.1)) ps))) + 5
  unfolding made.roll-Lazy denote.Hole.Carrier.roll
  size_dict_of ps = ap length (fold-roll-Lazy F (List ℕ) (canon_expr_at file) (Lazy-F.DictOf ps)) ∙ simp length-append (omega arith)

  pub size_cond : (a b c : Lazy F) → size_expr file (variant.Cond a b c) ≡ ((size_expr file a + size_expr file b) + size_expr file c) + 5
  unfolding made.roll-Lazy denote.Hole.Carrier.roll
  size_cond a b c = ap length (fold-roll-Lazy F (List ℕ) (canon_expr_at file) (Lazy-F.Cond a b c)) ∙ simp length-append (omega arith)

  pub size_map : (t : List ℕ) (e : Lazy F) → size_expr file (variant.Map t e) ≡ (length (string t) + size_expr file e) + 5
  unfolding made.roll-Lazy denote.Hole.Carrier.roll
  size_map t e = ap length (fold-roll-Lazy F (List ℕ) (canon_expr_at file) (Lazy-F.Map t e)) ∙ simp length-append (omega arith)

  pub size_catch : (e : Lazy F) (c : Class) (r : List ℕ) → size_expr file (variant.Catch e c r) ≡ ((size_expr file e + length (string (name c))) + length (string r)) + 5
  unfolding made.roll-Lazy denote.Hole.Carrier.roll
  size_catch e c r = ap length (fold-roll-Lazy F (List ℕ) (canon_expr_at file) (Lazy-F.Catch e c r)) ∙ simp length-append (omega arith)

pub depth_call : {F : Type 0} (t : List ℕ) (xs : List (Lazy F)) (ks : List (List ℕ × Lazy F)) → depth_expr (variant.Call t xs ks)
    ≡ max (greatest (map depth_expr xs)) (greatest (map named_depth (map (λ p. (p.0, depth_expr p.1)) ks))) + 1
unfolding made.roll-Lazy denote.Hole.Carrier.roll
depth_call {F} t xs ks = fold-roll-Lazy F ℕ depth_expr_at (Lazy-F.Call t xs ks)

pub depth_dict_of : {F : Type 0} (ps : List (Datum F × Lazy F)) → depth_expr (variant.DictOf ps) ≡ greatest (map keyed_depth (map (λ p. (p.0, depth_expr p.1)) ps)) + 1
unfolding made.roll-Lazy denote.Hole.Carrier.roll
depth_dict_of {F} ps = fold-roll-Lazy F ℕ depth_expr_at (Lazy-F.DictOf ps)
