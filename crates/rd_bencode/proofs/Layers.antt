-- The canonical bytes of some kinds of values and expressions, from those of their parts.
use Rattle.std.proofs.Common.{◌≡◌, ◌+◌, max, ℕ, ℤ, Bool, cond, List, ◌++◌, map}
use Rattle.std.specs.Fmt.{signed_decimal}
use Rattle.std.specs.Prelude.{codes}
use Rattle.rd_value.specs.declared.class.Class.{Class}
use Rattle.rd_value.specs.declared.value.FileValue.{FileValue}
use Rattle.rd_value.specs.declared.value.ErrorValue.{ErrorValue}
use Rattle.rd_value.specs.declared.value.Datum.{Datum}
use Rattle.rd_value.specs.declared.value.Datum.TheViews as made
use Rattle.rd_value.specs.declared.value.Datum.TheVariants as variant
use Rattle.rd_value.specs.declared.value.Datum.TheOpen.{Datum-F}
use Rattle.rd_value.specs.declared.value.Datum.TheFolds.{fold-roll-Datum}
use Rattle.rd_value.specs.declared.expr.OpKind.{OpKind}
use Rattle.rd_value.specs.declared.expr.Lazy.{Lazy}
use Rattle.rd_value.specs.declared.expr.Lazy.TheViews as made_expr
use Rattle.rd_value.specs.declared.expr.Lazy.TheVariants as expr
use Rattle.rd_value.specs.declared.expr.Lazy.TheOpen.{Lazy-F}
use Rattle.rd_value.specs.declared.expr.Lazy.TheFolds.{fold-roll-Lazy}
use Rattle.rd_value.specs.Class.{name}
use Rattle.rd_value.specs.Depth.{depth, depth_at, depth_expr, depth_expr_at, greatest}
use Rattle.rd_value.specs.Canon.{canon, canon_at, canon_expr, canon_expr_at, string, joined, keyed, named, under_key, op_text}

module _ {F : Type 0} (file : F → FileValue) where
  pub canon_nothing : canon file variant.Nothing ≡ codes "l1:ne"
  unfolding made.roll-Datum denote.Hole.Carrier.roll
  canon_nothing = fold-roll-Datum F (List ℕ) (canon_at file) Datum-F.Nothing

  pub canon_bool : (b : Bool) → canon file (variant.Bool b) ≡ cond b (codes "l1:bi1ee") (codes "l1:bi0ee")
  unfolding made.roll-Datum denote.Hole.Carrier.roll
  canon_bool b = fold-roll-Datum F (List ℕ) (canon_at file) (Datum-F.Bool b)

  pub canon_int : (z : ℤ) → canon file (variant.Int z) ≡ codes "i" ++ signed_decimal z ++ codes "e"
  unfolding made.roll-Datum denote.Hole.Carrier.roll
  canon_int z = fold-roll-Datum F (List ℕ) (canon_at file) (Datum-F.Int z)

  pub canon_text : (t : List ℕ) → canon file (variant.Text t) ≡ string t
  unfolding made.roll-Datum denote.Hole.Carrier.roll
  canon_text t = fold-roll-Datum F (List ℕ) (canon_at file) (Datum-F.Text t)

  pub canon_list : (xs : List (Datum F)) → canon file (variant.List xs) ≡ codes "l1:l" ++ joined (map (canon file) xs) ++ codes "e"
  unfolding made.roll-Datum denote.Hole.Carrier.roll
  canon_list xs = fold-roll-Datum F (List ℕ) (canon_at file) (Datum-F.List xs)

  pub canon_file : (f : F) → canon file (variant.File f) ≡ codes "l1:f" ++ string (file f).path ++ string (file f).digest.0 ++ codes "e"
  unfolding made.roll-Datum denote.Hole.Carrier.roll
  canon_file f = fold-roll-Datum F (List ℕ) (canon_at file) (Datum-F.File f)

  pub canon_error : (e : ErrorValue) → canon file (variant.Error e) ≡ codes "l1:e" ++ string (name e.class) ++ string e.text ++ codes "e"
  unfolding made.roll-Datum denote.Hole.Carrier.roll
  canon_error e = fold-roll-Datum F (List ℕ) (canon_at file) (Datum-F.Error e)

  pub canon_dict : (ps : List (Datum F × Datum F)) → canon file (variant.Dict ps) ≡ codes "l1:d" ++ joined (map keyed (map (λ p. (canon file p.0, canon file p.1)) ps)) ++ codes "e"
  unfolding made.roll-Datum denote.Hole.Carrier.roll
  canon_dict ps = fold-roll-Datum F (List ℕ) (canon_at file) (Datum-F.Dict ps)

  pub canon_val : (v : Datum F) → canon_expr file (expr.Val v) ≡ codes "l1:v" ++ canon file v ++ codes "e"
  unfolding made_expr.roll-Lazy denote.Hole.Carrier.roll
  canon_val v = fold-roll-Lazy F (List ℕ) (canon_expr_at file) (Lazy-F.Val v)

  pub canon_call : (t : List ℕ) (xs : List (Lazy F)) (ks : List (List ℕ × Lazy F)) → canon_expr file (expr.Call t xs ks)
      ≡ codes "l1:c" ++ string t ++ codes "l" ++ joined (map (canon_expr file) xs) ++ codes "el" ++ joined (map named (map (λ p. (p.0, canon_expr file p.1)) ks)) ++ codes "ee"
  unfolding made_expr.roll-Lazy denote.Hole.Carrier.roll
  canon_call t xs ks = fold-roll-Lazy F (List ℕ) (canon_expr_at file) (Lazy-F.Call t xs ks)

  pub canon_input : (p : List ℕ) → canon_expr file (expr.Input p) ≡ codes "l1:i" ++ string p ++ codes "e"
  unfolding made_expr.roll-Lazy denote.Hole.Carrier.roll
  canon_input p = fold-roll-Lazy F (List ℕ) (canon_expr_at file) (Lazy-F.Input p)

  pub canon_op : (op : OpKind) (xs : List (Lazy F)) → canon_expr file (expr.Op op xs) ≡ codes "l1:o" ++ string (op_text op) ++ joined (map (canon_expr file) xs) ++ codes "e"
  unfolding made_expr.roll-Lazy denote.Hole.Carrier.roll
  canon_op op xs = fold-roll-Lazy F (List ℕ) (canon_expr_at file) (Lazy-F.Op op xs)

  pub canon_list_of : (xs : List (Lazy F)) → canon_expr file (expr.ListOf xs) ≡ codes "l1:l" ++ joined (map (canon_expr file) xs) ++ codes "e"
  unfolding made_expr.roll-Lazy denote.Hole.Carrier.roll
  canon_list_of xs = fold-roll-Lazy F (List ℕ) (canon_expr_at file) (Lazy-F.ListOf xs)

  pub canon_dict_of : (ps : List (Datum F × Lazy F)) → canon_expr file (expr.DictOf ps) ≡ codes "l1:d" ++ joined (map (under_key file) (map (λ p. (p.0, canon_expr file p.1)) ps)) ++ codes "e"
  unfolding made_expr.roll-Lazy denote.Hole.Carrier.roll
  canon_dict_of ps = fold-roll-Lazy F (List ℕ) (canon_expr_at file) (Lazy-F.DictOf ps)

  pub canon_cond : (a b c : Lazy F) → canon_expr file (expr.Cond a b c) ≡ codes "l1:n" ++ canon_expr file a ++ canon_expr file b ++ canon_expr file c ++ codes "e"
  unfolding made_expr.roll-Lazy denote.Hole.Carrier.roll
  canon_cond a b c = fold-roll-Lazy F (List ℕ) (canon_expr_at file) (Lazy-F.Cond a b c)

  pub canon_map : (t : List ℕ) (e : Lazy F) → canon_expr file (expr.Map t e) ≡ codes "l1:m" ++ string t ++ canon_expr file e ++ codes "e"
  unfolding made_expr.roll-Lazy denote.Hole.Carrier.roll
  canon_map t e = fold-roll-Lazy F (List ℕ) (canon_expr_at file) (Lazy-F.Map t e)

  pub canon_catch : (e : Lazy F) (c : Class) (r : List ℕ) → canon_expr file (expr.Catch e c r) ≡ codes "l1:t" ++ canon_expr file e ++ string (name c) ++ string r ++ codes "e"
  unfolding made_expr.roll-Lazy denote.Hole.Carrier.roll
  canon_catch e c r = fold-roll-Lazy F (List ℕ) (canon_expr_at file) (Lazy-F.Catch e c r)

-- a value whose depth is 1
abbrev pub IsFlat : Datum FileValue → Type 0
IsFlat v = depth v ≡ 1

pub depth_nothing : IsFlat variant.Nothing
unfolding made.roll-Datum denote.Hole.Carrier.roll
depth_nothing = fold-roll-Datum FileValue ℕ depth_at Datum-F.Nothing

pub depth_bool : (b : Bool) → IsFlat (variant.Bool b)
unfolding made.roll-Datum denote.Hole.Carrier.roll
depth_bool b = fold-roll-Datum FileValue ℕ depth_at (Datum-F.Bool b)

pub depth_int : (z : ℤ) → IsFlat (variant.Int z)
unfolding made.roll-Datum denote.Hole.Carrier.roll
depth_int z = fold-roll-Datum FileValue ℕ depth_at (Datum-F.Int z)

pub depth_text : (t : List ℕ) → IsFlat (variant.Text t)
unfolding made.roll-Datum denote.Hole.Carrier.roll
depth_text t = fold-roll-Datum FileValue ℕ depth_at (Datum-F.Text t)

pub depth_file : (f : FileValue) → IsFlat (variant.File f)
unfolding made.roll-Datum denote.Hole.Carrier.roll
depth_file f = fold-roll-Datum FileValue ℕ depth_at (Datum-F.File f)

pub depth_error : (e : ErrorValue) → IsFlat (variant.Error e)
unfolding made.roll-Datum denote.Hole.Carrier.roll
depth_error e = fold-roll-Datum FileValue ℕ depth_at (Datum-F.Error e)

pub depth_val : (v : Datum FileValue) → depth_expr (expr.Val v) ≡ depth v
unfolding made_expr.roll-Lazy denote.Hole.Carrier.roll
depth_val v = fold-roll-Lazy FileValue ℕ depth_expr_at (Lazy-F.Val v)

-- an expression whose depth is 1
abbrev pub IsFlatExpr : Lazy FileValue → Type 0
IsFlatExpr e = depth_expr e ≡ 1

pub depth_input : (p : List ℕ) → IsFlatExpr (expr.Input p)
unfolding made_expr.roll-Lazy denote.Hole.Carrier.roll
depth_input p = fold-roll-Lazy FileValue ℕ depth_expr_at (Lazy-F.Input p)

pub depth_op : (o : OpKind) (es : List (Lazy FileValue)) → depth_expr (expr.Op o es) ≡ greatest (map depth_expr es) + 1
unfolding made_expr.roll-Lazy denote.Hole.Carrier.roll
depth_op o es = fold-roll-Lazy FileValue ℕ depth_expr_at (Lazy-F.Op o es)

pub depth_list_of : (es : List (Lazy FileValue)) → depth_expr (expr.ListOf es) ≡ greatest (map depth_expr es) + 1
unfolding made_expr.roll-Lazy denote.Hole.Carrier.roll
depth_list_of es = fold-roll-Lazy FileValue ℕ depth_expr_at (Lazy-F.ListOf es)

pub depth_cond : (a b c : Lazy FileValue) → depth_expr (expr.Cond a b c) ≡ max (max (depth_expr a) (depth_expr b)) (depth_expr c) + 1
unfolding made_expr.roll-Lazy denote.Hole.Carrier.roll
depth_cond a b c = fold-roll-Lazy FileValue ℕ depth_expr_at (Lazy-F.Cond a b c)

pub depth_map : (t : List ℕ) (e : Lazy FileValue) → depth_expr (expr.Map t e) ≡ depth_expr e + 1
unfolding made_expr.roll-Lazy denote.Hole.Carrier.roll
depth_map t e = fold-roll-Lazy FileValue ℕ depth_expr_at (Lazy-F.Map t e)

pub depth_catch : (e : Lazy FileValue) (c : Class) (t : List ℕ) → depth_expr (expr.Catch e c t) ≡ depth_expr e + 1
unfolding made_expr.roll-Lazy denote.Hole.Carrier.roll
depth_catch e c t = fold-roll-Lazy FileValue ℕ depth_expr_at (Lazy-F.Catch e c t)
