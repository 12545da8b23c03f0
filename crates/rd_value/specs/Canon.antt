-- The canonical bytes of values and expressions.
use Rattle.std.specs.Prelude.{ℕ, List, [], ◌∷◌, ◌++◌, length, map, codes, decimal, if◌then◌else◌}
use Rattle.std.specs.Fmt.{signed_decimal}
use Rattle.rd_value.specs.Class.{name}
use Rattle.rd_value.specs.declared.value.FileValue.{FileValue}
use Rattle.rd_value.specs.declared.value.Datum.{Datum}
use Rattle.rd_value.specs.declared.value.Datum.TheOpen.{Datum-F}
use Rattle.rd_value.specs.declared.value.Datum.TheFolds.{fold-Datum}
use Rattle.rd_value.specs.declared.expr.OpKind.{OpKind}
use Rattle.rd_value.specs.declared.expr.OpKind.TheVariants.{Add, Sub, Mul, FloorDiv, Mod, Neg, Eq, Ne, Lt, Le, Gt, Ge, Index}
use Rattle.rd_value.specs.declared.expr.Lazy.{Lazy}
use Rattle.rd_value.specs.declared.expr.Lazy.TheOpen.{Lazy-F}
use Rattle.rd_value.specs.declared.expr.Lazy.TheFolds.{fold-Lazy}

-- a byte string: its length, a colon and its bytes
abbrev pub string : List ℕ → List ℕ
string bs = decimal (length bs) ++ 58 ∷ bs

-- the parts, one behind the other
abbrev pub joined : List (List ℕ) → List ℕ
joined [] = []
joined (bs ∷ rest) = bs ++ joined rest

-- a key, and its value behind it
abbrev pub keyed : List ℕ × List ℕ → List ℕ
keyed p = p.0 ++ p.1

-- a name, and its expression behind it
abbrev pub named : List ℕ × List ℕ → List ℕ
named p = string p.0 ++ p.1

-- the text of an operator
abbrev pub op_text : OpKind → List ℕ
op_text Add = codes "+"
op_text Sub = codes "-"
op_text Mul = codes "*"
op_text FloorDiv = codes "//"
op_text Mod = codes "%"
op_text Neg = codes "neg"
op_text Eq = codes "=="
op_text Ne = codes "!="
op_text Lt = codes "<"
op_text Le = codes "<="
op_text Gt = codes ">"
op_text Ge = codes ">="
op_text Index = codes "[]"

module _ {F : Type 0} (file : F → FileValue) where
  -- the bytes of a value, from those of its parts
  abbrev pub canon_at : Datum-F F (List ℕ) → List ℕ
  canon_at Datum-F.Nothing = codes "l1:ne"
  canon_at (Datum-F.Bool b) = if b then codes "l1:bi1ee" else codes "l1:bi0ee"
  canon_at (Datum-F.Int n) = codes "i" ++ signed_decimal n ++ codes "e"
  canon_at (Datum-F.Text t) = string t
  canon_at (Datum-F.List xs) = codes "l1:l" ++ joined xs ++ codes "e"
  canon_at (Datum-F.Dict ps) = codes "l1:d" ++ joined (map keyed ps) ++ codes "e"
  canon_at (Datum-F.File f) = codes "l1:f" ++ string (file f).path ++ string (file f).digest.0 ++ codes "e"
  canon_at (Datum-F.Error e) = codes "l1:e" ++ string (name e.class) ++ string e.text ++ codes "e"

  -- the bytes of a value
  abbrev pub canon : Datum F → List ℕ
  canon = fold-Datum F (List ℕ) canon_at

  -- an expression behind its key
  abbrev pub under_key : Datum F × List ℕ → List ℕ
  under_key p = canon p.0 ++ p.1

  -- the bytes of an expression, from those of its parts
  abbrev pub canon_expr_at : Lazy-F F (List ℕ) → List ℕ
  canon_expr_at (Lazy-F.Val v) = codes "l1:v" ++ canon v ++ codes "e"
  canon_expr_at (Lazy-F.Call task positional keywords) =
      codes "l1:c" ++ string task ++ codes "l" ++ joined positional ++ codes "el" ++ joined (map named keywords) ++ codes "ee"
  canon_expr_at (Lazy-F.Input path) = codes "l1:i" ++ string path ++ codes "e"
  canon_expr_at (Lazy-F.Op op parts) = codes "l1:o" ++ string (op_text op) ++ joined parts ++ codes "e"
  canon_expr_at (Lazy-F.ListOf parts) = codes "l1:l" ++ joined parts ++ codes "e"
  canon_expr_at (Lazy-F.DictOf pairs) = codes "l1:d" ++ joined (map under_key pairs) ++ codes "e"
  canon_expr_at (Lazy-F.Cond test when_true when_false) = codes "l1:n" ++ test ++ when_true ++ when_false ++ codes "e"
  canon_expr_at (Lazy-F.Map task list) = codes "l1:m" ++ string task ++ list ++ codes "e"
  canon_expr_at (Lazy-F.Catch tried class recover) = codes "l1:t" ++ tried ++ string (name class) ++ string recover ++ codes "e"

  -- the bytes of an expression
  abbrev pub canon_expr : Lazy F → List ℕ
  canon_expr = fold-Lazy F (List ℕ) canon_expr_at
