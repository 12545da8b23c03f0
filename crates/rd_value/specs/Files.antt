-- The files that a value or an expression holds, in their order.
use Rattle.std.specs.Prelude.{ℕ, List, [], ◌∷◌, ◌++◌, map}
use Rattle.rd_value.specs.declared.value.Datum.{Datum}
use Rattle.rd_value.specs.declared.value.Datum.TheOpen.{Datum-F}
use Rattle.rd_value.specs.declared.value.Datum.TheFolds.{fold-Datum}
use Rattle.rd_value.specs.declared.expr.Lazy.{Lazy}
use Rattle.rd_value.specs.declared.expr.Lazy.TheOpen.{Lazy-F}
use Rattle.rd_value.specs.declared.expr.Lazy.TheFolds.{fold-Lazy}

module _ {F : Type 0} where
  -- the files of several parts
  abbrev pub gathered : List (List F) → List F
  gathered [] = []
  gathered (fs ∷ rest) = fs ++ gathered rest

  -- the files of two parts
  abbrev pub both : List F × List F → List F
  both p = p.0 ++ p.1

  -- the files of a value, from those of its parts
  abbrev pub files_at : Datum-F F (List F) → List F
  files_at (Datum-F.List xs) = gathered xs
  files_at (Datum-F.Dict ps) = gathered (map both ps)
  files_at (Datum-F.File f) = f ∷ []
  files_at _ = []

  -- the files of a value
  abbrev pub files : Datum F → List F
  files = fold-Datum F (List F) files_at

  -- the files of an expression behind a name
  abbrev pub second : List ℕ × List F → List F
  second p = p.1

  -- the files of a key and of the expression behind it
  abbrev pub with_key : Datum F × List F → List F
  with_key p = files p.0 ++ p.1

  -- the files of an expression, from those of its parts
  abbrev pub files_expr_at : Lazy-F F (List F) → List F
  files_expr_at (Lazy-F.Val v) = files v
  files_expr_at (Lazy-F.Call task positional keywords) = gathered positional ++ gathered (map second keywords)
  files_expr_at (Lazy-F.Input path) = []
  files_expr_at (Lazy-F.Op op parts) = gathered parts
  files_expr_at (Lazy-F.ListOf parts) = gathered parts
  files_expr_at (Lazy-F.DictOf pairs) = gathered (map with_key pairs)
  files_expr_at (Lazy-F.Cond test when_true when_false) = test ++ when_true ++ when_false
  files_expr_at (Lazy-F.Map task list) = list
  files_expr_at (Lazy-F.Catch tried class recover) = tried

  -- the files of an expression
  abbrev pub files_expr : Lazy F → List F
  files_expr = fold-Lazy F (List F) files_expr_at
