-- Values and expressions with something else in place of each of their files.
use Rattle.std.specs.Prelude.{ℕ, List, map, Option, Result, Ok, Err}
use Rattle.std.specs.Option.{option_map}
use Rattle.rd_value.specs.declared.value.ErrorValue.{ErrorValue}
use Rattle.rd_value.specs.declared.value.FileValue.{FileValue}
use Rattle.rd_value.specs.declared.value.Datum.{Datum}
use Rattle.rd_value.specs.declared.value.Datum.TheViews.{roll-Datum}
use Rattle.rd_value.specs.declared.value.Datum.TheOpen.{Datum-F}
use Rattle.rd_value.specs.declared.value.Datum.TheFolds.{fold-Datum}
use Rattle.rd_value.specs.declared.expr.Lazy.{Lazy}
use Rattle.rd_value.specs.declared.expr.Lazy.TheViews.{roll-Lazy}
use Rattle.rd_value.specs.declared.expr.Lazy.TheOpen.{Lazy-F}
use Rattle.rd_value.specs.declared.expr.Lazy.TheFolds.{fold-Lazy}
use Rattle.rd_value.specs.Model.{ModelValue, ModelExpr, file_of}

module _ {F G : Type 0} (h : F → G) where
  -- one layer of a value
  abbrev pub with_file : {X : Type 0} → Datum-F F X → Datum-F G X
  with_file Datum-F.Nothing = Datum-F.Nothing
  with_file (Datum-F.Bool b) = Datum-F.Bool b
  with_file (Datum-F.Int n) = Datum-F.Int n
  with_file (Datum-F.Text t) = Datum-F.Text t
  with_file (Datum-F.List xs) = Datum-F.List xs
  with_file (Datum-F.Dict ps) = Datum-F.Dict ps
  with_file (Datum-F.File f) = Datum-F.File (h f)
  with_file (Datum-F.Error e) = Datum-F.Error e

  -- a value
  abbrev pub with_files : Datum F → Datum G
  with_files = fold-Datum F (Datum G) (λ x. roll-Datum G (with_file x))

  -- a key beside an expression
  abbrev pub with_files_key : {X : Type 0} → Datum F × X → Datum G × X
  with_files_key p = (with_files p.0, p.1)

  -- one layer of an expression
  abbrev pub with_file_expr : {X : Type 0} → Lazy-F F X → Lazy-F G X
  with_file_expr (Lazy-F.Val v) = Lazy-F.Val (with_files v)
  with_file_expr (Lazy-F.Call task positional keywords) = Lazy-F.Call task positional keywords
  with_file_expr (Lazy-F.Input path) = Lazy-F.Input path
  with_file_expr (Lazy-F.Op op parts) = Lazy-F.Op op parts
  with_file_expr (Lazy-F.ListOf parts) = Lazy-F.ListOf parts
  with_file_expr (Lazy-F.DictOf pairs) = Lazy-F.DictOf (map with_files_key pairs)
  with_file_expr (Lazy-F.Cond test when_true when_false) = Lazy-F.Cond test when_true when_false
  with_file_expr (Lazy-F.Map task list) = Lazy-F.Map task list
  with_file_expr (Lazy-F.Catch tried class recover) = Lazy-F.Catch tried class recover

  -- an expression
  abbrev pub with_files_expr : Lazy F → Lazy G
  with_files_expr = fold-Lazy F (Lazy G) (λ x. roll-Lazy G (with_file_expr x))

-- the answer of an operation, with its value's files
abbrev pub carried : {F G : Type 0} → (F → G) → Result (Datum F) ErrorValue → Result (Datum G) ErrorValue
carried h (Ok v) = Ok (with_files h v)
carried h (Err e) = Err e

-- the answer of an operation, with the files of each of its values
abbrev pub carried_all : {F G : Type 0} → (F → G) → Result (List (Datum F)) ErrorValue → Result (List (Datum G)) ErrorValue
carried_all h (Ok vs) = Ok (map (with_files h) vs)
carried_all h (Err e) = Err e

-- the answer of an operation, with its expression's files
abbrev pub carried_expr : {F G : Type 0} → (F → G) → Result (Lazy F) ErrorValue → Result (Lazy G) ErrorValue
carried_expr h (Ok e) = Ok (with_files_expr h e)
carried_expr h (Err e) = Err e

-- a parameter with its default
abbrev pub with_files_default : {F G : Type 0} → (F → G) → List ℕ × Option (Datum F) → List ℕ × Option (Datum G)
with_files_default h p = (p.0, option_map (with_files h) p.1)

-- a keyword
abbrev pub with_files_keyword : {F G : Type 0} → (F → G) → List ℕ × Datum F → List ℕ × Datum G
with_files_keyword h k = (k.0, with_files h k.1)

-- a value as the program holds it
abbrev pub erase : ModelValue → Datum FileValue
erase = with_files file_of

-- an expression as the program holds it
abbrev pub erase_expr : ModelExpr → Lazy FileValue
erase_expr = with_files_expr file_of
