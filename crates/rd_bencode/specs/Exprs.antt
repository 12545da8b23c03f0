-- How expressions are read. A number says how many levels may still be open.
use Rattle.std.specs.Prelude.{ℕ, zero, suc, Bool, true, not, ◌==◌, if◌then◌else◌, List, [], ◌∷◌, Option, Some, None}
use Rattle.std.specs.List.{list_all}
use Rattle.std.specs.Option.{is_some}
use Rattle.std.specs.Str.{bytes_eq}
use Rattle.rd_value.specs.Canon.{op_text}
use Rattle.rd_value.specs.Make.{value_of}
use Rattle.rd_value.specs.declared.value.FileValue.{FileValue}
use Rattle.rd_value.specs.declared.expr.OpKind.{OpKind}
use Rattle.rd_value.specs.declared.expr.OpKind.TheVariants.{Add, Sub, Mul, FloorDiv, Mod, Neg, Eq, Ne, Lt, Le, Gt, Ge, Index}
use Rattle.rd_value.specs.declared.expr.Lazy.{Lazy, out-Lazy}
use Rattle.rd_value.specs.declared.expr.Lazy.TheVariants as expr
use Rattle.rd_value.specs.declared.expr.Lazy.TheOpen.{Lazy-F}
use Rattle.rd_bencode.specs.Reader.{Reader, ◌>>=◌, pure, refuse, refuse_last, mean, check, read_string, read_letter, read_open, read_close, read_many}
use Rattle.rd_bencode.specs.Meaning.{path_of, class_of}
use Rattle.rd_bencode.specs.Values.{read_text, read_value, read_pairs}

abbrev pub Expr : Type 0
Expr = Lazy FileValue

-- the one of these operators that has this text
abbrev pub op_in : List OpKind → List ℕ → Option OpKind
op_in [] bs = None
op_in (o ∷ os) bs = if bytes_eq bs (op_text o) then Some o else op_in os bs

abbrev pub operators : List OpKind
operators = Add ∷ Sub ∷ Mul ∷ FloorDiv ∷ Mod ∷ Neg ∷ Eq ∷ Ne ∷ Lt ∷ Le ∷ Gt ∷ Ge ∷ Index ∷ []

unfoldable pub op_of : List ℕ → Option OpKind
op_of bs = op_in operators bs

-- an expression that is a value
abbrev pub is_val : Expr → Bool
is_val e = is_some (value_of e)

-- a list or a dict of values alone is a value, and no list or dict of expressions
abbrev pub is_lazy_at : {X : Type 0} → (X → Bool) → Lazy-F FileValue X → Bool
is_lazy_at v (Lazy-F.ListOf es) = not (list_all v es)
is_lazy_at v (Lazy-F.DictOf ps) = not (list_all (λ p. v p.1) ps)
is_lazy_at v _ = true

abbrev pub is_lazy : Expr → Bool
is_lazy e = is_lazy_at is_val (out-Lazy FileValue e)

unfoldable pub read_input : Reader Expr
read_input = do p ← read_string; path ← mean (path_of p); pure (expr.Input path)

module _ (n : ℕ) (inside : Reader Expr) where
  -- a value stands on the level of its expression
  unfoldable pub read_val : Reader Expr
  read_val = do v ← read_value (suc n); pure (expr.Val v)

  unfoldable pub read_named : Reader (List ℕ × Expr)
  read_named = do t ← read_text; e ← inside; pure (t, e)

  unfoldable pub read_call : Reader Expr
  read_call = do t ← read_text; a ← read_open; xs ← read_many inside; b ← read_close; c ← read_open; ks ← read_many read_named; d ← read_close; pure (expr.Call t xs ks)

  unfoldable pub read_one : Reader (List Expr)
  read_one = do x ← inside; pure (x ∷ [])

  unfoldable pub read_two : Reader (List Expr)
  read_two = do x ← inside; y ← inside; pure (x ∷ y ∷ [])

  -- one part of `neg`, and two of every other operator
  abbrev pub read_parts : OpKind → Reader (List Expr)
  read_parts Neg = read_one
  read_parts _ = read_two

  unfoldable pub read_op : Reader Expr
  read_op = do t ← read_string; o ← mean (op_of t); xs ← read_parts o; pure (expr.Op o xs)

  unfoldable pub read_list_of : Reader Expr
  read_list_of = do xs ← read_many inside; pure (expr.ListOf xs)

  unfoldable pub read_dict_of : Reader Expr
  read_dict_of = do ps ← read_pairs n inside; pure (expr.DictOf ps)

  unfoldable pub read_cond : Reader Expr
  read_cond = do a ← inside; b ← inside; c ← inside; pure (expr.Cond a b c)

  unfoldable pub read_map : Reader Expr
  read_map = do t ← read_text; e ← inside; pure (expr.Map t e)

  unfoldable pub read_catch : Reader Expr
  read_catch = do e ← inside; c ← read_string; class ← mean (class_of c); t ← read_text; pure (expr.Catch e class t)

  -- what stands behind the letter of a kind
  unfoldable pub read_expr_kind : ℕ → Reader Expr
  read_expr_kind c = if c == 118 then read_val else if c == 99 then read_call else if c == 105 then read_input else if c == 111 then read_op else if c == 108 then read_list_of else if c == 100 then read_dict_of else if c == 110 then read_cond else if c == 109 then read_map else if c == 116 then read_catch else refuse_last

  unfoldable pub read_any_expr : Reader Expr
  read_any_expr = do a ← read_open; c ← read_letter; e ← read_expr_kind c; b ← read_close; u ← check (is_lazy e); pure e

unfoldable pub read_expr : ℕ → Reader Expr
read_expr zero = refuse
read_expr (suc n) = read_any_expr n (read_expr n)
