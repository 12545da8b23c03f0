-- The depth of values and expressions.
use Rattle.std.specs.Prelude.{ℕ, ◌+◌, max, List, [], ◌∷◌, map}
use Rattle.rd_value.specs.declared.value.Datum.{Datum}
use Rattle.rd_value.specs.declared.value.Datum.TheOpen.{Datum-F}
use Rattle.rd_value.specs.declared.value.Datum.TheFolds.{fold-Datum}
use Rattle.rd_value.specs.declared.expr.Lazy.{Lazy}
use Rattle.rd_value.specs.declared.expr.Lazy.TheOpen.{Lazy-F}
use Rattle.rd_value.specs.declared.expr.Lazy.TheFolds.{fold-Lazy}

-- the greatest number of a list, 0 where it is empty
abbrev pub greatest : List ℕ → ℕ
greatest [] = 0
greatest (n ∷ ns) = max n (greatest ns)

-- the greater part of a pair
abbrev pub greater : ℕ × ℕ → ℕ
greater p = max p.0 p.1

-- the depth of a value, from those of its parts
abbrev pub depth_at : {F : Type 0} → Datum-F F ℕ → ℕ
depth_at (Datum-F.List ns) = greatest ns + 1
depth_at (Datum-F.Dict ps) = greatest (map greater ps) + 1
depth_at v = 1

-- the depth of a value
abbrev pub depth : {F : Type 0} → Datum F → ℕ
depth {F} = fold-Datum F ℕ depth_at

-- the depth of an expression with a name
abbrev pub named_depth : List ℕ × ℕ → ℕ
named_depth p = p.1

-- the greater depth of a key and an expression
abbrev pub keyed_depth : {F : Type 0} → Datum F × ℕ → ℕ
keyed_depth p = max (depth p.0) p.1

-- the depth of an expression, from those of its parts
abbrev pub depth_expr_at : {F : Type 0} → Lazy-F F ℕ → ℕ
depth_expr_at (Lazy-F.Val v) = depth v
depth_expr_at (Lazy-F.Call task positional keywords) = max (greatest positional) (greatest (map named_depth keywords)) + 1
depth_expr_at (Lazy-F.Input path) = 1
depth_expr_at (Lazy-F.Op op parts) = greatest parts + 1
depth_expr_at (Lazy-F.ListOf parts) = greatest parts + 1
depth_expr_at (Lazy-F.DictOf pairs) = greatest (map keyed_depth pairs) + 1
depth_expr_at (Lazy-F.Cond test when_true when_false) = max (max test when_true) when_false + 1
depth_expr_at (Lazy-F.Map task list) = list + 1
depth_expr_at (Lazy-F.Catch tried class recover) = tried + 1

-- the depth of an expression
abbrev pub depth_expr : {F : Type 0} → Lazy F → ℕ
depth_expr {F} = fold-Lazy F ℕ depth_expr_at
