-- The sizes of values and expressions, and their limits.
use Rattle.std.specs.Prelude.{ℕ, Bool, ◌&&◌, nat_le, List, length}
use Rattle.rd_value.specs.declared.value.FileValue.{FileValue}
use Rattle.rd_value.specs.declared.value.Datum.{Datum}
use Rattle.rd_value.specs.declared.value.Datum.TheVariants as variant
use Rattle.rd_value.specs.declared.expr.Lazy.{Lazy}
use Rattle.rd_value.specs.Canon.{canon, canon_expr}
use Rattle.rd_value.specs.Depth.{depth, depth_expr}

-- the most canonical bytes
abbrev pub max_size : ℕ
max_size = 1048576

-- the greatest depth
abbrev pub max_depth : ℕ
max_depth = 64

module _ {F : Type 0} (file : F → FileValue) where
  -- the number of canonical bytes of a value
  abbrev pub size : Datum F → ℕ
  size v = length (canon file v)

  -- the number of canonical bytes of an expression
  abbrev pub size_expr : Lazy F → ℕ
  size_expr e = length (canon_expr file e)

  -- a value within both limits
  abbrev pub is_within : Datum F → Bool
  is_within v = nat_le (size v) max_size && nat_le (depth v) max_depth

  -- an expression within both limits
  abbrev pub is_within_expr : Lazy F → Bool
  is_within_expr e = nat_le (size_expr e) max_size && nat_le (depth_expr e) max_depth

  -- values of which the list is within both limits
  abbrev pub are_within : List (Datum F) → Bool
  are_within vs = is_within (variant.List vs)
