-- What `map_` and `catch` come to.
use Rattle.std.specs.Prelude.{ℕ, Bool, true, false, ◌||◌, List, [], ◌∷◌, map, codes, if◌then◌else◌, Option, None, Some, Result, Ok, Err}
use denote.Enum.Bare.{sameb}
use Rattle.rd_value.specs.declared.class.Class.{Class}
use Rattle.rd_value.specs.declared.class.Class.TheVariants.{Exception, RuntimeError, RecursionError, TypeError}
use Rattle.rd_value.specs.contracts.class.Class.{the_type}
use Rattle.rd_value.specs.declared.value.ErrorValue.{ErrorValue}
use Rattle.rd_value.specs.declared.value.FileValue.{FileValue}
use Rattle.rd_value.specs.declared.value.Datum.{Datum, out-Datum}
use Rattle.rd_value.specs.declared.value.Datum.TheVariants as variant
use Rattle.rd_value.specs.declared.value.Datum.TheOpen.{Datum-F}
use Rattle.rd_value.specs.declared.expr.Lazy.{Lazy}
use Rattle.rd_value.specs.declared.expr.Lazy.TheVariants as expr
use Rattle.rd_value.specs.Limits.{is_within_expr}
use Rattle.rd_value.specs.Make.{list_of, values_of}
use Rattle.rd_value.specs.Operators.{value_limit}

-- the error of `map_` on what is no list
abbrev pub needs_a_list : ErrorValue
needs_a_list = record { class = TypeError; text = codes "map_ needs a list" }

-- the call of a task with one argument
abbrev pub call_with : {F : Type 0} → List ℕ → Datum F → Lazy F
call_with task v = expr.Call task (expr.Val v ∷ []) []

module _ {F : Type 0} (file : F → FileValue) where
  -- the expression, where it is within the limits
  abbrev pub kept_expr : Lazy F → Result (Lazy F) ErrorValue
  kept_expr e = if is_within_expr file e then Ok e else Err value_limit

  -- the list of these expressions
  abbrev pub listed : List (Lazy F) → Lazy F
  listed es = list_of es (values_of es)

  -- the calls of a task with each item, on the outermost layer
  abbrev pub map_at : List ℕ → Datum-F F (Datum F) → Result (Lazy F) ErrorValue
  map_at task (Datum-F.List xs) = kept_expr (listed (map (call_with task) xs))
  map_at task _ = Err needs_a_list

  -- the calls of a task with each item of a list
  abbrev pub expand_map : List ℕ → Datum F → Result (Lazy F) ErrorValue
  expand_map task v = map_at task (out-Datum F v)

-- a class catches itself, Exception every class, and RuntimeError also RecursionError
abbrev pub catches : Class → Class → Bool
catches Exception c = true
catches RuntimeError RecursionError = true
catches class c = sameb the_type class c

-- the call that recovers from an error, where the class catches it
abbrev pub expand_catch : {F : Type 0} → Class → List ℕ → ErrorValue → Option (Lazy F)
expand_catch class recover e = if catches class e.class then Some (call_with recover (variant.Error e)) else None
