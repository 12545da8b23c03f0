-- What a body makes: its limits, and its steps.
use Rattle.std.specs.Prelude.{ℕ, ◌/◌, Bool, length, if◌then◌else◌, Option, None, Some, Result, Ok, Err}
use Rattle.rd_value.specs.declared.value.ErrorValue.{ErrorValue}
use Rattle.rd_value.specs.declared.value.FileValue.{FileValue}
use Rattle.rd_value.specs.declared.value.Datum.{Datum, out-Datum}
use Rattle.rd_value.specs.declared.value.Datum.TheVariants as value
use Rattle.rd_value.specs.declared.value.Datum.TheOpen.{Datum-F}
use Rattle.rd_value.specs.declared.expr.Lazy.{Lazy, out-Lazy}
use Rattle.rd_value.specs.declared.expr.Lazy.TheVariants as lazy
use Rattle.rd_value.specs.declared.expr.Lazy.TheOpen.{Lazy-F}
use Rattle.rd_value.specs.Limits.{is_within, is_within_expr}
use Rattle.rd_value.specs.Make.{value_of}
use Rattle.rd_value.specs.Operators.{value_limit}
use Rattle.rd_interpreter.specs.State.{Part, spend}

-- the steps of making a value: one for 64 whole bytes of a text, one for an item or a pair
abbrev pub making_at : {F X : Type 0} → Datum-F F X → ℕ
making_at (Datum-F.Text t) = length t / 64
making_at (Datum-F.List xs) = length xs
making_at (Datum-F.Dict ps) = length ps
making_at _ = 0

abbrev pub making : {F : Type 0} → Datum F → ℕ
making {F} v = making_at (out-Datum F v)

-- the same of what isn't settled
abbrev pub making_held_at : {F : Type 0} → Lazy-F F (Lazy F) → ℕ
making_held_at (Lazy-F.Val v) = making v
making_held_at (Lazy-F.ListOf es) = length es
making_held_at (Lazy-F.DictOf ps) = length ps
making_held_at _ = 0

abbrev pub making_held : {F : Type 0} → Lazy F → ℕ
making_held {F} e = making_held_at (out-Lazy F e)

module _ {F : Type 0} (file : F → FileValue) where
  abbrev pub is_kept_by : Lazy F → Option (Datum F) → Bool
  is_kept_by e (Some v) = is_within file v
  is_kept_by e None = is_within_expr file e

  -- a value is measured as a value, all else as an expression
  abbrev pub is_kept : Lazy F → Bool
  is_kept e = is_kept_by e (value_of e)

  module _ {N : Type 0} where
    -- an expression that is made, which is measured
    abbrev pub measured : Lazy F → Part N F (Lazy F)
    measured e s = if is_within_expr file e then Ok (e, s) else Err value_limit

    -- a value, list or dict that is made: its limits come before its steps
    abbrev pub made : Lazy F → Part N F (Lazy F)
    made e s = if is_kept e then spend (making_held e) s (λ t. Ok (e, t)) else Err value_limit

-- a value that an operation made, within the limits
abbrev pub worked : {N F : Type 0} → Result (Datum F) ErrorValue → Part N F (Lazy F)
worked (Ok v) s = spend (making v) s (λ t. Ok (lazy.Val v, t))
worked (Err e) s = Err e

-- a value that was there
abbrev pub taken : {N F : Type 0} → Result (Datum F) ErrorValue → Part N F (Lazy F)
taken (Ok v) s = Ok (lazy.Val v, s)
taken (Err e) s = Err e

-- a truth value
abbrev pub truth_value : {N F : Type 0} → Result Bool ErrorValue → Part N F (Lazy F)
truth_value (Ok b) s = Ok (lazy.Val (value.Bool b), s)
truth_value (Err e) s = Err e
