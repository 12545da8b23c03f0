-- A text that is being made, within the limits of a value.
use Rattle.std.specs.Prelude.{ℕ, nat_le, List, ◌++◌, length, if◌then◌else◌, Option, None, Some, Result, Ok, Err}
use Rattle.rd_value.specs.declared.value.ErrorValue.{ErrorValue}
use Rattle.rd_value.specs.declared.value.FileValue.{FileValue}
use Rattle.rd_value.specs.declared.value.Datum.TheVariants as value
use Rattle.rd_value.specs.declared.expr.Lazy.{Lazy}
use Rattle.rd_value.specs.declared.expr.Lazy.TheVariants as lazy
use Rattle.rd_value.specs.Limits.{max_size}
use Rattle.rd_value.specs.Operators.{value_limit}
use Rattle.rd_interpreter.specs.State.{Part}
use Rattle.rd_interpreter.specs.Making.{made}

-- the text, unless it is longer than every value
unfoldable pub bounded : List ℕ → Option (List ℕ)
bounded t = if nat_le (length t) max_size then Some t else None

-- a text behind another
abbrev pub added : Option (List ℕ) → List ℕ → Option (List ℕ)
added (Some s) t = bounded (s ++ t)
added None t = None

-- the same of a text that is there unless there is an error
abbrev pub all_added : Option (List ℕ) → Result (List ℕ) ErrorValue → Result (Option (List ℕ)) ErrorValue
all_added o (Ok t) = Ok (added o t)
all_added o (Err e) = Err e

-- the value of a text
abbrev pub drafted : {N F : Type 0} → (F → FileValue) → Option (List ℕ) → Part N F (Lazy F)
drafted file (Some t) = made file (lazy.Val (value.Text t))
drafted file None = (λ s. Err value_limit)

-- the same, unless there is an error
abbrev pub all_drafted : {N F : Type 0} → (F → FileValue) → Result (Option (List ℕ)) ErrorValue → Part N F (Lazy F)
all_drafted file (Ok o) = drafted file o
all_drafted file (Err e) = (λ s. Err e)
