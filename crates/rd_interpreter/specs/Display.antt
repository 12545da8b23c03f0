-- What a display's keys are, and what is held by them.
use Rattle.std.specs.Prelude.{◌≡◌, ◌⊎◌, ℕ, ℤ, List, Result, Ok, Err}
use Rattle.rd_value.specs.declared.value.ErrorValue.{ErrorValue}
use Rattle.rd_value.specs.declared.value.FileValue.{FileValue}
use Rattle.rd_value.specs.declared.value.Datum.{Datum}
use Rattle.rd_value.specs.declared.value.Datum.TheVariants as value
use Rattle.rd_value.specs.declared.expr.Lazy.{Lazy}
use Rattle.indexmap.specs.IndexMap.{IndexMap}
use Rattle.rd_interpreter.specs.declared.halt.Halt.{Halt}
use Rattle.rd_interpreter.specs.declared.halt.Halt.TheVariants.{Raised, OutOfMemory}

-- an Int or a Text
abbrev pub IsKeyOf : Datum FileValue → Type 0
IsKeyOf v = ((n : ℤ) × (v ≡ value.Int n)) ⊎ ((t : List ℕ) × (v ≡ value.Text t))

-- what was returned has these entries, or is the error, unless memory ran out
abbrev pub EntriesAre : {S : Type 0} → Result (IndexMap (Datum FileValue) (Lazy FileValue) S) Halt → Result (List (Datum FileValue × Lazy FileValue)) ErrorValue → Type 0
EntriesAre (Ok m) answer = answer ≡ Ok m.entries
EntriesAre (Err (Raised e)) answer = answer ≡ Err e
EntriesAre (Err OutOfMemory) answer = Unit {0}
