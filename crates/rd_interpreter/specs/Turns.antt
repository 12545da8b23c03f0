-- What a loop still has to go through.
use Rattle.std.specs.Prelude.{◌≡◌, List, [], ◌∷◌, Option, Some, None, Result, Ok, Err}
use Rattle.rd_value.specs.declared.value.ErrorValue.{ErrorValue}
use Rattle.rd_value.specs.declared.value.FileValue.{FileValue}
use Rattle.rd_value.specs.declared.expr.Lazy.{Lazy}
use Rattle.rd_interpreter.specs.declared.halt.Halt.{Halt}
use Rattle.rd_interpreter.specs.declared.halt.Halt.TheVariants.{Raised, OutOfMemory}
use Rattle.rd_interpreter.specs.State.{State, Ran}
use Rattle.rd_interpreter.specs.declared.turns.Turns.{Turns}
use Rattle.rd_interpreter.specs.Source.{left_of}

-- the items that are left
unfoldable pub left : Turns → List (Lazy FileValue)
left t = left_of t.source t.place

-- the item that comes next, and those behind it
abbrev pub LeftAre : List (Lazy FileValue) → List (Lazy FileValue) → Option (Lazy FileValue) → Type 0
LeftAre old new None = old ≡ []
LeftAre old new (Some e) = old ≡ e ∷ new

-- what is gone through, unless memory ran out
abbrev pub TurnsAre : Result Turns Halt → Result (List (Lazy FileValue)) ErrorValue → Type 0
TurnsAre (Ok t) items = items ≡ Ok (left t)
TurnsAre (Err (Raised e)) items = items ≡ Err e
TurnsAre (Err OutOfMemory) items = Unit {0}

-- what a part of a body comes to is gone through, with this state behind it
abbrev pub GivesTurns : {N : Type 0} → Result Turns Halt → State N FileValue → Ran N FileValue (List (Lazy FileValue)) → Type 0
GivesTurns (Ok t) s ran = ran ≡ Ok (left t, s)
GivesTurns (Err (Raised e)) s ran = ran ≡ Err e
GivesTurns (Err OutOfMemory) s ran = Unit {0}
