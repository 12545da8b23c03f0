-- Binding the arguments of a helper, in the steps of the program.
use Rattle.std.specs.Prelude.{◌≡◌, ℕ, suc, List, [], ◌∷◌, map, Option, None, Some, Result, Ok, Err, if◌then◌else◌}
use Rattle.std.specs.List.{slice_get}
use Rattle.std.specs.Option.{option_map}
use Rattle.std.specs.Str.{bytes_eq}
use Rattle.rd_value.specs.declared.value.ErrorValue.{ErrorValue}
use Rattle.rd_value.specs.declared.value.FileValue.{FileValue}
use Rattle.rd_value.specs.declared.expr.Lazy.{Lazy}
use Rattle.rd_value.specs.declared.expr.Lazy.TheVariants as lazy
use Rattle.rd_value.specs.Bind as bind
use Rattle.rd_interpreter.specs.declared.binding.Argument.{Argument}
use Rattle.rd_interpreter.specs.declared.halt.Halt.{Halt}
use Rattle.rd_interpreter.specs.declared.halt.Halt.TheVariants.{Raised, OutOfMemory}
use Rattle.rd_routine.specs.declared.routine.Parameter.{Parameter}
use Rattle.rd_routine.specs.declared.routine.Word.{Word}
use Rattle.rd_interpreter.specs.Running.{spelling_at}

-- a parameter's name and default
abbrev pub spelled_in : List Word → Parameter → List ℕ × Option (Lazy FileValue)
spelled_in words p = (spelling_at words p.slot, option_map lazy.Val p.default)

-- an argument as the definitions have it
abbrev pub slot_of : Argument → bind.Slot (Lazy FileValue)
slot_of a = record { name = a.name; default = a.default; given = a.given }

-- the names of arguments
abbrev pub names_of : List Argument → List (List ℕ)
names_of arguments = map (λ a. a.name) arguments

-- a slot for each parameter, given the argument at its place, where there is one
abbrev pub in_order : {V : Type 0} → ℕ → List (List ℕ × Option V) → List V → List (bind.Slot V)
in_order n [] vs = []
in_order n (p ∷ ps) vs = record { name = p.0; default = p.1; given = slice_get vs n } ∷ in_order (suc n) ps vs

-- the place of the first slot of a name
abbrev pub place_of : {V : Type 0} → List ℕ → List (bind.Slot V) → Option ℕ
place_of name [] = None
place_of name (s ∷ slots) = if bytes_eq s.name name then Some 0 else option_map suc (place_of name slots)

-- these arguments are the answer, or the error is, unless memory ran out
abbrev pub Filled : Result (Unit {0}) Halt → List Argument → Result (List (bind.Slot (Lazy FileValue))) ErrorValue → Type 0
Filled (Ok u) arguments answer = answer ≡ Ok (map slot_of arguments)
Filled (Err (Raised e)) arguments answer = answer ≡ Err e
Filled (Err OutOfMemory) arguments answer = Unit {0}
