-- Binding, in the steps of the program.
use Rattle.std.specs.Prelude.{ℕ, suc, List, [], ◌∷◌, map, Option, None, Some, if◌then◌else◌}
use Rattle.std.specs.List.{slice_get}
use Rattle.std.specs.Option.{option_map}
use Rattle.std.specs.Str.{bytes_eq}
use Rattle.rd_value.specs.declared.signature.Parameter.{Parameter}
use Rattle.rd_value.specs.declared.value.FileValue.{FileValue}
use Rattle.rd_value.specs.declared.value.Datum.{Datum}
use Rattle.rd_value.specs.Bind as bind
use Rattle.rd_meaning.specs.declared.binding.Slot.{Slot}

-- a parameter's name and default
abbrev pub parameter_of : Parameter → List ℕ × Option (Datum FileValue)
parameter_of p = (p.name, p.default)

-- a slot as the definitions have it
abbrev pub slot_of : Slot → bind.Slot (Datum FileValue)
slot_of s = record { name = s.name; default = s.default; given = s.given }

-- the names of slots
abbrev pub names_of : List Slot → List (List ℕ)
names_of slots = map (λ s. s.name) slots

module _ {V : Type 0} where
  -- a slot for each parameter, given the argument at its place, where there is one
  abbrev pub in_order : ℕ → List (List ℕ × Option V) → List V → List (bind.Slot V)
  in_order n [] vs = []
  in_order n (p ∷ ps) vs = record { name = p.0; default = p.1; given = slice_get vs n } ∷ in_order (suc n) ps vs

  -- the place of the first slot of a name
  abbrev pub place_of : List ℕ → List (bind.Slot V) → Option ℕ
  place_of name [] = None
  place_of name (s ∷ slots) = if bytes_eq s.name name then Some 0 else option_map suc (place_of name slots)
