-- Errors as they are raised.
use Rattle.std.specs.Prelude.{ℕ, nat_le, List, take, length, if◌then◌else◌}
use Rattle.std.specs.Fmt.Cut.{floor_char_boundary}
use Rattle.rd_value.specs.declared.class.Class.{Class}
use Rattle.rd_value.specs.declared.value.ErrorValue.{ErrorValue}

-- the most bytes of an error's text
abbrev pub longest : ℕ
longest = 4096

-- the longest front of whole characters within that
abbrev pub cut : List ℕ → List ℕ
cut text = if nat_le (length text) longest then text else take (floor_char_boundary text longest) text

-- the error of a class with a text
abbrev pub raised : Class → List ℕ → ErrorValue
raised class text = record { class = class; text = cut text }
