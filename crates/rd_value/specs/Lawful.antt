-- What is true of every value that the program holds.
use Rattle.std.specs.Prelude.{◌≡◌, ℕ, ℤ, ◌<◌, FitsSigned, true, ⊤, List, length}
use Rattle.std.specs.Int.{w64}
use Rattle.std.specs.List.{All}
use Rattle.std.specs.Str.{IsUtf8}
use Rattle.rd_base.specs.Path.{is_path}
use Rattle.rd_value.specs.declared.value.FileValue.{FileValue}
use Rattle.rd_value.specs.declared.value.ErrorValue.{ErrorValue}
use Rattle.rd_value.specs.declared.value.Datum.{Datum}
use Rattle.rd_value.specs.declared.value.Datum.TheOpen.{Datum-F}
use Rattle.rd_value.specs.declared.value.Datum.TheFolds.{every-Datum}

-- a number of 64 bits, a text in UTF-8, a lawful path with a digest of 32 bytes
abbrev pub IsLawfulAt : Datum-F FileValue (Datum FileValue) → Type 0
IsLawfulAt (Datum-F.Int n) = FitsSigned w64 n
IsLawfulAt (Datum-F.Text t) = IsUtf8 t
IsLawfulAt (Datum-F.File f) = (is_path f.path ≡ true) × (length f.digest.0 ≡ 32)
IsLawfulAt (Datum-F.Error e) = IsUtf8 e.text
IsLawfulAt _ = ⊤

-- the same of every part
abbrev pub IsLawful : Datum FileValue → Type 0
IsLawful = every-Datum FileValue IsLawfulAt
