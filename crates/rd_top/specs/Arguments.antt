-- Values that stand in a source or on a command line, where nothing is a file.
use Rattle.std.specs.Prelude.{◌≡◌, ℕ, List, map}
use Rattle.rd_value.specs.declared.value.FileValue.{FileValue}
use Rattle.rd_value.specs.declared.value.Datum.{Datum}
use Rattle.rd_value.specs.declared.value.Datum.TheViews.{roll-Datum}
use Rattle.rd_value.specs.declared.value.Datum.TheOpen.{Datum-F}
use Rattle.rd_value.specs.declared.value.Datum.TheFolds.{fold-Datum}

-- one layer of a value, with None in the place of a file
abbrev pub without_file : {F X : Type 0} → Datum-F FileValue X → Datum-F F X
without_file Datum-F.Nothing = Datum-F.Nothing
without_file (Datum-F.Bool b) = Datum-F.Bool b
without_file (Datum-F.Int n) = Datum-F.Int n
without_file (Datum-F.Text t) = Datum-F.Text t
without_file (Datum-F.List xs) = Datum-F.List xs
without_file (Datum-F.Dict ps) = Datum-F.Dict ps
without_file (Datum-F.File f) = Datum-F.Nothing
without_file (Datum-F.Error e) = Datum-F.Error e

-- the value itself in any model of files, with None in the place of a file
unfoldable pub plain : {F : Type 0} → Datum FileValue → Datum F
plain {F} = fold-Datum FileValue (Datum F) (λ x. roll-Datum F (without_file x))

-- no value holds a file
abbrev pub HoldNoFiles : List (List ℕ × Datum FileValue) → Type 0
HoldNoFiles arguments = map (λ a. (a.0, plain a.1)) arguments ≡ arguments
