-- What is printed of an outcome.
use Rattle.std.specs.Prelude.{ℕ, List, [], ◌∷◌, ◌++◌, codes}
use Rattle.rd_value.specs.declared.value.FileValue.{FileValue}
use Rattle.rd_value.specs.declared.value.Datum.{Datum}
use Rattle.rd_value.specs.declared.failure.Failure.{Failure}
use Rattle.rd_value.specs.Class.{name}
use Rattle.rd_value.specs.Repr.{quoted, repr}

-- every line ends with a line feed
abbrev pub line : List ℕ → List ℕ
line text = text ++ 10 ∷ []

-- the task in which an error was raised, where there is one
abbrev pub whence : List ℕ → List ℕ
whence [] = codes "error: "
whence (b ∷ bs) = codes "error in " ++ (b ∷ bs) ++ codes ": "

abbrev pub failure_line : Failure → List ℕ
failure_line f = line (whence f.origin ++ name f.class ++ codes ": " ++ quoted f.text)

abbrev pub value_line : {F : Type 0} → (F → FileValue) → Datum F → List ℕ
value_line file v = line (repr file v)
