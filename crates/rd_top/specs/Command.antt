-- The words of a command line.
use Rattle.std.specs.Prelude.{◌≡◌, ◌≢◌, ℕ, ◌<◌, ◌⊎◌, ◌==◌, Bool, true, List, [], ◌∷◌, length, map, codes}
use Rattle.std.specs.List.{AllPairs, AllZip, position_or_len, before_first, after_first}
use Rattle.rd_base.specs.Path.{is_path}
use Rattle.rd_value.specs.declared.value.FileValue.{FileValue}
use Rattle.rd_value.specs.declared.value.Datum.{Datum}
use Rattle.rd_value.specs.declared.value.Datum.TheVariants as value
use Rattle.rd_value.specs.Limits.{is_within}
use Rattle.rd_parse.specs.Literals.{Spells}
use Rattle.rd_names.specs.Spelling.{is_name}

-- A word that is no option: a dash by itself, or what doesn't begin with one.
abbrev pub IsOperand : List ℕ → Type 0
IsOperand word = (word ≡ codes "-") ⊎ ((rest : List ℕ) → word ≢ 45 ∷ rest)

abbrev pub is_equals : ℕ → Bool
is_equals b = b == 61

-- a text means the value that it spells, and else itself
abbrev pub Means : List ℕ → Datum FileValue → Type 0
Means text v = Spells text v ⊎ (((w : Datum FileValue) → Spells text w → ⊥) × (v ≡ value.Text text))

-- an argument: a name and its value
abbrev pub Argument : Type 0
Argument = List ℕ × Datum FileValue

-- The word gives this argument: its first `=` parts a name from the text that means the value, which is within its limits.
pub record IsArgument (word : List ℕ) (a : Argument) : Type 0 where
  pub has : position_or_len is_equals word < length word
  pub named : is_name (before_first is_equals word) ≡ true
  pub name : a.0 ≡ before_first is_equals word
  pub means : Means (after_first is_equals word) a.1
  pub within : is_within (λ f. f) a.1 ≡ true

abbrev pub names_of : List Argument → List (List ℕ)
names_of arguments = map (λ a. a.0) arguments

-- the words give these arguments, each name once
abbrev pub AreArguments : List (List ℕ) → List Argument → Type 0
AreArguments words arguments = AllZip IsArgument words arguments × AllPairs ◌≢◌ (names_of arguments)

-- The words ask for a run of this task in this file, with these arguments.
pub record IsRun (words : List (List ℕ)) (file task : List ℕ) (arguments : List Argument) : Type 0 where
  pub more : List (List ℕ)
  pub words_are : words ≡ codes "run" ∷ file ∷ task ∷ more
  pub file_is : IsOperand file
  pub task_is : IsOperand task
  pub lawful : is_path file ≡ true
  pub named : task ≢ []
  pub given : AreArguments more arguments
