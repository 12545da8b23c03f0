-- The form of items, apart from what they mean: of what stands in a blob, and of a task's structure.
use Rattle.std.specs.Prelude.{◌≡◌, ℕ, ◌+◌, ◌*◌, ◌-◌, Bool, true, false, not, ◌==◌, List, [], ◌∷◌, ◌++◌, length, codes, IsUtf8}
use Rattle.std.specs.List.{list_all}
use Rattle.rd_bencode.specs.Blob.{blob}
use Rattle.rd_bencode.specs.Reader.{is_digit}
use Rattle.rd_bencode.specs.declared.kind.Kind.{Kind}
use Rattle.rd_bencode.specs.declared.form.Spelling.{Spelling}
use Rattle.rd_bencode.specs.declared.form.Spelling.TheVariants.{Any, One}

-- the number of digits, behind a number
abbrev pub number_from : ℕ → List ℕ → ℕ
number_from n [] = n
number_from n (d ∷ ds) = number_from (10 * n + (d - 48)) ds

abbrev pub number : List ℕ → ℕ
number ds = number_from 0 ds

-- One digit or more. Where a number has one spelling, no zero stands in front of another digit.
abbrev pub is_spelled : Spelling → List ℕ → Bool
is_spelled s [] = false
is_spelled Any (d ∷ ds) = true
is_spelled One (d ∷ []) = true
is_spelled One (d ∷ e ∷ ds) = not (d == 48)

-- The same behind a minus. Where a number has one spelling, 0 has none there.
abbrev pub is_spelled_below : Spelling → List ℕ → Bool
is_spelled_below s [] = false
is_spelled_below Any (d ∷ ds) = true
is_spelled_below One (d ∷ ds) = not (d == 48)

abbrev pub IsNumber : Spelling → List ℕ → Type 0
IsNumber s ds = (list_all is_digit ds ≡ true) × (is_spelled s ds ≡ true)

abbrev pub IsBelow : Spelling → List ℕ → Type 0
IsBelow s ds = (list_all is_digit ds ≡ true) × (is_spelled_below s ds ≡ true)

mutual
  -- an integer, a string with its length in front, or a list of items
  pub data IsItem (s : Spelling) : List ℕ → Type 0 where
    integer : (ds : List ℕ) → IsNumber s ds → IsItem s (codes "i" ++ ds ++ codes "e")
    negative : (ds : List ℕ) → IsBelow s ds → IsItem s (codes "i-" ++ ds ++ codes "e")
    string : (ds text : List ℕ) → IsNumber s ds → number ds ≡ length text → IsItem s (ds ++ codes ":" ++ text)
    list : (parts : List ℕ) → AreItems s parts → IsItem s (codes "l" ++ parts ++ codes "e")

  pub data AreItems (s : Spelling) : List ℕ → Type 0 where
    none : AreItems s []
    more : (item parts : List ℕ) → IsItem s item → AreItems s parts → AreItems s (item ++ parts)

-- a blob of this kind, whose structure is one item
abbrev pub IsBlob : List ℕ → Kind → List ℕ → Type 0
IsBlob bs k structure = (bs ≡ blob k structure) × IsItem Any structure

-- the begin of a list whose first part is a string, which is this name in UTF-8
abbrev pub IsNamed : List ℕ → List ℕ → Type 0
IsNamed bs name = (ds rest : List ℕ) × IsNumber Any ds × (number ds ≡ length name) × IsUtf8 name × (bs ≡ codes "l" ++ ds ++ codes ":" ++ name ++ rest)

-- one item that is a list with a name, and in which each number has its one spelling
abbrev pub IsTaskForm : List ℕ → Type 0
IsTaskForm bs = IsItem One bs × ((name : List ℕ) × IsNamed bs name)
