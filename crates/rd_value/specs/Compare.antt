-- How two values stand to each other, as the language's `==` and `<` have it.
use Rattle.std.specs.Prelude.{ℕ, ℤ, pos, Bool, true, false, ◌&&◌, ◌||◌, ◌==◌, List, [], ◌∷◌, length, Option, None, Some, if◌then◌else◌}
use Rattle.std.specs.Str.{bytes_eq}
use Rattle.std.specs.declared.cmp.Ordering.{Ordering}
use Rattle.std.specs.declared.cmp.Ordering.TheVariants.{Equal}
use Rattle.std.specs.Ordering.{nat_cmp, int_cmp, is_eq, is_some_and}
use Rattle.std.specs.Cmp.Lexicographic.{slice_cmp, slice_partial_cmp}
use Rattle.rd_value.specs.Class.{name}
use Rattle.rd_value.specs.declared.value.ErrorValue.{ErrorValue}
use Rattle.rd_value.specs.declared.value.FileValue.{FileValue}
use Rattle.rd_value.specs.declared.value.Datum.{Datum, out-Datum}
use Rattle.rd_value.specs.declared.value.Datum.TheOpen.{Datum-F}
use Rattle.rd_value.specs.declared.value.Datum.TheFolds.{fold-Datum}

-- a Bool as a number
abbrev pub number_of_bool : Bool → ℤ
number_of_bool b = if b then pos 1 else pos 0

-- what an operation takes as an Int
abbrev pub number_at : {F X : Type 0} → Datum-F F X → Option ℤ
number_at (Datum-F.Bool b) = Some (number_of_bool b)
number_at (Datum-F.Int n) = Some n
number_at _ = None

-- the order of a number and what may be one
abbrev pub number_order : ℤ → Option ℤ → Option Ordering
number_order m None = None
number_order m (Some n) = Some (int_cmp m n)

-- two values without an order, which may be equal
abbrev pub equal_if : Bool → Option Ordering
equal_if true = Some Equal
equal_if false = None

-- two files with the same path and digest
abbrev pub same_file : FileValue → FileValue → Bool
same_file f g = bytes_eq f.path g.path && bytes_eq f.digest.0 g.digest.0

-- two errors with the same class and text
abbrev pub same_error : ErrorValue → ErrorValue → Bool
same_error d e = bytes_eq (name d.class) (name e.class) && bytes_eq d.text e.text

-- what compares one value with others
abbrev pub Test : Type 0 → Type 0
Test V = V → Option Ordering

-- the test finds the value equal
abbrev pub finds : {V : Type 0} → Test V → V → Bool
finds test v = is_some_and is_eq (test v)

-- some pair has an equal key and an equal value
abbrev pub finds_pair : {V : Type 0} → Test V × Test V → List (V × V) → Bool
finds_pair test [] = false
finds_pair test (q ∷ qs) = (finds test.0 q.0 && finds test.1 q.1) || finds_pair test qs

-- each pair is found
abbrev pub finds_pairs : {V : Type 0} → List (Test V × Test V) → List (V × V) → Bool
finds_pairs [] qs = true
finds_pairs (test ∷ tests) qs = finds_pair test qs && finds_pairs tests qs

module _ {F : Type 0} (file : F → FileValue) where
  -- one layer of a value, its parts given as tests, against one layer of another
  abbrev pub compared_at : Datum-F F (Test (Datum F)) → Datum-F F (Datum F) → Option Ordering
  compared_at Datum-F.Nothing Datum-F.Nothing = Some Equal
  compared_at (Datum-F.Bool b) y = number_order (number_of_bool b) (number_at y)
  compared_at (Datum-F.Int n) y = number_order n (number_at y)
  compared_at (Datum-F.Text s) (Datum-F.Text t) = Some (slice_cmp nat_cmp s t)
  compared_at (Datum-F.List tests) (Datum-F.List ys) = slice_partial_cmp (λ test y. test y) tests ys
  compared_at (Datum-F.Dict tests) (Datum-F.Dict qs) = equal_if ((length tests == length qs) && finds_pairs tests qs)
  compared_at (Datum-F.File f) (Datum-F.File g) = equal_if (same_file (file f) (file g))
  compared_at (Datum-F.Error d) (Datum-F.Error e) = equal_if (same_error d e)
  compared_at _ _ = None

  -- Equal where two values are equal, else their order, where they have one; lists have that of their first unequal items
  abbrev pub compared : Datum F → Datum F → Option Ordering
  compared = fold-Datum F (Test (Datum F)) (λ x w. compared_at x (out-Datum F w))

  -- `==`
  abbrev pub equal : Datum F → Datum F → Bool
  equal a b = finds (compared a) b
