-- What the language takes as true.
use Rattle.std.specs.Prelude.{ℤ, pos, zero, Bool, true, false, not, List, [], ◌∷◌}
use Rattle.rd_value.specs.declared.value.Datum.{Datum, out-Datum}
use Rattle.rd_value.specs.declared.value.Datum.TheOpen.{Datum-F}

-- a list without items
abbrev pub is_empty : {A : Type 0} → List A → Bool
is_empty [] = true
is_empty (x ∷ xs) = false

-- the number 0
abbrev pub is_zero : ℤ → Bool
is_zero (pos zero) = true
is_zero n = false

-- the truth of a value, from its outermost layer
abbrev pub truth_at : {F X : Type 0} → Datum-F F X → Bool
truth_at Datum-F.Nothing = false
truth_at (Datum-F.Bool b) = b
truth_at (Datum-F.Int n) = not (is_zero n)
truth_at (Datum-F.Text t) = not (is_empty t)
truth_at (Datum-F.List xs) = not (is_empty xs)
truth_at (Datum-F.Dict ps) = not (is_empty ps)
truth_at (Datum-F.File f) = true
truth_at (Datum-F.Error e) = true

-- the truth of a value
abbrev pub truth : {F : Type 0} → Datum F → Bool
truth {F} v = truth_at (out-Datum F v)
