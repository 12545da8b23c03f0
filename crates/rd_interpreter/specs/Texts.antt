-- What the methods of a text do, on its bytes.
use Rattle.std.specs.Prelude.{ℕ, zero, suc, ◌+◌, ◌*◌, ◌-◌, ◌==◌, nat_le, ℤ, pos, neg_ℤ, Bool, true, false, ◌&&◌, ◌||◌, List, [], ◌∷◌, ◌++◌, length, reverse, codes, if◌then◌else◌, Option, None, Some, Result, Ok, Err}
use Rattle.std.specs.Option.{option_map}
use Rattle.rd_value.specs.declared.class.Class.TheVariants.{ValueError, IndexError}
use Rattle.rd_value.specs.declared.value.ErrorValue.{ErrorValue}
use Rattle.rd_interpreter.specs.declared.template.Mark.{Mark}
use Rattle.rd_interpreter.specs.declared.template.Mark.TheVariants as mark

-- space, tab, line feed, carriage return, and the characters 11 and 12
abbrev pub is_space : ℕ → Bool
is_space b = (b == 32) || (nat_le 9 b && nat_le b 13)

-- ---- whitespace

-- without the bytes in front that pass a test
abbrev pub skipped : (ℕ → Bool) → List ℕ → List ℕ
skipped test [] = []
skipped test (b ∷ bs) = if test b then skipped test bs else b ∷ bs

-- without whitespace at both ends
abbrev pub stripped : List ℕ → List ℕ
stripped t = reverse (skipped is_space (reverse (skipped is_space t)))

-- a word that isn't empty
abbrev pub with_word : List ℕ → List (List ℕ) → List (List ℕ)
with_word [] words = words
with_word (b ∷ bs) words = (b ∷ bs) ∷ words

-- the words of a text, the first of which was begun
abbrev pub words_from : List ℕ → List ℕ → List (List ℕ)
words_from word [] = with_word word []
words_from word (b ∷ bs) = if is_space b then with_word word (words_from [] bs) else words_from (word ++ b ∷ []) bs

-- the words between runs of whitespace
abbrev pub words : List ℕ → List (List ℕ)
words t = words_from [] t

-- ---- texts in texts

-- a text begins with another
abbrev pub begins : List ℕ → List ℕ → Bool
begins [] t = true
begins (c ∷ cs) [] = false
begins (c ∷ cs) (b ∷ bs) = (c == b) && begins cs bs

-- a text ends with another
abbrev pub ends : List ℕ → List ℕ → Bool
ends s t = begins (reverse s) (reverse t)

-- a text stands in another
abbrev pub occurs : List ℕ → List ℕ → Bool
occurs s [] = begins s []
occurs s (b ∷ bs) = begins s (b ∷ bs) || occurs s bs

-- The pieces between a text that isn't empty. So many bytes are left of where it stood last, and a piece was begun.
abbrev pub pieces_from : List ℕ → ℕ → List ℕ → List ℕ → List (List ℕ)
pieces_from s skip piece [] = piece ∷ []
pieces_from s (suc skip) piece (b ∷ bs) = pieces_from s skip piece bs
pieces_from s zero piece (b ∷ bs) = if begins s (b ∷ bs) then piece ∷ pieces_from s (length s - 1) [] bs else pieces_from s zero (piece ++ b ∷ []) bs

-- the pieces of a text between another, from the left
abbrev pub pieces : List ℕ → List ℕ → List (List ℕ)
pieces s t = pieces_from s 0 [] t

-- each text behind a separator
abbrev pub behind_each : List ℕ → List (List ℕ) → List ℕ
behind_each separator [] = []
behind_each separator (t ∷ ts) = separator ++ t ++ behind_each separator ts

-- texts with a separator between them
abbrev pub joined : List ℕ → List (List ℕ) → List ℕ
joined separator [] = []
joined separator (t ∷ ts) = t ++ behind_each separator ts

-- a text with another in the place of each that stands in it
abbrev pub replaced : List ℕ → List ℕ → List ℕ → List ℕ
replaced old new t = joined new (pieces old t)

-- ---- templates

abbrev pub bad_format : ErrorValue
bad_format = record { class = ValueError; text = codes "bad format" }

abbrev pub too_few : ErrorValue
too_few = record { class = IndexError; text = codes "format" }

-- the brace that stands before
pub data Brace : Type 0 where
  Neither : Brace
  Left : Brace
  Right : Brace

abbrev pub is_brace : ℕ → Bool
is_brace b = (b == 123) || (b == 125)

-- what a brace and the byte behind it stand for
abbrev pub mark_of : ℕ → Option ℕ → Mark
mark_of first None = mark.Bad
mark_of first (Some second) =
    if first == 123 then (if second == 123 then mark.Left else if second == 125 then mark.Place else mark.Bad)
    else if (first == 125) && (second == 125) then mark.Right
    else mark.Bad

-- behind some bytes
abbrev pub in_front : List ℕ → Result (List ℕ) ErrorValue → Result (List ℕ) ErrorValue
in_front t (Ok rest) = Ok (t ++ rest)
in_front t (Err e) = Err e

-- the next argument
abbrev pub placed : List (List ℕ) → (List (List ℕ) → Result (List ℕ) ErrorValue) → Result (List ℕ) ErrorValue
placed [] rest = Err too_few
placed (t ∷ ts) rest = in_front t (rest ts)

-- a template with the texts of arguments, behind a brace or none
abbrev pub filled_from : Brace → List ℕ → List (List ℕ) → Result (List ℕ) ErrorValue
filled_from Neither [] ts = Ok []
filled_from Left [] ts = Err bad_format
filled_from Right [] ts = Err bad_format
filled_from Neither (b ∷ bs) ts = if b == 123 then filled_from Left bs ts else if b == 125 then filled_from Right bs ts else in_front (b ∷ []) (filled_from Neither bs ts)
filled_from Left (b ∷ bs) ts = if b == 123 then in_front (b ∷ []) (filled_from Neither bs ts) else if b == 125 then placed ts (filled_from Neither bs) else Err bad_format
filled_from Right (b ∷ bs) ts = if b == 125 then in_front (b ∷ []) (filled_from Neither bs ts) else Err bad_format

-- a template with the texts of arguments
abbrev pub filled : List ℕ → List (List ℕ) → Result (List ℕ) ErrorValue
filled t ts = filled_from Neither t ts

-- ---- whole numbers

-- a digit to base 10
abbrev pub is_digit : ℕ → Bool
is_digit b = nat_le 48 b && nat_le b 57

-- a number with more digits behind it
abbrev pub digits_from : ℕ → List ℕ → Option ℕ
digits_from n [] = Some n
digits_from n (b ∷ bs) = if is_digit b then digits_from (10 * n + (b - 48)) bs else None

-- one digit or more
abbrev pub digits : List ℕ → Option ℕ
digits [] = None
digits (b ∷ bs) = digits_from 0 (b ∷ bs)

-- a number below zero
abbrev pub below_zero : ℕ → ℤ
below_zero n = neg_ℤ (pos n)

-- a sign and digits
abbrev pub signed : List ℕ → Option ℤ
signed [] = None
signed (b ∷ bs) = if b == 43 then option_map pos (digits bs) else if b == 45 then option_map below_zero (digits bs) else option_map pos (digits (b ∷ bs))

-- the whole number that a text is
abbrev pub whole_number : List ℕ → Option ℤ
whole_number t = signed (stripped t)
