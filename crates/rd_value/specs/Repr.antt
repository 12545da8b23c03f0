-- The printed form of a value.
use Rattle.std.specs.Prelude.{ℕ, ◌+◌, ◌/◌, ◌%◌, ◌==◌, nat_lt, ◌&&◌, ◌||◌, not, List, [], ◌∷◌, ◌++◌, map, flat_map, codes, encode_utf8, if◌then◌else◌}
use Rattle.std.specs.Fmt.{signed_decimal}
use Rattle.std.specs.List.{list_any}
use Rattle.std.specs.Str.{chars}
use Rattle.rd_value.specs.Class.{name}
use Rattle.rd_value.specs.declared.value.ErrorValue.{ErrorValue}
use Rattle.rd_value.specs.declared.value.FileValue.{FileValue}
use Rattle.rd_value.specs.declared.value.Datum.{Datum}
use Rattle.rd_value.specs.declared.value.Datum.TheOpen.{Datum-F}
use Rattle.rd_value.specs.declared.value.Datum.TheFolds.{fold-Datum}

-- a digit to base 16, in lower case
abbrev pub hex_digit : ℕ → ℕ
hex_digit n = if nat_lt n 10 then 48 + n else 87 + n

-- two digits a byte
abbrev pub hex_digits : List ℕ → List ℕ
hex_digits [] = []
hex_digits (b ∷ bs) = hex_digit (b / 16) ∷ hex_digit (b % 16) ∷ hex_digits bs

-- a character between quotes
abbrev pub escaped : ℕ → ℕ → List ℕ
escaped quote c =
    if c == 92 then codes "\\\\"
    else if c == quote then 92 ∷ encode_utf8 quote
    else if c == 10 then codes "\\n"
    else if c == 13 then codes "\\r"
    else if c == 9 then codes "\\t"
    else if nat_lt c 32 || (c == 127) then codes "\\x" ++ encode_utf8 (hex_digit (c / 16)) ++ encode_utf8 (hex_digit (c % 16))
    else encode_utf8 c

-- the quote of a text: a double one where the text holds single ones and no double one
abbrev pub quote_of : List ℕ → ℕ
quote_of bs = if list_any (λ b. b == 39) bs && not (list_any (λ b. b == 34) bs) then 34 else 39

-- characters between quotes
abbrev pub escaped_all : ℕ → List ℕ → List ℕ
escaped_all quote cs = flat_map (escaped quote) cs

-- a text in quotes
abbrev pub quoted : List ℕ → List ℕ
quoted bs = encode_utf8 (quote_of bs) ++ escaped_all (quote_of bs) (chars bs) ++ encode_utf8 (quote_of bs)

-- each part behind a separator, which after the first is a comma
abbrev pub separated : List ℕ → List (List ℕ) → List ℕ
separated separator [] = []
separated separator (bs ∷ rest) = separator ++ bs ++ separated (codes ", ") rest

-- the parts with commas between them
abbrev pub with_commas : List (List ℕ) → List ℕ
with_commas parts = separated [] parts

-- a key and its value
abbrev pub pair_repr : List ℕ × List ℕ → List ℕ
pair_repr p = p.0 ++ codes ": " ++ p.1

-- a file: its path, and its digest in hexadecimal digits
abbrev pub file_repr : FileValue → List ℕ
file_repr f = codes "File(path=" ++ quoted f.path ++ codes ", hash=" ++ hex_digits f.digest.0 ++ codes ")"

-- an error: its class and its text
abbrev pub error_repr : ErrorValue → List ℕ
error_repr e = name e.class ++ codes "(" ++ quoted e.text ++ codes ")"

module _ {F : Type 0} (file : F → FileValue) where
  -- the printed form of a value, from those of its parts
  abbrev pub repr_at : Datum-F F (List ℕ) → List ℕ
  repr_at Datum-F.Nothing = codes "None"
  repr_at (Datum-F.Bool b) = if b then codes "True" else codes "False"
  repr_at (Datum-F.Int n) = signed_decimal n
  repr_at (Datum-F.Text t) = quoted t
  repr_at (Datum-F.List xs) = codes "[" ++ with_commas xs ++ codes "]"
  repr_at (Datum-F.Dict ps) = codes "{" ++ with_commas (map pair_repr ps) ++ codes "}"
  repr_at (Datum-F.File f) = file_repr (file f)
  repr_at (Datum-F.Error e) = error_repr e

  -- the printed form of a value
  abbrev pub repr : Datum F → List ℕ
  repr = fold-Datum F (List ℕ) repr_at
