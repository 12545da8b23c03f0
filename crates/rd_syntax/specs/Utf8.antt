-- UTF-8 byte by byte, by the Unicode standard's table of well-formed sequences.
use Rattle.std.specs.Prelude.{◌≡◌, ℕ, ◌==◌, Bool, true, if◌then◌else◌, List, [], ◌∷◌, Option, Some, None}
use Rattle.rd_syntax.specs.Bytes.{between}
use Rattle.rd_syntax.specs.declared.utf8.Tail.{Tail}
use Rattle.rd_syntax.specs.declared.utf8.Tail.TheVariants as t

-- what comes behind the first byte of a character past ASCII
unfoldable pub lead_of : ℕ → Option Tail
lead_of b =
    if between 0xC2 0xDF b then Some t.One else
    if b == 0xE0 then Some t.LongTwo else
    if b == 0xED then Some t.NoSurrogate else
    if between 0xE1 0xEF b then Some t.Two else
    if b == 0xF0 then Some t.LongThree else
    if between 0xF1 0xF3 b then Some t.Three else
    if b == 0xF4 then Some t.LastThree else None

-- this byte may come next
unfoldable pub follows : Tail → ℕ → Bool
follows t.LongTwo b = between 0xA0 0xBF b
follows t.NoSurrogate b = between 0x80 0x9F b
follows t.LongThree b = between 0x90 0xBF b
follows t.LastThree b = between 0x80 0x8F b
follows _ b = between 0x80 0xBF b

-- what comes behind that byte
abbrev pub rest_of : Tail → Option Tail
rest_of t.One = None
rest_of t.Two = Some t.One
rest_of t.LongTwo = Some t.One
rest_of t.NoSurrogate = Some t.One
rest_of t.Three = Some t.Two
rest_of t.LongThree = Some t.Two
rest_of t.LastThree = Some t.Two

-- the bytes end a character of which so much is still to come
abbrev pub Tails : Option Tail → List ℕ → Type 0
Tails None [] = Unit {0}
Tails None (b ∷ more) = ⊥
Tails (Some t) [] = ⊥
Tails (Some t) (b ∷ more) = (follows t b ≡ true) × Tails (rest_of t) more

-- the bytes are a character past ASCII
abbrev pub IsWide : ℕ → List ℕ → Type 0
IsWide b more = (t : Tail) × (lead_of b ≡ Some t) × Tails (Some t) more
