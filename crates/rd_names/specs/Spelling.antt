-- How names are spelled.
use Rattle.std.specs.Prelude.{ℕ, Bool, false, not, ◌&&◌, ◌||◌, ◌==◌, List, [], ◌∷◌, nat_le}
use Rattle.std.specs.List.{list_all, slice_split}
use Rattle.rd_syntax.specs.Words.{is_reserved}

-- an ASCII letter or `_`
abbrev pub begins_name : ℕ → Bool
begins_name b = (nat_le 97 b && nat_le b 122) || ((nat_le 65 b && nat_le b 90) || (b == 95))

-- one of these, or a digit
abbrev pub continues_name : ℕ → Bool
continues_name b = begins_name b || (nat_le 48 b && nat_le b 57)

-- it begins like a name
abbrev pub has_start : List ℕ → Bool
has_start [] = false
has_start (b ∷ bs) = begins_name b

-- a name: no reserved word
abbrev pub is_name : List ℕ → Bool
is_name text = has_start text && (list_all continues_name text && not (is_reserved text))

-- names joined by dots: what stands between the dots are names
abbrev pub is_dotted : List ℕ → Bool
is_dotted text = list_all is_name (slice_split (λ b. b == 46) text)
