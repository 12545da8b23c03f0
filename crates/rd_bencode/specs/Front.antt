-- What stands in front of bytes, and what is left behind it. How many lists are open is a number.
use Rattle.std.specs.Prelude.{◌≡◌, ℕ, zero, suc, ◌-◌, ◌==◌, if◌then◌else◌, List, [], ◌∷◌, ◌++◌, length, take, drop, Option, Some, None}
use Rattle.std.specs.Option.{option_map}
use Rattle.std.specs.Cmp.Lexicographic.{pointwise}
use Rattle.rd_value.specs.Canon.{string}
use Rattle.rd_bencode.specs.Blob.{kind_text}
use Rattle.rd_bencode.specs.Form.{IsItem, AreItems, number, is_spelled, is_spelled_below}
use Rattle.rd_bencode.specs.Meaning.{text_of}
use Rattle.rd_bencode.specs.Reader.{is_digit, opt_then, behind, cut}
use Rattle.rd_bencode.specs.declared.form.Spelling.{Spelling}
use Rattle.rd_bencode.specs.declared.form.Spelling.TheVariants.{Any}
use Rattle.rd_bencode.specs.declared.kind.Kind.{Kind}
use Rattle.rd_bencode.specs.declared.kind.Kind.TheVariants as kind

abbrev pub digits : List ℕ → List ℕ
digits [] = []
digits (b ∷ bs) = if is_digit b then b ∷ digits bs else []

abbrev pub behind_digits : List ℕ → List ℕ
behind_digits [] = []
behind_digits (b ∷ bs) = if is_digit b then behind_digits bs else b ∷ bs

-- the string in front, and what stands behind it
abbrev pub front_string : Spelling → List ℕ → Option (List ℕ × List ℕ)
front_string s bs = if is_spelled s (digits bs) then opt_then (behind (58 ∷ []) (behind_digits bs)) (λ r. cut (number (digits bs)) r) else None

-- what stands behind an integer, from its digits on
abbrev pub behind_plain : Spelling → List ℕ → Option (List ℕ)
behind_plain s bs = if is_spelled s (digits bs) then behind (101 ∷ []) (behind_digits bs) else None

abbrev pub behind_minus : Spelling → List ℕ → Option (List ℕ)
behind_minus s bs = if is_spelled_below s (digits bs) then behind (101 ∷ []) (behind_digits bs) else None

-- what stands behind an integer, from the byte behind its `i` on
abbrev pub behind_integer : Spelling → List ℕ → Option (List ℕ)
behind_integer s [] = None
behind_integer s (b ∷ bs) = if b == 45 then behind_minus s bs else behind_plain s (b ∷ bs)

-- what stands behind an integer or a string
abbrev pub behind_plain_item : Spelling → List ℕ → Option (List ℕ)
behind_plain_item s [] = None
behind_plain_item s (b ∷ bs) = if b == 105 then behind_integer s bs else option_map (λ p. p.1) (front_string s (b ∷ bs))

-- One step over the parts of open lists: a list begins or ends, or a part that is no list is passed.
abbrev pub step : Spelling → ℕ → List ℕ → Option (ℕ × List ℕ)
step s n [] = None
step s n (b ∷ bs) = if b == 108 then Some (suc n, bs) else if b == 101 then Some (n - 1, bs) else option_map (λ r. (n, r)) (behind_plain_item s (b ∷ bs))

-- an item, and this behind it
abbrev pub InFront : Spelling → List ℕ → List ℕ → Type 0
InFront s bs rest = (item : List ℕ) × IsItem s item × (bs ≡ item ++ rest)

-- the rest of so many open lists, and this behind them
abbrev pub Closes : Spelling → ℕ → List ℕ → List ℕ → Type 0
Closes s zero bs rest = bs ≡ rest
Closes s (suc n) bs rest = (parts mid : List ℕ) × AreItems s parts × (bs ≡ parts ++ (101 ∷ mid)) × Closes s n mid rest

-- ---- blobs and names

abbrev pub or_else : {A : Type 0} → Option A → Option A → Option A
or_else None o = o
or_else (Some a) o = Some a

-- the one of these kinds whose text stands in front as a string, and what stands behind it
abbrev pub kind_among : List Kind → List ℕ → Option (Kind × List ℕ)
kind_among [] bs = None
kind_among (k ∷ ks) bs = or_else (option_map (λ r. (k, r)) (behind (string (kind_text k)) bs)) (kind_among ks bs)

abbrev pub kinds : List Kind
kinds = kind.Task ∷ kind.Args ∷ kind.Value ∷ kind.Expr ∷ kind.Writes ∷ kind.Children ∷ kind.Footprint ∷ kind.Evaluation ∷ kind.Call ∷ kind.Execution ∷ []

unfoldable pub front_kind : List ℕ → Option (Kind × List ℕ)
front_kind bs = kind_among kinds bs

-- what stands before a text at the end
abbrev pub before : List ℕ → List ℕ → Option (List ℕ)
before text bs = if pointwise ◌==◌ (drop (length bs - length text) bs) text then Some (take (length bs - length text) bs) else None

-- a blob's kind, and what stands in it
abbrev pub framed : List ℕ → Option (Kind × List ℕ)
framed bs = opt_then (behind (108 ∷ []) bs) (λ r. opt_then (front_kind r) (λ p. option_map (λ s. (p.0, s)) (before (101 ∷ []) p.1)))

-- the text of the string in front of a list
abbrev pub front_name : List ℕ → Option (List ℕ)
front_name bs = opt_then (behind (108 ∷ []) bs) (λ r. opt_then (front_string Any r) (λ p. text_of p.0))
