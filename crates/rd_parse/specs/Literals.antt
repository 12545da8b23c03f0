-- The grammar of literal values. A number says how many levels may be open.
use Rattle.std.specs.Prelude.{◌≡◌, ℤ, neg_ℤ, ℕ, zero, suc, List, [], ◌∷◌, ◌++◌, Option, Some, None, Bool, true, false, not, ◌||◌, if◌then◌else◌}
use Rattle.std.specs.Ordering.{int_eq}
use Rattle.std.specs.Str.{bytes_eq}
use Rattle.rd_syntax.specs.declared.token.Token.{Token}
use Rattle.rd_value.specs.declared.value.FileValue.{FileValue}
use Rattle.rd_value.specs.declared.value.Datum.{Datum}
use Rattle.rd_value.specs.declared.value.Datum.TheVariants as value
use Rattle.rd_value.specs.Limits.{is_within}
use Rattle.rd_syntax.specs.Sources.{Lexes}
use Rattle.rd_parse.specs.declared.terminal.Terminal.{Terminal}
use Rattle.rd_parse.specs.declared.terminal.Terminal.TheVariants as w
use Rattle.rd_parse.specs.Form.{Form, ◌>>=◌, one, yields, either, never, opening, below, tail, more, IsText}
use Rattle.rd_parse.specs.Such.{such}
use Rattle.rd_parse.specs.Terminal.{is, number_of}
use Rattle.rd_parse.specs.Expressions.{texts, constant_of}

-- a value that stands in a source
abbrev pub Literal : Type 0
Literal = Datum FileValue

-- ---- plain literals

-- texts as a value
abbrev pub text : Form Token Literal
text = do t ← texts; yields (value.Text t)

-- INT
abbrev pub number : Form Token Literal
number = do z ← one number_of; yields (value.Int z)

-- `-` INT
abbrev pub negative : ℕ → Form Token Literal
negative n = do u ← opening (is w.Minus) n; z ← one number_of; yields (value.Int (neg_ℤ z))

-- negative | number | text | `True` | `False` | `None`
abbrev pub literal : ℕ → Form Token Literal
literal n = either (negative n) (either number (either text (one constant_of)))

-- ---- keys

abbrev pub is_number : ℤ → Literal → Bool
is_number z (value.Int y) = int_eq z y
is_number z _ = false

abbrev pub is_text : List ℕ → Literal → Bool
is_text t (value.Text u) = bytes_eq t u
is_text t _ = false

abbrev pub any_of : (Literal → Bool) → List Literal → Bool
any_of s [] = false
any_of s (k ∷ ks) = s k || any_of s ks

-- the number is no key so far
abbrev pub new_number : List Literal → ℤ → Bool
new_number keys z = not (any_of (is_number z) keys)

abbrev pub new_text : List Literal → List ℕ → Bool
new_text keys t = not (any_of (is_text t) keys)

abbrev pub only_if : {A : Type 0} → (A → Bool) → Option A → Option A
only_if ok None = None
only_if ok (Some a) = if ok a then Some a else None

-- a number that is no key so far
abbrev pub number_key_of : List Literal → Token → Option ℤ
number_key_of keys t = only_if (new_number keys) (number_of t)

-- a number whose negative is no key so far
abbrev pub negative_key_of : List Literal → Token → Option ℤ
negative_key_of keys t = only_if (λ z. new_number keys (neg_ℤ z)) (number_of t)

module _ (keys : List Literal) where
  -- INT
  abbrev pub number_key : Form Token Literal
  number_key = do z ← one (number_key_of keys); yields (value.Int z)

  -- `-` INT
  abbrev pub negative_key : ℕ → Form Token Literal
  negative_key n = do u ← opening (is w.Minus) n; z ← one (negative_key_of keys); yields (value.Int (neg_ℤ z))

  -- texts
  abbrev pub text_key : Form Token Literal
  text_key = do t ← such (new_text keys) texts; yields (value.Text t)

  -- number_key | negative_key | text_key, none of them a key so far
  abbrev pub key : ℕ → Form Token Literal
  key n = either number_key (either (negative_key n) text_key)

-- ---- deep literals

-- a key and its value
abbrev pub Pair : Type 0
Pair = Literal × Literal

abbrev pub with_key : List Literal → Pair → List Literal
with_key keys p = keys ++ p.0 ∷ []

-- the tokens that may begin a deep literal
abbrev pub begins_literal : Terminal → Bool
begins_literal w.Minus = true
begins_literal w.Int = true
begins_literal w.Text = true
begins_literal w.Nothing = true
begins_literal w.True = true
begins_literal w.False = true
begins_literal w.LeftSquare = true
begins_literal w.LeftCurly = true
begins_literal _ = false

-- the tokens that may begin a plain literal
abbrev pub begins_plain : Terminal → Bool
begins_plain w.Minus = true
begins_plain w.Int = true
begins_plain w.Text = true
begins_plain w.Nothing = true
begins_plain w.True = true
begins_plain w.False = true
begins_plain _ = false

-- the tokens that may begin a key
abbrev pub begins_key : Terminal → Bool
begins_key w.Minus = true
begins_key w.Int = true
begins_key w.Text = true
begins_key _ = false

module _ (n : ℕ) (inside : Form Token Literal) where
  -- what was read, then { `,` inside } [`,`]
  abbrev pub more_items : Literal → Form Token (List Literal)
  more_items first = do more ← more (is w.Comma) inside; yields (first ∷ more)

  -- inside more_items, or nothing
  abbrev pub items : Form Token (List Literal)
  items = either (do first ← inside; more_items first) (yields [])

  -- `[` items `]`
  abbrev pub square : Form Token Literal
  square = do u ← opening (is w.LeftSquare) n; all ← items; v ← one (is w.RightSquare); yields (value.List all)

  -- key `:` inside
  abbrev pub pair : List Literal → Form Token Pair
  pair keys = do k ← below (key keys) n; u ← one (is w.Colon); v ← inside; yields (k, v)

  -- { `,` pair } [`,`]
  abbrev pub more_pairs : List Literal → Form Token (List Pair)
  more_pairs keys = tail (is w.Comma) pair with_key keys

  -- what was read, then more_pairs
  abbrev pub pairs_from : List Literal → Pair → Form Token (List Pair)
  pairs_from keys first = do more ← more_pairs keys; yields (first ∷ more)

  -- pair pairs_from, or nothing
  abbrev pub pairs : Form Token (List Pair)
  pairs = either (do first ← pair []; pairs_from (with_key [] first) first) (yields [])

  -- `{` pairs `}`
  abbrev pub curly : Form Token Literal
  curly = do u ← opening (is w.LeftCurly) n; all ← pairs; v ← one (is w.RightCurly); yields (value.Dict all)

  -- literal | square | curly
  abbrev pub deep : Form Token Literal
  deep = either (literal n) (either square curly)

-- a deep literal one level further in
unfoldable pub inner_literal : ℕ → Form Token Literal
inner_literal zero = never
inner_literal (suc n) = deep n (inner_literal n)

unfoldable pub deep_literal : ℕ → Form Token Literal
deep_literal n = deep n (inner_literal n)

-- deep literal NEWLINE END
abbrev pub literal_text : ℕ → Form Token Literal
literal_text n = do v ← deep_literal n; u ← one (is w.Newline); x ← one (is w.End); yields v

-- the tokens spell the literal alone, and no more than 64 levels are open anywhere in it
unfoldable pub IsLiteral : List Token → Literal → Type 0
IsLiteral ts v = IsText literal_text 64 v ts

-- The text spells the value alone, and the value is within the limits of a value.
pub record Spells (text : List ℕ) (v : Literal) : Type 0 where
  pub tokens : List Token
  pub lexes : Lexes text tokens
  pub literal : IsLiteral tokens v
  pub within : is_within (λ f. f) v ≡ true
