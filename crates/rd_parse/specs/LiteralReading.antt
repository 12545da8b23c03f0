-- The readers of literal values, in the steps in which the functions of the parser take them.
use Rattle.std.specs.Prelude.{pos, neg_ℤ, ℕ, zero, suc, List, [], ◌∷◌, Bool, true, false, ◌||◌}
use Rattle.rd_syntax.specs.declared.token.Token.{Token}
use Rattle.rd_value.specs.declared.value.Datum.TheVariants as value
use Rattle.rd_parse.specs.declared.terminal.Terminal.TheVariants as w
use Rattle.rd_parse.specs.Reader.{Reader, hits, ◌>>=◌, pure, read_one, read_either, read_opening, read_below, read_more, read_tail, too_deep}
use Rattle.rd_parse.specs.Such.{read_such}
use Rattle.rd_parse.specs.Terminal.{is, among, greatest, text_of, number_of}
use Rattle.rd_parse.specs.Expressions.{constant_of}
use Rattle.rd_parse.specs.Reading.{read_texts}
use Rattle.rd_parse.specs.Literals.{Literal, Pair, new_number, new_text, number_key_of, negative_key_of, with_key, begins_literal, begins_plain, begins_key}

unfoldable pub read_text : Reader Token Literal
read_text = do t ← read_texts; pure (value.Text t)

unfoldable pub read_number : Reader Token Literal
read_number = do z ← read_one number_of; pure (value.Int z)

unfoldable pub read_negative : ℕ → Reader Token Literal
read_negative n = do u ← read_opening (is w.Minus) n; z ← read_one number_of; pure (value.Int (neg_ℤ z))

unfoldable pub read_literal : ℕ → Reader Token Literal
read_literal n = read_either (hits (is w.Minus)) (read_negative n) (read_either (hits (is w.Int)) read_number (read_either (hits text_of) read_text (read_one constant_of)))

-- ---- keys

-- some number up to this one is none of the keys
abbrev pub any_new : (ℕ → Bool) → ℕ → Bool
any_new new zero = new 0
any_new new (suc m) = new (suc m) || any_new new m

-- Not all numbers are keys. (No source is that long.)
unfoldable pub has_number : List Literal → Bool
has_number keys = any_new (λ m. new_number keys (pos m)) greatest

unfoldable pub has_negative : List Literal → Bool
has_negative keys = any_new (λ m. new_number keys (neg_ℤ (pos m))) greatest

module _ (keys : List Literal) where
  unfoldable pub read_number_key : Reader Token Literal
  read_number_key = do z ← read_one (number_key_of keys); pure (value.Int z)

  unfoldable pub read_negative_key : ℕ → Reader Token Literal
  read_negative_key n = do u ← read_opening (is w.Minus) n; z ← read_one (negative_key_of keys); pure (value.Int (neg_ℤ z))

  unfoldable pub read_text_key : Reader Token Literal
  read_text_key = do t ← read_such (new_text keys) read_texts; pure (value.Text t)

  -- as long as there are such numbers
  abbrev pub read_key_where : Bool → Bool → ℕ → Reader Token Literal
  read_key_where true true n = read_either (hits (is w.Int)) read_number_key (read_either (hits (is w.Minus)) (read_negative_key n) read_text_key)
  read_key_where true false n = read_either (hits (is w.Int)) read_number_key read_text_key
  read_key_where false true n = read_either (hits (is w.Minus)) (read_negative_key n) read_text_key
  read_key_where false false n = read_text_key

  unfoldable pub read_key : ℕ → Reader Token Literal
  read_key n = read_key_where (has_number keys) (has_negative keys) n

-- ---- deep literals

module _ (n : ℕ) (inside : Reader Token Literal) where
  unfoldable pub read_more_items : Literal → Reader Token (List Literal)
  read_more_items first = do more ← read_more (is w.Comma) (among begins_literal) inside; pure (first ∷ more)

  unfoldable pub read_items : Reader Token (List Literal)
  read_items = read_either (among begins_literal) (do first ← inside; read_more_items first) (pure [])

  unfoldable pub read_square : Reader Token Literal
  read_square = do u ← read_opening (is w.LeftSquare) n; all ← read_items; v ← read_one (is w.RightSquare); pure (value.List all)

  unfoldable pub read_pair : List Literal → Reader Token Pair
  read_pair keys = do k ← read_below (read_key keys) n; u ← read_one (is w.Colon); v ← inside; pure (k, v)

  abbrev pub read_more_pairs : List Literal → Reader Token (List Pair)
  read_more_pairs keys = read_tail (is w.Comma) (λ s. among begins_key) read_pair with_key keys

  unfoldable pub read_pairs_from : List Literal → Pair → Reader Token (List Pair)
  read_pairs_from keys first = do more ← read_more_pairs keys; pure (first ∷ more)

  unfoldable pub read_pairs : Reader Token (List Pair)
  read_pairs = read_either (among begins_key) (do first ← read_pair []; read_pairs_from (with_key [] first) first) (pure [])

  unfoldable pub read_curly : Reader Token Literal
  read_curly = do u ← read_opening (is w.LeftCurly) n; all ← read_pairs; v ← read_one (is w.RightCurly); pure (value.Dict all)

  unfoldable pub read_deep : Reader Token Literal
  read_deep = read_either (among begins_plain) (read_literal n) (read_either (hits (is w.LeftSquare)) read_square read_curly)

unfoldable pub read_inner_literal : ℕ → Reader Token Literal
read_inner_literal zero = too_deep
read_inner_literal (suc n) = read_deep n (read_inner_literal n)

abbrev pub read_deep_literal : ℕ → Reader Token Literal
read_deep_literal n = read_deep n (read_inner_literal n)

unfoldable pub read_literal_text : ℕ → Reader Token Literal
read_literal_text n = do v ← read_deep_literal n; u ← read_one (is w.Newline); x ← read_one (is w.End); pure v
