-- How values are read. A number says how many levels may still be open.
use Rattle.std.specs.Prelude.{ℕ, zero, suc, ℤ, Bool, false, not, ◌==◌, ◌||◌, if◌then◌else◌, List, [], ◌∷◌, ◌++◌, length, Ok}
use Rattle.std.specs.Ordering.{int_eq}
use Rattle.std.specs.Str.{bytes_eq}
use Rattle.rd_value.specs.declared.value.FileValue.{FileValue}
use Rattle.rd_value.specs.declared.value.Datum.{Datum}
use Rattle.rd_value.specs.declared.value.Datum.TheVariants as value
use Rattle.rd_bencode.specs.Reader.{Reader, ◌>>=◌, pure, refuse, refuse_last, mean, check, begins_item, read_string, read_integer, read_letter, read_open, read_close, read_many}
use Rattle.rd_bencode.specs.Meaning.{text_of, path_of, digest_of, class_of, flag_of}

abbrev pub Value : Type 0
Value = Datum FileValue

abbrev pub Pair : Type 0
Pair = Value × Value

-- ---- texts, files, errors, flags

unfoldable pub read_text : Reader (List ℕ)
read_text = do bs ← read_string; mean (text_of bs)

unfoldable pub read_file : Reader Value
read_file = do p ← read_string; path ← mean (path_of p); d ← read_string; digest ← mean (digest_of d); pure (value.File (record { path = path; digest = digest }))

unfoldable pub read_error : Reader Value
read_error = do c ← read_string; class ← mean (class_of c); text ← read_text; pure (value.Error (record { class = class; text = text }))

unfoldable pub read_flag : Reader Value
read_flag = do z ← read_integer; b ← mean (flag_of z); pure (value.Bool b)

-- an integer or a text
unfoldable pub read_number : Reader Value
read_number = do z ← read_integer; pure (value.Int z)

unfoldable pub read_text_value : Reader Value
read_text_value = do t ← read_text; pure (value.Text t)

abbrev pub begins_with : ℕ → List ℕ → Bool
begins_with b [] = false
begins_with b (c ∷ cs) = c == b

unfoldable pub read_plain : Reader Value
read_plain = λ s. if begins_with 105 s.0 then read_number s else read_text_value s

-- ---- keys, of which none is there twice

abbrev pub is_number : ℤ → Value → Bool
is_number z (value.Int y) = int_eq z y
is_number z _ = false

abbrev pub is_text : List ℕ → Value → Bool
is_text t (value.Text u) = bytes_eq t u
is_text t _ = false

abbrev pub any_of : (Value → Bool) → List Value → Bool
any_of s [] = false
any_of s (k ∷ ks) = s k || any_of s ks

abbrev pub new_number : List Value → ℤ → Bool
new_number keys z = not (any_of (is_number z) keys)

abbrev pub new_text : List Value → List ℕ → Bool
new_text keys t = not (any_of (is_text t) keys)

unfoldable pub read_number_key : List Value → Reader Value
read_number_key keys = do z ← read_integer; u ← check (new_number keys z); pure (value.Int z)

unfoldable pub read_text_key : List Value → Reader Value
read_text_key keys = do t ← read_text; u ← check (new_text keys t); pure (value.Text t)

unfoldable pub read_key : List Value → ℕ → Reader Value
read_key keys zero = refuse
read_key keys (suc n) = λ s. if begins_with 105 s.0 then read_number_key keys s else read_text_key keys s

-- ---- lists and dicts, whose parts are read one level further in

module _ {A : Type 0} (n : ℕ) (inside : Reader A) where
  unfoldable pub read_pair : List Value → Reader (Value × A)
  read_pair keys = do k ← read_key keys n; v ← inside; pure (k, v)

  abbrev pub read_pairs_by : ℕ → List Value → Reader (List (Value × A))
  read_pairs_by zero keys = pure []
  read_pairs_by (suc m) keys = λ s. if begins_item s.0 then (read_pair keys >>= λ p. read_pairs_by m (keys ++ p.0 ∷ []) >>= λ more. pure (p ∷ more)) s else Ok ([], s)

  abbrev pub read_pairs : Reader (List (Value × A))
  read_pairs = λ s. read_pairs_by (length s.0) [] s

module _ (n : ℕ) (inside : Reader Value) where
  unfoldable pub read_list : Reader Value
  read_list = do xs ← read_many inside; pure (value.List xs)

  unfoldable pub read_dict : Reader Value
  read_dict = do ps ← read_pairs n inside; pure (value.Dict ps)

  -- what stands behind the letter of a kind
  unfoldable pub read_kind : ℕ → Reader Value
  read_kind c = if c == 110 then pure value.Nothing else if c == 98 then read_flag else if c == 108 then read_list else if c == 100 then read_dict else if c == 102 then read_file else if c == 101 then read_error else refuse_last

  unfoldable pub read_tagged : Reader Value
  read_tagged = do u ← read_open; c ← read_letter; v ← read_kind c; w ← read_close; pure v

  unfoldable pub read_any : Reader Value
  read_any = λ s. if begins_with 108 s.0 then read_tagged s else read_plain s

unfoldable pub read_value : ℕ → Reader Value
read_value zero = refuse
read_value (suc n) = read_any n (read_value n)
