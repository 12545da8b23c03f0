-- The canonical bytes of a proper value are read as it.
use Rattle.std.proofs.Common.{◌≡◌, ℕ, zero, suc, ◌+◌, ◌≤◌, ◌==◌, ℤ, pos, Bool, true, false, ◌||◌, cond, List, [], ◌∷◌, ◌++◌, length, map, decimal, Some, Ok, FitsSigned, refl, sym, ap, subst, ◌∙◌, append_assoc, arith, rules}
use Rattle.std.specs.Fmt.{signed_decimal}
use Rattle.std.specs.Int.{w64}
use Rattle.std.specs.Str.{IsUtf8}
use Rattle.std.proofs.lemmas.Bool.Decides.{nat_tests}
use Rattle.std.proofs.lemmas.Fmt.{decimal_digit}
use Rattle.std.proofs.lemmas.List.{length-append}
use Rattle.rd_base.specs.Path.{is_path}
use Rattle.rd_base.specs.declared.digest.Digest.{Digest}
use Rattle.rd_value.specs.declared.class.Class.{Class}
use Rattle.rd_value.specs.declared.class.Class.TheVariants as class
use Rattle.rd_value.specs.declared.value.FileValue.{FileValue}
use Rattle.rd_value.specs.declared.value.ErrorValue.{ErrorValue}
use Rattle.rd_value.specs.declared.value.Datum.TheVariants as value
use Rattle.rd_value.specs.Canon.{string, joined, keyed}
use Rattle.rd_value.specs.Class.{name}
use Rattle.rd_value.specs.Depth.{depth, greatest, greater}
use Rattle.rd_value.proofs.Ind.{Each, EachPair, datum_ind}
use Rattle.rd_value.proofs.Layers.{depth_list, depth_dict}
use Rattle.rd_bencode.specs.Reader as reader
use Rattle.rd_bencode.specs.Reader.{Place, Outcome, Reader, and_then, pure, mean, check, is_digit, is_first, begins_item, string_at, integer_at, read_string, read_integer, read_letter, read_open, read_close, read_many_by, read_many}
use Rattle.rd_bencode.specs.Meaning.{path_of, digest_of, class_of, flag_of}
use Rattle.rd_bencode.specs.Values.{Value, Pair, begins_with, read_text, read_file, read_error, read_flag, read_number, read_text_value, read_plain, read_number_key, read_text_key, read_key, read_pair, read_pairs_by, read_list, read_dict, read_kind, read_tagged, read_any, read_value}
use Rattle.rd_bencode.specs.Proper.{IsProper, AreNew, is_new}
use Rattle.rd_bencode.proofs.Layers.{canon_nothing, canon_bool, canon_int, canon_text, canon_list, canon_dict, canon_file, canon_error, depth_nothing, depth_bool, depth_int, depth_text, depth_file, depth_error}
use Rattle.rd_bencode.proofs.Meaning.{is_text, is_path_text}
use Rattle.rd_bencode.proofs.Proper.{int_fits, text_utf8, dict_new, file_proper, error_utf8, list_proper, dict_proper}
use Rattle.rd_bencode.proofs.Strings.{decimal_begins, string_only, integer_only}
use Rattle.rd_bencode.proofs.ValuesFound.{spelled}

-- read from these bytes, whatever was begun last, with these left
abbrev pub Reads : {A : Type 0} → Reader A → List ℕ → A → List ℕ → Type 0
Reads p bytes a k = (last : List ℕ) → (l : List ℕ) × (p (bytes, last) ≡ Ok (a, (k, l)))

abbrev pub most : ℕ
most = reader.greatest

abbrev pub OnlyRead : Value → Type 0
OnlyRead v = (n : ℕ) (k : List ℕ) → IsProper v → depth v ≤ n → length (spelled v) ≤ most → Reads (read_value n) (spelled v ++ k) v k

-- ---- first bytes

pub digit_is_not : (d k : ℕ) → is_digit k ≡ false → is_digit d ≡ true → (d == k) ≡ false
digit_is_not d k other h = by_test (d == k) refl
  where
    by_test : (b : Bool) → (d == k) ≡ b → b ≡ false
    by_test true e = absurd (let is : d ≡ k = grind (arith, nat_tests) in let bad : false ≡ true = sym other ∙ (ap is_digit (sym is) ∙ h) in cc)
    by_test false e = refl

or_last : (a b c : Bool) → c ≡ true → (a || (b || c)) ≡ true
or_last true b c h = refl
or_last false true c h = refl
or_last false false c h = h

pub digit_first : (d : ℕ) → is_digit d ≡ true → is_first d ≡ true
digit_first d h = or_last (d == 105) (d == 108) (is_digit d) h

pub string_longer : (t : List ℕ) → length t ≤ length (string t)
string_longer t = simp length-append (omega arith)

pub string_begins : (t k : List ℕ) → length t ≤ most → (d : ℕ) × (more : List ℕ) × (string t ++ k ≡ d ∷ more) × (is_digit d ≡ true)
string_begins t k le = let b = decimal_begins (length t) (58 ∷ (t ++ k)) (omega (arith, le)) in (b.0, b.1, append_assoc (decimal (length t)) (58 ∷ t) k ∙ b.2, b.3)

abbrev pub Begins : Value → Type 0
Begins v = (k : List ℕ) → length (spelled v) ≤ most → begins_item (spelled v ++ k) ≡ true

bool_begins : (b : Bool) → Begins (value.Bool b)
bool_begins true k le = rw (canon_bool (λ f. f) true) refl
bool_begins false k le = rw (canon_bool (λ f. f) false) refl

text_begins : (t : List ℕ) → Begins (value.Text t)
text_begins t k le =
    let is : length (spelled (value.Text t)) ≡ length (string t) = ap length (canon_text (λ f. f) t) in
    let b = string_begins t k (omega (arith, le, is, string_longer t)) in
    rw (canon_text (λ f. f) t, b.2) (digit_first b.0 b.3)

pub value_begins : (v : Value) → Begins v
value_begins = datum_ind Begins
    (λ k le. rw (canon_nothing (λ f. f)) refl)
    bool_begins
    (λ z k le. rw (canon_int (λ f. f) z) refl)
    text_begins
    (λ xs hs k le. rw (canon_list (λ f. f) xs) refl)
    (λ ps hs k le. rw (canon_dict (λ f. f) ps) refl)
    (λ f k le. rw (canon_file (λ f. f) f) refl)
    (λ e k le. rw (canon_error (λ f. f) e) refl)

pub value_length : (v : Value) → length (spelled v) ≤ most → 1 ≤ length (spelled v)
value_length v le = by_list (spelled v) (value_begins v [] le)
  where
    by_list : (bs : List ℕ) → begins_item (bs ++ []) ≡ true → 1 ≤ length bs
    by_list [] h = absurd (let bad : false ≡ true = h in cc)
    by_list (b ∷ bs) h = omega arith

-- ---- plain readers

pub string_reads : (t k : List ℕ) → length t ≤ most → Reads read_string (string t ++ k) t k
string_reads t k le last = (string t ++ k, rw (string_only t k le) refl)

pub integer_reads : (z : ℤ) (k : List ℕ) → FitsSigned w64 z → Reads read_integer (105 ∷ (signed_decimal z ++ (101 ∷ k))) z k
integer_reads z k fits last = (105 ∷ (signed_decimal z ++ (101 ∷ k)), rw (integer_only z k fits) refl)

pub text_reads : (t k : List ℕ) → IsUtf8 t → length t ≤ most → Reads read_text (string t ++ k) t k
unfolding read_text
text_reads t k utf8 le last = (string t ++ k, rw (string_only t k le, is_text t utf8) refl)

pub path_reads : (p k : List ℕ) → IsUtf8 p → is_path p ≡ true → path_of p ≡ Some p
path_reads p k utf8 lawful = is_path_text p utf8 lawful

pub digest_is : (d : Digest) → length d.0 ≡ 32 → digest_of d.0 ≡ Some d
unfolding digest_of
digest_is d h = rw h refl

pub class_is : (c : Class) → class_of (name c) ≡ Some c
unfolding class_of
class_is class.Exception = refl
class_is class.ValueError = refl
class_is class.TypeError = refl
class_is class.KeyError = refl
class_is class.IndexError = refl
class_is class.ZeroDivisionError = refl
class_is class.OverflowError = refl
class_is class.FileNotFoundError = refl
class_is class.PermissionError = refl
class_is class.RuntimeError = refl
class_is class.RecursionError = refl
class_is class.AttributeError = refl
class_is class.NameError = refl
class_is class.LimitError = refl

number_reads : (z : ℤ) (k : List ℕ) → FitsSigned w64 z → Reads read_number (105 ∷ (signed_decimal z ++ (101 ∷ k))) (value.Int z) k
unfolding read_number
number_reads z k fits last = (105 ∷ (signed_decimal z ++ (101 ∷ k)), rw (integer_only z k fits) refl)

text_value_reads : (t k : List ℕ) → IsUtf8 t → length t ≤ most → Reads read_text_value (string t ++ k) (value.Text t) k
unfolding read_text_value read_text
text_value_reads t k utf8 le last = (string t ++ k, rw (string_only t k le, is_text t utf8) refl)

-- ---- kinds

module _ (n : ℕ) (inside : Reader Value) where
  -- between a letter and an end
  abbrev KindReads : ℕ → List ℕ → Value → Type 0
  KindReads c body v = (k : List ℕ) → Reads (read_kind n inside c) (body ++ (101 ∷ k)) v (101 ∷ k)

  tagged_reads : (c : ℕ) (body : List ℕ) (v : Value) (k : List ℕ) → KindReads c body v → Reads (read_any n inside) ((108 ∷ 49 ∷ 58 ∷ c ∷ (body ++ (101 ∷ []))) ++ k) v k
  unfolding read_any read_tagged
  tagged_reads c body v k f last =
      let g = f k (49 ∷ 58 ∷ c ∷ (body ++ (101 ∷ k))) in
      let assoc : (body ++ (101 ∷ [])) ++ k ≡ body ++ (101 ∷ k) = append_assoc body (101 ∷ []) k in
      (g.0, rw (assoc, g.1) refl)

  nothing_reads : KindReads 110 [] value.Nothing
  unfolding read_kind
  nothing_reads k last = (last, refl)

  flag_is : (b : Bool) → flag_of (cond b (pos 1) (pos 0)) ≡ Some b
  flag_is true = refl
  flag_is false = refl

  bool_reads : (b : Bool) → FitsSigned w64 (cond b (pos 1) (pos 0)) → KindReads 98 (105 ∷ (signed_decimal (cond b (pos 1) (pos 0)) ++ (101 ∷ []))) (value.Bool b)
  unfolding read_kind read_flag
  bool_reads b fits k last =
      let assoc : (signed_decimal (cond b (pos 1) (pos 0)) ++ (101 ∷ [])) ++ (101 ∷ k) ≡ signed_decimal (cond b (pos 1) (pos 0)) ++ (101 ∷ (101 ∷ k)) = append_assoc (signed_decimal (cond b (pos 1) (pos 0))) (101 ∷ []) (101 ∷ k) in
      (105 ∷ (signed_decimal (cond b (pos 1) (pos 0)) ++ (101 ∷ (101 ∷ k))), rw (assoc, integer_only (cond b (pos 1) (pos 0)) (101 ∷ k) fits, flag_is b) refl)

  file_reads : (f : FileValue) → IsUtf8 f.path → is_path f.path ≡ true → length f.digest.0 ≡ 32 → length f.path ≤ most → KindReads 102 (string f.path ++ string f.digest.0) (value.File f)
  unfolding read_kind read_file
  file_reads f utf8 lawful size le k last =
      let assoc : (string f.path ++ string f.digest.0) ++ (101 ∷ k) ≡ string f.path ++ (string f.digest.0 ++ (101 ∷ k)) = append_assoc (string f.path) (string f.digest.0) (101 ∷ k) in
      (string f.digest.0 ++ (101 ∷ k), rw (assoc, string_only f.path (string f.digest.0 ++ (101 ∷ k)) le, is_path_text f.path utf8 lawful, string_only f.digest.0 (101 ∷ k) (omega (arith, size)), digest_is f.digest size) refl)

  error_reads : (e : ErrorValue) → IsUtf8 e.text → length (name e.class) ≤ most → length e.text ≤ most → KindReads 101 (string (name e.class) ++ string e.text) (value.Error e)
  unfolding read_kind read_error read_text
  error_reads e utf8 short le k last =
      let assoc : (string (name e.class) ++ string e.text) ++ (101 ∷ k) ≡ string (name e.class) ++ (string e.text ++ (101 ∷ k)) = append_assoc (string (name e.class)) (string e.text) (101 ∷ k) in
      (string e.text ++ (101 ∷ k), rw (assoc, string_only (name e.class) (string e.text ++ (101 ∷ k)) short, class_is e.class, string_only e.text (101 ∷ k) le, is_text e.text utf8) refl)

  -- ---- lists

  abbrev Inside : Value → Type 0
  Inside v = (k : List ℕ) → Reads inside (spelled v ++ k) v k

  many_reads : (m : ℕ) (xs : List Value) (k : List ℕ) → Each Inside xs → length xs ≤ m → length (joined (map spelled xs)) ≤ most → Reads (read_many_by inside m) (joined (map spelled xs) ++ (101 ∷ k)) xs (101 ∷ k)
  many_reads zero [] k hs fuel le last = (last, refl)
  many_reads zero (x ∷ xs) k hs fuel le last = absurd (omega arith)
  many_reads (suc m) [] k hs fuel le last = (last, refl)
  many_reads (suc m) (x ∷ xs) k hs fuel le last =
      let whole : length (joined (map spelled (x ∷ xs))) ≡ length (spelled x) + length (joined (map spelled xs)) = length-append (spelled x) (joined (map spelled xs)) in
      let behind : List ℕ = joined (map spelled xs) ++ (101 ∷ k) in
      let one = hs.0 behind last in
      let rest = many_reads m xs k hs.1 (omega (arith, fuel)) (omega (arith, le, whole)) one.0 in
      let assoc : (spelled x ++ joined (map spelled xs)) ++ (101 ∷ k) ≡ spelled x ++ behind = append_assoc (spelled x) (joined (map spelled xs)) (101 ∷ k) in
      let begins : begins_item (spelled x ++ behind) ≡ true = value_begins x behind (omega (arith, le, whole)) in
      (rest.0, rw (assoc, begins, one.1, rest.1) refl)

  more_bytes : (xs : List Value) → length (joined (map spelled xs)) ≤ most → length xs ≤ length (joined (map spelled xs))
  more_bytes [] le = omega arith
  more_bytes (x ∷ xs) le =
      let whole : length (joined (map spelled (x ∷ xs))) ≡ length (spelled x) + length (joined (map spelled xs)) = length-append (spelled x) (joined (map spelled xs)) in
      omega (arith, whole, le, value_length x (omega (arith, le, whole)), more_bytes xs (omega (arith, le, whole)))

  list_reads : (xs : List Value) → Each Inside xs → length (joined (map spelled xs)) ≤ most → KindReads 108 (joined (map spelled xs)) (value.List xs)
  unfolding read_kind read_list
  list_reads xs hs le k last =
      let size : length (joined (map spelled xs) ++ (101 ∷ k)) ≡ length (joined (map spelled xs)) + length (101 ∷ k) = length-append (joined (map spelled xs)) (101 ∷ k) in
      let m = many_reads (length (joined (map spelled xs) ++ (101 ∷ k))) xs k hs (omega (arith, size, more_bytes xs le)) le last in
      (m.0, rw m.1 refl)

  -- ---- dicts

  abbrev both : Pair → List ℕ × List ℕ
  both p = (spelled p.0, spelled p.1)

  abbrev KeyReads : List Value → Value → Type 0
  KeyReads keys v = (k : List ℕ) → Reads (read_key keys n) (spelled v ++ k) v k

  pairs_read : (m : ℕ) (keys : List Value) (ps : List Pair) (k : List ℕ) → ((keys : List Value) (v : Value) → is_new keys v ≡ true → IsProper v → depth v ≤ n → length (spelled v) ≤ most → KeyReads keys v) →
      EachPair IsProper ps → greatest (map greater (map (λ p. (depth p.0, depth p.1)) ps)) ≤ n → EachPair Inside ps → AreNew keys ps → length ps ≤ m → length (joined (map keyed (map both ps))) ≤ most →
      Reads (read_pairs_by n inside m keys) (joined (map keyed (map both ps)) ++ (101 ∷ k)) ps (101 ∷ k)
  unfolding read_pair
  pairs_read zero keys [] k key proper shallow hs new fuel le last = (last, refl)
  pairs_read zero keys (p ∷ ps) k key proper shallow hs new fuel le last = absurd (omega arith)
  pairs_read (suc m) keys [] k key proper shallow hs new fuel le last = (last, refl)
  pairs_read (suc m) keys (p ∷ ps) k key proper shallow hs new fuel le last =
      let others : List ℕ = joined (map keyed (map both ps)) in
      let whole : length (joined (map keyed (map both (p ∷ ps)))) ≡ length (spelled p.0 ++ spelled p.1) + length others = length-append (spelled p.0 ++ spelled p.1) others in
      let two : length (spelled p.0 ++ spelled p.1) ≡ length (spelled p.0) + length (spelled p.1) = length-append (spelled p.0) (spelled p.1) in
      let behind : List ℕ = others ++ (101 ∷ k) in
      let middle : List ℕ = spelled p.1 ++ behind in
      let first = key keys p.0 new.0 proper.0.0 (omega (arith, shallow)) (omega (arith, le, whole, two)) middle last in
      let second = hs.0.1 behind first.0 in
      let rest = pairs_read m (keys ++ p.0 ∷ []) ps k key proper.1 (omega (arith, shallow)) hs.1 new.1 (omega (arith, fuel)) (omega (arith, le, whole)) second.0 in
      let assoc : ((spelled p.0 ++ spelled p.1) ++ others) ++ (101 ∷ k) ≡ spelled p.0 ++ middle = append_assoc (spelled p.0 ++ spelled p.1) others (101 ∷ k) ∙ append_assoc (spelled p.0) (spelled p.1) behind in
      let begins : begins_item (spelled p.0 ++ middle) ≡ true = value_begins p.0 middle (omega (arith, le, whole, two)) in
      (rest.0, rw (assoc, begins, first.1, second.1, rest.1) refl)

  more_pair_bytes : (ps : List Pair) → length (joined (map keyed (map both ps))) ≤ most → length ps ≤ length (joined (map keyed (map both ps)))
  more_pair_bytes [] le = omega arith
  more_pair_bytes (p ∷ ps) le =
      let whole : length (joined (map keyed (map both (p ∷ ps)))) ≡ length (spelled p.0 ++ spelled p.1) + length (joined (map keyed (map both ps))) = length-append (spelled p.0 ++ spelled p.1) (joined (map keyed (map both ps))) in
      let two : length (spelled p.0 ++ spelled p.1) ≡ length (spelled p.0) + length (spelled p.1) = length-append (spelled p.0) (spelled p.1) in
      omega (arith, whole, two, le, value_length p.0 (omega (arith, le, whole, two)), more_pair_bytes ps (omega (arith, le, whole)))

  dict_reads : (ps : List Pair) → ((keys : List Value) (v : Value) → is_new keys v ≡ true → IsProper v → depth v ≤ n → length (spelled v) ≤ most → KeyReads keys v) →
      EachPair IsProper ps → greatest (map greater (map (λ p. (depth p.0, depth p.1)) ps)) ≤ n → EachPair Inside ps → AreNew [] ps → length (joined (map keyed (map both ps))) ≤ most → KindReads 100 (joined (map keyed (map both ps))) (value.Dict ps)
  unfolding read_kind read_dict
  dict_reads ps key proper shallow hs new le k last =
      let size : length (joined (map keyed (map both ps)) ++ (101 ∷ k)) ≡ length (joined (map keyed (map both ps))) + length (101 ∷ k) = length-append (joined (map keyed (map both ps))) (101 ∷ k) in
      let m = pairs_read (length (joined (map keyed (map both ps)) ++ (101 ∷ k))) [] ps k key proper shallow hs new (omega (arith, size, more_pair_bytes ps le)) le last in
      (m.0, rw m.1 refl)

-- ---- keys

pub key_reads : (n : ℕ) (keys : List Value) (v : Value) → is_new keys v ≡ true → IsProper v → depth v ≤ n → length (spelled v) ≤ most → KeyReads n (read_value n) keys v
unfolding read_key read_number_key read_text_key read_text
key_reads zero keys (value.Int z) new proper shallow le k last = absurd (let flat = depth_int z in omega (arith, flat, shallow))
key_reads (suc n) keys (value.Int z) new proper shallow le k last =
    let assoc : (signed_decimal z ++ (101 ∷ [])) ++ k ≡ signed_decimal z ++ (101 ∷ k) = append_assoc (signed_decimal z) (101 ∷ []) k in
    (105 ∷ (signed_decimal z ++ (101 ∷ k)), rw (canon_int (λ f. f) z, assoc, integer_only z k (int_fits z proper), new) refl)
key_reads zero keys (value.Text t) new proper shallow le k last = absurd (let flat = depth_text t in omega (arith, flat, shallow))
key_reads (suc n) keys (value.Text t) new proper shallow le k last =
    let is : length (spelled (value.Text t)) ≡ length (string t) = ap length (canon_text (λ f. f) t) in
    let small : length t ≤ most = omega (arith, le, is, string_longer t) in
    let b = string_begins t k small in
    let no_integer : begins_with 105 (string t ++ k) ≡ false = rw b.2 (digit_is_not b.0 105 refl b.3) in
    (string t ++ k, rw (canon_text (λ f. f) t, no_integer, string_only t k small, is_text t (text_utf8 t proper), new) refl)
key_reads n keys _ new proper shallow le k last = absurd (let bad : false ≡ true = new in cc)

-- ---- values

one_level : (v : Value) (n : ℕ) → (1 ≤ depth v) → depth v ≤ n → (m : ℕ) × (n ≡ suc m)
one_level v zero low le = absurd (omega (arith, low, le))
one_level v (suc m) low le = (m, refl)

-- with a level at least
abbrev WithLevel : Value → Type 0
WithLevel v = (n : ℕ) (k : List ℕ) → IsProper v → depth v ≤ suc n → length (spelled v) ≤ most → Reads (read_any n (read_value n)) (spelled v ++ k) v k

leveled : (v : Value) → 1 ≤ depth v → WithLevel v → OnlyRead v
unfolding read_value
leveled v low f zero k proper shallow le last = absurd (omega (arith, low, shallow))
leveled v low f (suc n) k proper shallow le last = f n k proper shallow le last

plain_any : (n : ℕ) (inside : Reader Value) (bytes : List ℕ) (v : Value) (k : List ℕ) → begins_with 108 bytes ≡ false → Reads read_plain bytes v k → Reads (read_any n inside) bytes v k
unfolding read_any
plain_any n inside bytes v k plain f last = let g = f last in (g.0, rw (plain, g.1) refl)

int_plain : (z : ℤ) (k : List ℕ) → FitsSigned w64 z → Reads read_plain (105 ∷ (signed_decimal z ++ (101 ∷ k))) (value.Int z) k
unfolding read_plain
int_plain z k fits = number_reads z k fits

int_any : (z : ℤ) → WithLevel (value.Int z)
int_any z n k proper shallow le =
    let assoc : spelled (value.Int z) ++ k ≡ 105 ∷ (signed_decimal z ++ (101 ∷ k)) = ap (λ b. b ++ k) (canon_int (λ f. f) z) ∙ ap (λ b. 105 ∷ b) (append_assoc (signed_decimal z) (101 ∷ []) k) in
    subst (λ b. Reads (read_any n (read_value n)) b (value.Int z) k) (sym assoc) (plain_any n (read_value n) (105 ∷ (signed_decimal z ++ (101 ∷ k))) (value.Int z) k refl (int_plain z k (int_fits z proper)))

text_plain : (t k : List ℕ) → IsUtf8 t → length t ≤ most → begins_with 105 (string t ++ k) ≡ false → Reads read_plain (string t ++ k) (value.Text t) k
unfolding read_plain
text_plain t k utf8 le plain last = let g = text_value_reads t k utf8 le last in (g.0, rw (plain, g.1) refl)

text_any : (t : List ℕ) → WithLevel (value.Text t)
text_any t n k proper shallow le =
    let is : length (spelled (value.Text t)) ≡ length (string t) = ap length (canon_text (λ f. f) t) in
    let small : length t ≤ most = omega (arith, le, is, string_longer t) in
    let b = string_begins t k small in
    let no_integer : begins_with 105 (string t ++ k) ≡ false = rw b.2 (digit_is_not b.0 105 refl b.3) in
    let no_list : begins_with 108 (string t ++ k) ≡ false = rw b.2 (digit_is_not b.0 108 refl b.3) in
    subst (λ s. Reads (read_any n (read_value n)) (s ++ k) (value.Text t) k) (sym (canon_text (λ f. f) t)) (plain_any n (read_value n) (string t ++ k) (value.Text t) k no_list (text_plain t k (text_utf8 t proper) small no_integer))

tagged_any : (n c : ℕ) (body : List ℕ) (v : Value) (k : List ℕ) → spelled v ≡ 108 ∷ 49 ∷ 58 ∷ c ∷ (body ++ (101 ∷ [])) → KindReads n (read_value n) c body v → Reads (read_any n (read_value n)) (spelled v ++ k) v k
tagged_any n c body v k is f = subst (λ s. Reads (read_any n (read_value n)) (s ++ k) v k) (sym is) (tagged_reads n (read_value n) c body v k f)

pub bool_spelled : (b : Bool) → spelled (value.Bool b) ≡ 108 ∷ 49 ∷ 58 ∷ 98 ∷ ((105 ∷ (signed_decimal (cond b (pos 1) (pos 0)) ++ (101 ∷ []))) ++ (101 ∷ []))
bool_spelled true = let e : decimal 1 ≡ 49 ∷ [] = decimal_digit 1 (omega arith) in canon_bool (λ f. f) true ∙ ap (λ ds. 108 ∷ 49 ∷ 58 ∷ 98 ∷ ((105 ∷ (ds ++ (101 ∷ []))) ++ (101 ∷ []))) (sym e)
bool_spelled false = let e : decimal 0 ≡ 48 ∷ [] = decimal_digit 0 (omega arith) in canon_bool (λ f. f) false ∙ ap (λ ds. 108 ∷ 49 ∷ 58 ∷ 98 ∷ ((105 ∷ (ds ++ (101 ∷ []))) ++ (101 ∷ []))) (sym e)

flag_fits : (b : Bool) → FitsSigned w64 (cond b (pos 1) (pos 0))
flag_fits true = search (rules)
flag_fits false = search (rules)

each_inside : (n : ℕ) (xs : List Value) → Each OnlyRead xs → Each IsProper xs → greatest (map depth xs) ≤ n → length (joined (map spelled xs)) ≤ most → Each (Inside n (read_value n)) xs
each_inside n [] hs ps shallow le = tt
each_inside n (x ∷ xs) hs ps shallow le =
    let whole : length (joined (map spelled (x ∷ xs))) ≡ length (spelled x) + length (joined (map spelled xs)) = length-append (spelled x) (joined (map spelled xs)) in
    ((λ k. hs.0 n k ps.0 (omega (arith, shallow)) (omega (arith, le, whole))), each_inside n xs hs.1 ps.1 (omega (arith, shallow)) (omega (arith, le, whole)))

list_any : (xs : List Value) → Each OnlyRead xs → WithLevel (value.List xs)
list_any xs hs n k proper shallow le =
    let is = canon_list (λ f. f) xs in
    let size : length (spelled (value.List xs)) ≡ length (108 ∷ 49 ∷ 58 ∷ 108 ∷ (joined (map spelled xs) ++ (101 ∷ []))) = ap length is in
    let parts : length (joined (map spelled xs) ++ (101 ∷ [])) ≡ length (joined (map spelled xs)) + 1 = length-append (joined (map spelled xs)) (101 ∷ []) in
    let small : length (joined (map spelled xs)) ≤ most = omega (arith, le, size, parts) in
    let flat : greatest (map depth xs) ≤ n = let d = depth_list xs in omega (arith, shallow, d) in
    tagged_any n 108 (joined (map spelled xs)) (value.List xs) k is (list_reads n (read_value n) xs (each_inside n xs hs (list_proper xs proper) flat small) small)

pairs_inside : (n : ℕ) (ps : List Pair) → EachPair OnlyRead ps → EachPair IsProper ps → greatest (map greater (map (λ p. (depth p.0, depth p.1)) ps)) ≤ n → length (joined (map keyed (map (both n (read_value n)) ps))) ≤ most → EachPair (Inside n (read_value n)) ps
pairs_inside n [] hs ps shallow le = tt
pairs_inside n (p ∷ ps) hs qs shallow le =
    let others : List ℕ = joined (map keyed (map (both n (read_value n)) ps)) in
    let whole : length (joined (map keyed (map (both n (read_value n)) (p ∷ ps)))) ≡ length (spelled p.0 ++ spelled p.1) + length others = length-append (spelled p.0 ++ spelled p.1) others in
    let two : length (spelled p.0 ++ spelled p.1) ≡ length (spelled p.0) + length (spelled p.1) = length-append (spelled p.0) (spelled p.1) in
    (((λ k. hs.0.0 n k qs.0.0 (omega (arith, shallow)) (omega (arith, le, whole, two))), (λ k. hs.0.1 n k qs.0.1 (omega (arith, shallow)) (omega (arith, le, whole, two)))), pairs_inside n ps hs.1 qs.1 (omega (arith, shallow)) (omega (arith, le, whole)))

dict_any : (ps : List Pair) → EachPair OnlyRead ps → WithLevel (value.Dict ps)
dict_any ps hs n k proper shallow le =
    let is = canon_dict (λ f. f) ps in
    let bytes : List ℕ = joined (map keyed (map (both n (read_value n)) ps)) in
    let size : length (spelled (value.Dict ps)) ≡ length (108 ∷ 49 ∷ 58 ∷ 100 ∷ (bytes ++ (101 ∷ []))) = ap length is in
    let parts : length (bytes ++ (101 ∷ [])) ≡ length bytes + 1 = length-append bytes (101 ∷ []) in
    let small : length bytes ≤ most = omega (arith, le, size, parts) in
    let flat : greatest (map greater (map (λ p. (depth p.0, depth p.1)) ps)) ≤ n = let d = depth_dict ps in omega (arith, shallow, d) in
    tagged_any n 100 bytes (value.Dict ps) k is (dict_reads n (read_value n) ps (key_reads n) (dict_proper ps proper) flat (pairs_inside n ps hs (dict_proper ps proper) flat small) (dict_new ps proper) small)

file_any : (f : FileValue) → WithLevel (value.File f)
file_any f n k proper shallow le =
    let is = canon_file (λ f. f) f in
    let p = file_proper f proper in
    let size : length (spelled (value.File f)) ≡ length (108 ∷ 49 ∷ 58 ∷ 102 ∷ ((string f.path ++ string f.digest.0) ++ (101 ∷ []))) = ap length is in
    let parts : length ((string f.path ++ string f.digest.0) ++ (101 ∷ [])) ≡ length (string f.path) + length (string f.digest.0) + 1 = length-append (string f.path ++ string f.digest.0) (101 ∷ []) ∙ ap (λ m. m + 1) (length-append (string f.path) (string f.digest.0)) in
    tagged_any n 102 (string f.path ++ string f.digest.0) (value.File f) k is (file_reads n (read_value n) f p.1 p.0 p.2 (omega (arith, le, size, parts, string_longer f.path)))

pub class_short : (c : Class) → length (name c) ≤ 20
class_short class.Exception = omega arith
class_short class.ValueError = omega arith
class_short class.TypeError = omega arith
class_short class.KeyError = omega arith
class_short class.IndexError = omega arith
class_short class.ZeroDivisionError = omega arith
class_short class.OverflowError = omega arith
class_short class.FileNotFoundError = omega arith
class_short class.PermissionError = omega arith
class_short class.RuntimeError = omega arith
class_short class.RecursionError = omega arith
class_short class.AttributeError = omega arith
class_short class.NameError = omega arith
class_short class.LimitError = omega arith

error_any : (e : ErrorValue) → WithLevel (value.Error e)
error_any e n k proper shallow le =
    let is = canon_error (λ f. f) e in
    let size : length (spelled (value.Error e)) ≡ length (108 ∷ 49 ∷ 58 ∷ 101 ∷ ((string (name e.class) ++ string e.text) ++ (101 ∷ []))) = ap length is in
    let parts : length ((string (name e.class) ++ string e.text) ++ (101 ∷ [])) ≡ length (string (name e.class)) + length (string e.text) + 1 = length-append (string (name e.class) ++ string e.text) (101 ∷ []) ∙ ap (λ m. m + 1) (length-append (string (name e.class)) (string e.text)) in
    tagged_any n 101 (string (name e.class) ++ string e.text) (value.Error e) k is (error_reads n (read_value n) e (error_utf8 e proper) (omega (arith, class_short e.class)) (omega (arith, le, size, parts, string_longer e.text)))

pub only_value : (v : Value) → OnlyRead v
only_value = datum_ind OnlyRead
    (leveled value.Nothing (omega (arith, depth_nothing)) (λ n k proper shallow le. tagged_any n 110 [] value.Nothing k (canon_nothing (λ f. f)) (nothing_reads n (read_value n))))
    (λ b. leveled (value.Bool b) (omega (arith, depth_bool b)) (λ n k proper shallow le. tagged_any n 98 (105 ∷ (signed_decimal (cond b (pos 1) (pos 0)) ++ (101 ∷ []))) (value.Bool b) k (bool_spelled b) (bool_reads n (read_value n) b (flag_fits b))))
    (λ z. leveled (value.Int z) (omega (arith, depth_int z)) (int_any z))
    (λ t. leveled (value.Text t) (omega (arith, depth_text t)) (text_any t))
    (λ xs hs. leveled (value.List xs) (let d = depth_list xs in omega (arith, d)) (list_any xs hs))
    (λ ps hs. leveled (value.Dict ps) (let d = depth_dict ps in omega (arith, d)) (dict_any ps hs))
    (λ f. leveled (value.File f) (omega (arith, depth_file f)) (file_any f))
    (λ e. leveled (value.Error e) (omega (arith, depth_error e)) (error_any e))
