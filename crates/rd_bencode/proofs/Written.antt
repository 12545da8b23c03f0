-- What is written is one item, in which each number has its one spelling.
use Rattle.std.proofs.Common.{◌≡◌, ℕ, zero, suc, ◌+◌, ◌*◌, ◌-◌, ◌%◌, ◌<◌, ◌≤◌, ◌^◌, ◌==◌, ℤ, pos, negsuc, Bool, true, false, cond, List, [], ◌∷◌, ◌++◌, length, map, decimal, get_or, FitsSigned, refl, sym, ap, subst, ◌∙◌, append_assoc, append-nil, arith, rules}
use Rattle.std.specs.Int.{w64}
use Rattle.std.specs.Fmt.{signed_decimal}
use Rattle.std.specs.List.{list_all}
use Rattle.std.proofs.lemmas.Bool.Decides.{nat_tests}
use Rattle.std.proofs.lemmas.Fmt.{decimal_by_steps, decimal_digit, decimal_nonempty, first_decimal}
use Rattle.std.proofs.lemmas.List.Folds.{list_all-append}
use Rattle.rd_value.specs.declared.value.FileValue.{FileValue}
use Rattle.rd_value.specs.declared.value.ErrorValue.{ErrorValue}
use Rattle.rd_value.specs.declared.value.Datum.TheVariants as value
use Rattle.rd_value.specs.Canon.{canon, string, joined, keyed}
use Rattle.rd_value.specs.Class.{name}
use Rattle.rd_value.proofs.Ind.{Each, EachPair, datum_ind}
use Rattle.rd_bencode.specs.Reader.{is_digit}
use Rattle.rd_bencode.specs.declared.form.Spelling.TheVariants.{One}
use Rattle.rd_bencode.specs.Form.{number_from, number, is_spelled, is_spelled_below, IsNumber, IsBelow, IsItem, AreItems}
use Rattle.rd_bencode.specs.Proper.{IsProper}
use Rattle.rd_bencode.specs.Values.{Value, Pair}
use Rattle.rd_bencode.proofs.Layers.{canon_nothing, canon_int, canon_text, canon_list, canon_dict, canon_file, canon_error}
use Rattle.rd_bencode.proofs.Proper.{int_fits, list_proper, dict_proper}
use Rattle.rd_bencode.proofs.Strings.{digit_is}
use Rattle.rd_bencode.proofs.ValuesFound.{spelled}
use Rattle.rd_bencode.proofs.ValuesOnly.{most, bool_spelled, class_short}
use Rattle.rd_bencode.proofs.ExprsOnly.{shorter, left_short, right_short, text_short}

-- ---- numbers

number_more : (n : ℕ) (ds : List ℕ) (d : ℕ) → number_from n (ds ++ (d ∷ [])) ≡ 10 * number_from n ds + (d - 48)
number_more n [] d = refl
number_more n (e ∷ ds) d = number_more (10 * n + (e - 48)) ds d

decimal_number : (n : ℕ) → n < 2 ^ 64 → number (decimal n) ≡ n
decimal_number = decimal_by_steps (λ n ds. number ds ≡ n)
    (λ n h. let e : 10 * 0 + ((48 + n) - 48) ≡ n = omega arith in e)
    (λ n ds h f. let e : 10 * number ds + ((48 + n % 10) - 48) ≡ n = omega (arith, f) in number_more 0 ds (48 + n % 10) ∙ e)

decimal_digits : (n : ℕ) → n < 2 ^ 64 → list_all is_digit (decimal n) ≡ true
decimal_digits = decimal_by_steps (λ n ds. list_all is_digit ds ≡ true)
    (λ n h. let d : is_digit (48 + n) ≡ true = digit_is n h in rw d refl)
    (λ n ds h f. let d : is_digit (48 + n % 10) ≡ true = digit_is (n % 10) (omega arith) in rw (list_all-append is_digit ds ((48 + n % 10) ∷ []), f, d) refl)

not_zero : (d : ℕ) → 48 < d → (d == 48) ≡ false
not_zero d h = grind (arith, nat_tests)

spelled_by : (n : ℕ) (ds : List ℕ) → 0 < length ds → (0 < n → 48 < get_or ds 0 0) → (n ≡ 0 → length ds ≡ 1) → is_spelled One ds ≡ true
spelled_by n [] some first zeros = absurd (omega arith)
spelled_by n (d ∷ []) some first zeros = refl
spelled_by zero (d ∷ e ∷ ds) some first zeros = absurd (let h : length (d ∷ e ∷ ds) ≡ 1 = zeros refl in omega arith)
spelled_by (suc n) (d ∷ e ∷ ds) some first zeros = let h : (d == 48) ≡ false = not_zero d (first (omega arith)) in rw h refl

below_by : (ds : List ℕ) → 0 < length ds → 48 < get_or ds 0 0 → is_spelled_below One ds ≡ true
below_by [] some first = absurd (omega arith)
below_by (d ∷ ds) some first = let h : (d == 48) ≡ false = not_zero d first in rw h refl

decimal_one : (n : ℕ) → n < 2 ^ 64 → IsNumber One (decimal n)
decimal_one n h = (decimal_digits n h, spelled_by n (decimal n) (decimal_nonempty n h) (λ some. first_decimal n some h) (λ e. let z : decimal n ≡ 48 ∷ [] = ap decimal e ∙ decimal_digit 0 (omega arith) in ap length z))

decimal_below : (n : ℕ) → 0 < n → n < 2 ^ 64 → IsBelow One (decimal n)
decimal_below n some h = (decimal_digits n h, below_by (decimal n) (decimal_nonempty n h) (first_decimal n some h))

-- ---- items that are no lists

pub string_item : (t : List ℕ) → length t ≤ most → IsItem One (string t)
string_item t le =
    let small : length t < 2 ^ 64 = omega (arith, le) in
    subst (IsItem One) (append_assoc (decimal (length t)) (58 ∷ []) t) (IsItem.string (decimal (length t)) t (decimal_one (length t) small) (decimal_number (length t) small))

pub number_item : (n : ℕ) → n < 2 ^ 64 → IsItem One (105 ∷ (decimal n ++ (101 ∷ [])))
number_item n h = IsItem.integer (decimal n) (decimal_one n h)

pub integer_item : (z : ℤ) → FitsSigned w64 z → IsItem One (105 ∷ (signed_decimal z ++ (101 ∷ [])))
integer_item (pos n) fits = let small : n ≤ 9223372036854775807 = search (rules) in number_item n (omega (arith, small))
integer_item (negsuc n) fits = let small : n ≤ 9223372036854775807 = search (rules) in IsItem.negative (decimal (suc n)) (decimal_below (suc n) (omega arith) (omega (arith, small)))

-- ---- lists

pub items_join : (ps qs : List ℕ) → AreItems One ps → AreItems One qs → AreItems One (ps ++ qs)
items_join ps qs AreItems.none others = others
items_join ps qs (AreItems.more item ms i all) others = subst (AreItems One) (sym (append_assoc item ms qs)) (AreItems.more item (ms ++ qs) i (items_join ms qs all others))

pub alone : (bs : List ℕ) → IsItem One bs → AreItems One bs
alone bs i = subst (AreItems One) (append-nil bs) (AreItems.more bs [] i AreItems.none)

pub listed_item : (body : List ℕ) → AreItems One body → IsItem One (108 ∷ (body ++ (101 ∷ [])))
listed_item body all = IsItem.list body all

-- behind the letter of a kind
pub tagged_item : (c : ℕ) (body s : List ℕ) → s ≡ 108 ∷ 49 ∷ 58 ∷ c ∷ (body ++ (101 ∷ [])) → AreItems One body → IsItem One s
tagged_item c body s is all = subst (IsItem One) (sym is) (IsItem.list (49 ∷ 58 ∷ c ∷ body) (AreItems.more (49 ∷ 58 ∷ c ∷ []) body (IsItem.string (49 ∷ []) (c ∷ []) (refl, refl) refl) all))

pub two_items : (a b : List ℕ) → IsItem One a → IsItem One b → AreItems One (a ++ b)
two_items a b i j = AreItems.more a b i (alone b j)

-- ---- values

abbrev pub ItemValue : Value → Type 0
ItemValue v = IsProper v → length (spelled v) ≤ most → IsItem One (spelled v)

each_value : (xs : List Value) → Each ItemValue xs → Each IsProper xs → length (joined (map spelled xs)) ≤ most → AreItems One (joined (map spelled xs))
each_value [] hs ps le = AreItems.none
each_value (x ∷ xs) hs ps le =
    let rest : List ℕ = joined (map spelled xs) in
    AreItems.more (spelled x) rest (hs.0 ps.0 (left_short (spelled x) rest le)) (each_value xs hs.1 ps.1 (right_short (spelled x) rest le))

each_pair : (ps : List Pair) → EachPair ItemValue ps → EachPair IsProper ps → length (joined (map keyed (map (λ p. (canon (λ f. f) p.0, canon (λ f. f) p.1)) ps))) ≤ most → AreItems One (joined (map keyed (map (λ p. (canon (λ f. f) p.0, canon (λ f. f) p.1)) ps)))
each_pair [] hs qs le = AreItems.none
each_pair (p ∷ ps) hs qs le =
    let two : List ℕ = spelled p.0 ++ spelled p.1 in
    let rest : List ℕ = joined (map keyed (map (λ p. (canon (λ f. f) p.0, canon (λ f. f) p.1)) ps)) in
    let here = left_short two rest le in
    items_join two rest (two_items (spelled p.0) (spelled p.1) (hs.0.0 qs.0.0 (left_short (spelled p.0) (spelled p.1) here)) (hs.0.1 qs.0.1 (right_short (spelled p.0) (spelled p.1) here))) (each_pair ps hs.1 qs.1 (right_short two rest le))

flag_item : (b : Bool) → IsItem One (105 ∷ (signed_decimal (cond b (pos 1) (pos 0)) ++ (101 ∷ [])))
flag_item true = number_item 1 (omega arith)
flag_item false = number_item 0 (omega arith)

list_item : (xs : List Value) → Each ItemValue xs → ItemValue (value.List xs)
list_item xs hs proper le =
    let is = canon_list (λ f. f) xs in
    let body : List ℕ = joined (map spelled xs) in
    tagged_item 108 body (spelled (value.List xs)) is (each_value xs hs (list_proper xs proper) (shorter 108 body (spelled (value.List xs)) is le))

dict_item : (ps : List Pair) → EachPair ItemValue ps → ItemValue (value.Dict ps)
dict_item ps hs proper le =
    let is = canon_dict (λ f. f) ps in
    let body : List ℕ = joined (map keyed (map (λ p. (canon (λ f. f) p.0, canon (λ f. f) p.1)) ps)) in
    tagged_item 100 body (spelled (value.Dict ps)) is (each_pair ps hs (dict_proper ps proper) (shorter 100 body (spelled (value.Dict ps)) is le))

file_item : (f : FileValue) → ItemValue (value.File f)
file_item f proper le =
    let is = canon_file (λ f. f) f in
    let small = shorter 102 (string f.path ++ string f.digest.0) (spelled (value.File f)) is le in
    tagged_item 102 (string f.path ++ string f.digest.0) (spelled (value.File f)) is
    (two_items (string f.path) (string f.digest.0) (string_item f.path (text_short f.path (left_short (string f.path) (string f.digest.0) small))) (string_item f.digest.0 (text_short f.digest.0 (right_short (string f.path) (string f.digest.0) small))))

error_item : (e : ErrorValue) → ItemValue (value.Error e)
error_item e proper le =
    let is = canon_error (λ f. f) e in
    let small = shorter 101 (string (name e.class) ++ string e.text) (spelled (value.Error e)) is le in
    tagged_item 101 (string (name e.class) ++ string e.text) (spelled (value.Error e)) is
    (two_items (string (name e.class)) (string e.text) (string_item (name e.class) (omega (arith, class_short e.class))) (string_item e.text (text_short e.text (right_short (string (name e.class)) (string e.text) small))))

int_item : (z : ℤ) → ItemValue (value.Int z)
int_item z proper le = subst (IsItem One) (sym (canon_int (λ f. f) z)) (integer_item z (int_fits z proper))

text_item : (t : List ℕ) → ItemValue (value.Text t)
text_item t proper le =
    let is = canon_text (λ f. f) t in
    let size : length (spelled (value.Text t)) ≡ length (string t) = ap length is in
    subst (IsItem One) (sym is) (string_item t (text_short t (omega (arith, le, size))))

pub value_item : (v : Value) → ItemValue v
value_item = datum_ind ItemValue
    (λ proper le. tagged_item 110 [] (spelled value.Nothing) (canon_nothing (λ f. f)) AreItems.none)
    (λ b proper le. tagged_item 98 (105 ∷ (signed_decimal (cond b (pos 1) (pos 0)) ++ (101 ∷ []))) (spelled (value.Bool b)) (bool_spelled b) (alone _ (flag_item b)))
    int_item
    text_item
    list_item
    dict_item
    file_item
    error_item
