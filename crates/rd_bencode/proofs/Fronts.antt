-- The integer and the string in front are those of the form of items.
use Rattle.std.proofs.Common.{◌≡◌, ℕ, suc, ◌+◌, ◌*◌, ◌-◌, ◌<◌, ◌≤◌, ◌==◌, Bool, true, false, ◌&&◌, cond, List, [], ◌∷◌, ◌++◌, length, take, drop, drop-cons, get_or, Option, Some, None, refl, sym, ap, subst, ◌∙◌, append_assoc, arith}
use Rattle.std.specs.List.{list_all}
use Rattle.std.specs.Option.{option_map}
use Rattle.std.specs.Cmp.Lexicographic.{pointwise}
use Rattle.std.proofs.lemmas.Bool.Decides.{nat_tests}
use Rattle.rd_bencode.specs.Reader.{opt_then, is_digit, behind, cut}
use Rattle.rd_bencode.specs.declared.form.Spelling.{Spelling}
use Rattle.rd_bencode.specs.Form.{number, number_from, is_spelled, is_spelled_below, IsNumber, IsBelow, IsItem}
use Rattle.rd_bencode.specs.Front.{digits, behind_digits, front_string, behind_plain, behind_minus, behind_integer, behind_plain_item, InFront}
use Rattle.rd_bencode.proofs.Strings.{opt_inv, behind_found, behind_only, cut_found, cut_only}

-- ---- digits

digits_by : (b : ℕ) (bs : List ℕ) (t : Bool) → bs ≡ digits bs ++ behind_digits bs → b ∷ bs ≡ cond t (b ∷ digits bs) [] ++ cond t (behind_digits bs) (b ∷ bs)
digits_by b bs true h = ap (λ r. b ∷ r) h
digits_by b bs false h = refl

pub digits_found : (bs : List ℕ) → bs ≡ digits bs ++ behind_digits bs
digits_found [] = refl
digits_found (b ∷ bs) = digits_by b bs (is_digit b) (digits_found bs)

digits_are : (b : ℕ) (bs : List ℕ) (t : Bool) → is_digit b ≡ t → list_all is_digit (digits bs) ≡ true → list_all is_digit (cond t (b ∷ digits bs) []) ≡ true
digits_are b bs true e h = rw (e, h) refl
digits_are b bs false e h = refl

pub are_digits : (bs : List ℕ) → list_all is_digit (digits bs) ≡ true
are_digits [] = refl
are_digits (b ∷ bs) = digits_are b bs (is_digit b) refl (are_digits bs)

pub both_true : (a b : Bool) → (a && b) ≡ true → (a ≡ true) × (b ≡ true)
both_true true b h = (refl, h)
both_true false b h = absurd cc

abbrev begins_digit : List ℕ → Bool
begins_digit [] = false
begins_digit (b ∷ bs) = is_digit b

abbrev Splits : List ℕ → List ℕ → Type 0
Splits ds r = (digits (ds ++ r) ≡ ds) × (behind_digits (ds ++ r) ≡ r)

no_digits : (r : List ℕ) → begins_digit r ≡ false → Splits [] r
no_digits [] h = (refl, refl)
no_digits (b ∷ bs) h = (rw h refl, rw h refl)

digits_only : (ds r : List ℕ) → list_all is_digit ds ≡ true → begins_digit r ≡ false → Splits ds r
digits_only [] r all end = no_digits r end
digits_only (d ∷ ds) r all end =
    let h = both_true (is_digit d) (list_all is_digit ds) all in
    let more = digits_only ds r h.1 end in
    let here : is_digit d ≡ true = h.0 in
    (rw here (ap (λ x. d ∷ x) more.0), rw here more.1)

-- ---- strings

abbrev pub StringFound : Spelling → List ℕ → List ℕ × List ℕ → Type 0
StringFound s bs x = (ds : List ℕ) × IsNumber s ds × (number ds ≡ length x.0) × (bs ≡ ds ++ (58 ∷ (x.0 ++ x.1)))

string_by : (s : Spelling) (bs : List ℕ) (x : List ℕ × List ℕ) (t : Bool) → is_spelled s (digits bs) ≡ t → cond t (opt_then (behind (58 ∷ []) (behind_digits bs)) (λ r. cut (number (digits bs)) r)) None ≡ Some x → StringFound s bs x
string_by s bs x true e h =
    let a = opt_inv (behind (58 ∷ []) (behind_digits bs)) (λ r. cut (number (digits bs)) r) x h in
    let b = behind_found (58 ∷ []) (behind_digits bs) a.0 a.1 in
    let c = cut_found (number (digits bs)) a.0 x a.2 in
    (digits bs, (are_digits bs, e), sym c.1, digits_found bs ∙ ap (λ r. digits bs ++ r) (b ∙ ap (λ r. 58 ∷ r) c.0))
string_by s bs x false e h = absurd cc

pub front_string_found : (s : Spelling) (bs : List ℕ) (x : List ℕ × List ℕ) → front_string s bs ≡ Some x → StringFound s bs x
front_string_found s bs x h = string_by s bs x (is_spelled s (digits bs)) refl h

pub front_string_only : (s : Spelling) (ds text rest : List ℕ) → IsNumber s ds → number ds ≡ length text → front_string s (ds ++ (58 ∷ (text ++ rest))) ≡ Some (text, rest)
front_string_only s ds text rest n size =
    let d = digits_only ds (58 ∷ (text ++ rest)) n.0 refl in
    let spelled : is_spelled s ds ≡ true = n.1 in
    rw (d.0, d.1, spelled) (subst (λ n. cut n (text ++ rest) ≡ Some (text, rest)) (sym size) (cut_only text rest))

-- ---- integers

plain_by : (s : Spelling) (bs r : List ℕ) (t : Bool) → is_spelled s (digits bs) ≡ t → cond t (behind (101 ∷ []) (behind_digits bs)) None ≡ Some r → (ds : List ℕ) × IsNumber s ds × (bs ≡ ds ++ (101 ∷ r))
plain_by s bs r true e h = (digits bs, (are_digits bs, e), digits_found bs ∙ ap (λ x. digits bs ++ x) (behind_found (101 ∷ []) (behind_digits bs) r h))
plain_by s bs r false e h = absurd cc

plain_only : (s : Spelling) (ds r : List ℕ) → IsNumber s ds → behind_plain s (ds ++ (101 ∷ r)) ≡ Some r
plain_only s ds r n =
    let d = digits_only ds (101 ∷ r) n.0 refl in
    let spelled : is_spelled s ds ≡ true = n.1 in
    rw (d.0, d.1, spelled, behind_only (101 ∷ []) r) refl

minus_by : (s : Spelling) (bs r : List ℕ) (t : Bool) → is_spelled_below s (digits bs) ≡ t → cond t (behind (101 ∷ []) (behind_digits bs)) None ≡ Some r → (ds : List ℕ) × IsBelow s ds × (bs ≡ ds ++ (101 ∷ r))
minus_by s bs r true e h = (digits bs, (are_digits bs, e), digits_found bs ∙ ap (λ x. digits bs ++ x) (behind_found (101 ∷ []) (behind_digits bs) r h))
minus_by s bs r false e h = absurd cc

minus_only : (s : Spelling) (ds r : List ℕ) → IsBelow s ds → behind_minus s (ds ++ (101 ∷ r)) ≡ Some r
minus_only s ds r n =
    let d = digits_only ds (101 ∷ r) n.0 refl in
    let spelled : is_spelled_below s ds ≡ true = n.1 in
    rw (d.0, d.1, spelled, behind_only (101 ∷ []) r) refl

-- an item of this form, which is no list, and this behind it
end_of : (ds r : List ℕ) → ds ++ (101 ∷ r) ≡ (ds ++ (101 ∷ [])) ++ r
end_of ds r = sym (append_assoc ds (101 ∷ []) r)

same_byte : (m n : ℕ) → (m == n) ≡ true → m ≡ n
same_byte m n h = grind (arith, nat_tests)

integer_by : (s : Spelling) (b : ℕ) (bs r : List ℕ) (t : Bool) → (b == 45) ≡ t → cond t (behind_minus s bs) (behind_plain s (b ∷ bs)) ≡ Some r → InFront s (105 ∷ (b ∷ bs)) r
integer_by s b bs r true e h =
    let a = minus_by s bs r (is_spelled_below s (digits bs)) refl h in
    (105 ∷ (45 ∷ (a.0 ++ (101 ∷ []))), IsItem.negative a.0 a.1, ap (λ x. 105 ∷ x) (ap (λ c. c ∷ bs) (same_byte b 45 e) ∙ ap (λ x. 45 ∷ x) (a.2 ∙ end_of a.0 r)))
integer_by s b bs r false e h =
    let a = plain_by s (b ∷ bs) r (is_spelled s (digits (b ∷ bs))) refl h in
    (105 ∷ (a.0 ++ (101 ∷ [])), IsItem.integer a.0 a.1, ap (λ x. 105 ∷ x) (a.2 ∙ end_of a.0 r))

integer_found : (s : Spelling) (bs r : List ℕ) → behind_integer s bs ≡ Some r → InFront s (105 ∷ bs) r
integer_found s [] r h = absurd cc
integer_found s (b ∷ bs) r h = integer_by s b bs r (b == 45) refl h

-- ---- both

pub map_inv : {A B : Type 0} (f : A → B) (o : Option A) (y : B) → option_map f o ≡ Some y → (a : A) × (o ≡ Some a) × (f a ≡ y)
map_inv f None y h = absurd cc
map_inv f (Some a) y h = (a, refl, cc)

item_by : (s : Spelling) (b : ℕ) (bs r : List ℕ) (t : Bool) → (b == 105) ≡ t → cond t (behind_integer s bs) (option_map (λ p. p.1) (front_string s (b ∷ bs))) ≡ Some r → InFront s (b ∷ bs) r
item_by s b bs r true e h = let a = integer_found s bs r h in (a.0, a.1, ap (λ c. c ∷ bs) (same_byte b 105 e) ∙ a.2)
item_by s b bs r false e h =
    let a = map_inv (λ (p : List ℕ × List ℕ). p.1) (front_string s (b ∷ bs)) r h in
    let f = front_string_found s (b ∷ bs) a.0 a.1 in
    let text : List ℕ = a.0.0 in
    (f.0 ++ (58 ∷ []) ++ text, IsItem.string f.0 text f.1 f.2, f.3 ∙ (simp append_assoc (ap (λ x. f.0 ++ (58 ∷ (text ++ x))) a.2)))

pub plain_item_found : (s : Spelling) (bs r : List ℕ) → behind_plain_item s bs ≡ Some r → InFront s bs r
plain_item_found s [] r h = absurd cc
plain_item_found s (b ∷ bs) r h = item_by s b bs r (b == 105) refl h

-- a digit begins no integer and no minus
pub not_letter : (d n : ℕ) → is_digit d ≡ true → 57 < n → (d == n) ≡ false
not_letter d n h le = grind (arith, nat_tests)

not_minus : (d : ℕ) → is_digit d ≡ true → (d == 45) ≡ false
not_minus d h = grind (arith, nat_tests)

integer_only : (s : Spelling) (ds r : List ℕ) → IsNumber s ds → behind_integer s (ds ++ (101 ∷ r)) ≡ Some r
integer_only s [] r n = absurd (let h : false ≡ true = n.1 in cc)
integer_only s (d ∷ ds) r n =
    let other : (d == 45) ≡ false = not_minus d (both_true (is_digit d) (list_all is_digit ds) n.0).0 in
    rw other (plain_only s (d ∷ ds) r n)

string_only : (s : Spelling) (ds text r : List ℕ) → IsNumber s ds → number ds ≡ length text → behind_plain_item s (ds ++ (58 ∷ (text ++ r))) ≡ Some r
string_only s [] text r n size = absurd (let h : false ≡ true = n.1 in cc)
string_only s (d ∷ ds) text r n size =
    let other : (d == 105) ≡ false = not_letter d 105 (both_true (is_digit d) (list_all is_digit ds) n.0).0 (omega arith) in
    rw (other, front_string_only s (d ∷ ds) text r n size) refl

-- ---- an item in front that is no list

abbrev pub begins_list : List ℕ → Bool
begins_list [] = false
begins_list (b ∷ bs) = b == 108

text_of_string : (ds text r : List ℕ) → (ds ++ (58 ∷ []) ++ text) ++ r ≡ ds ++ (58 ∷ (text ++ r))
text_of_string ds text r = simp append_assoc

pub plain_item_only : (s : Spelling) (item r : List ℕ) → IsItem s item → begins_list item ≡ false → behind_plain_item s (item ++ r) ≡ Some r
plain_item_only s item r (IsItem.integer ds n) other = ap (behind_integer s) (sym (end_of ds r)) ∙ integer_only s ds r n
plain_item_only s item r (IsItem.negative ds n) other = ap (behind_minus s) (sym (end_of ds r)) ∙ minus_only s ds r n
plain_item_only s item r (IsItem.string ds text n size) other = ap (behind_plain_item s) (text_of_string ds text r) ∙ string_only s ds text r n size
plain_item_only s item r (IsItem.list parts all) other = absurd (let h : true ≡ false = other in cc)

-- ---- numbers only grow

pub number_grows : (n : ℕ) (ds : List ℕ) → n ≤ number_from n ds
number_grows n [] = omega arith
number_grows n (d ∷ ds) = let h = number_grows (10 * n + (d - 48)) ds in omega (arith, h)

-- the number is not less with one digit more
pub number_step : (n i : ℕ) (ds : List ℕ) → i < length ds → 10 * n + (get_or ds i 0 - 48) ≤ number_from n (drop i ds)
number_step n i ds h =
    let e : drop i ds ≡ get_or ds i 0 ∷ drop (suc i) ds = drop-cons ds i 0 h in
    rw e (number_grows (10 * n + (get_or ds i 0 - 48)) (drop (suc i) ds))

-- ---- the begin of a list

pub list_begins : (bs : List ℕ) → pointwise ◌==◌ (take 1 bs) (108 ∷ []) ≡ true → bs ≡ 108 ∷ drop 1 bs
list_begins bs h = let b : behind (108 ∷ []) bs ≡ Some (drop 1 bs) = rw h refl in behind_found (108 ∷ []) bs (drop 1 bs) b

and_right : (a : Bool) → (a && true) ≡ false → a ≡ false
and_right true h = h
and_right false h = refl

pub no_list_begins : (bs : List ℕ) → pointwise ◌==◌ (take 1 bs) (108 ∷ []) ≡ false → begins_list bs ≡ false
no_list_begins [] h = refl
no_list_begins (b ∷ bs) h = and_right (b == 108) h
