-- Values are told from what stands behind them.
use Rattle.std.proofs.Common.{◌≡◌, ℕ, ◌<◌, ◌≤◌, ◌==◌, ℤ, Bool, true, false, cond, true≢false, get_or, List, [], ◌∷◌, ◌++◌, length, decimal, map, codes, FitsSigned, refl, sym, ap, subst, ◌∙◌}
use Rattle.std.proofs.Common.{append_assoc, arith}
use Rattle.std.specs.Int.{w64}
use Rattle.std.specs.Fmt.{digits, signed_decimal}
use Rattle.std.proofs.lemmas.List.{append_cancel_left}
use Rattle.std.proofs.lemmas.Bool.Decides.{nat_tests}
use Rattle.rd_value.specs.Class.{name}
use Rattle.rd_value.specs.Canon.{string, joined, canon, canon_at, keyed}
use Rattle.rd_value.specs.Lawful.{IsLawful, IsLawfulAt}
use Rattle.rd_value.specs.declared.class.Class.{Class}
use Rattle.rd_value.specs.declared.class.Class.TheVariants as class
use Rattle.rd_value.specs.declared.value.FileValue.{FileValue}
use Rattle.rd_value.specs.declared.value.ErrorValue.{ErrorValue}
use Rattle.rd_value.specs.declared.value.Datum.TheVariants as variant
use Rattle.rd_value.specs.declared.value.Datum.TheViews as made
use Rattle.rd_value.specs.declared.value.Datum.TheOpen.{Datum-F}
use Rattle.rd_value.specs.declared.value.Datum.TheFolds.{fold-roll-Datum, map-Datum, every_here-Datum, every_held-Datum}
use Rattle.rd_value.proofs.Ind.{Each, EachPair, datum_ind}
use Rattle.rd_names.specs.Uses.{joined as all_of}
use Rattle.rd_names.proofs.Walking.{map_both}
use Rattle.rd_structure.specs.Values.{Value}
use Rattle.rd_structure.proofs.Digits.{IsDigit, IsSome, decimal_some, decimal_digits, signed_stopped}
use Rattle.rd_structure.proofs.Free.{Part, FreeAt, text, text_free, choice, choice_free, beside, beside_free, begun, begun_free, ended, ended_free, nothing, nothing_free, Begins, run, run_free, kind}
use Rattle.rd_structure.proofs.Free.{kind_named, kind_free, one_of, one_of_free, made_free}

abbrev pub spelled : Value → List ℕ
spelled = canon (λ f. f)

abbrev pub value : Part
value = record { of = Value; bytes = spelled; values = λ v. v ∷ [] }

-- ---- what is true of the parts of a lawful value

abbrev Held : Type 0
Held = (v : Value) × IsLawful v

int_fits : (z : ℤ) → IsLawful (variant.Int z) → FitsSigned w64 z
int_fits z h = subst IsLawfulAt (variant.outs-Int z) (every_here-Datum FileValue IsLawfulAt (variant.Int z) h)

each_of : (hs : List Held) → Each IsLawful (map (λ h. h.0) hs)
each_of [] = tt
each_of (h ∷ hs) = (h.1, each_of hs)

pairs_of : (hs : List (Held × Held)) → EachPair IsLawful (map (λ h. (h.0.0, h.1.0)) hs)
pairs_of [] = tt
pairs_of (h ∷ hs) = ((h.0.1, h.1.1), pairs_of hs)

list_by : (xs : List Value) (y : Datum-F FileValue Held) → map-Datum FileValue Held Value (λ h. h.0) y ≡ Datum-F.List xs → Each IsLawful xs
list_by xs (Datum-F.List hs) e = let is : map (λ h. h.0) hs ≡ xs = cc in subst (Each IsLawful) is (each_of hs)
list_by xs _ e = absurd cc

dict_by : (ps : List (Value × Value)) (y : Datum-F FileValue Held) → map-Datum FileValue Held Value (λ h. h.0) y ≡ Datum-F.Dict ps → EachPair IsLawful ps
dict_by ps (Datum-F.Dict hs) e = let is : map (λ h. (h.0.0, h.1.0)) hs ≡ ps = cc in subst (EachPair IsLawful) is (pairs_of hs)
dict_by ps _ e = absurd cc

list_lawful : (xs : List Value) → IsLawful (variant.List xs) → Each IsLawful xs
list_lawful xs h = let y = every_held-Datum FileValue IsLawfulAt (variant.List xs) h in list_by xs y.0 (y.1 ∙ variant.outs-List xs)

dict_lawful : (ps : List (Value × Value)) → IsLawful (variant.Dict ps) → EachPair IsLawful ps
dict_lawful ps h = let y = every_held-Datum FileValue IsLawfulAt (variant.Dict ps) h in dict_by ps y.0 (y.1 ∙ variant.outs-Dict ps)

-- ---- numbers, truth and classes of errors

abbrev number : Part
number = record { of = ℤ; bytes = λ z. signed_decimal z ++ codes "e"; values = λ z. variant.Int z ∷ [] }

number_free : (z : ℤ) → FreeAt number z
number_free z = record {
  told = λ ok small y r s e. signed_stopped 101 z y r s (omega arith) (int_fits z ok.0) (sym (append_assoc (signed_decimal z) (codes "e") r) ∙ e ∙ append_assoc (signed_decimal y) (codes "e") s);
}

abbrev truth : Part
truth = record { of = Bool; bytes = λ b. cond b (codes "i1ee") (codes "i0ee"); values = λ b. [] }

truth_told : (a b : Bool) (r s : List ℕ) → cond a (codes "i1ee") (codes "i0ee") ++ r ≡ cond b (codes "i1ee") (codes "i0ee") ++ s → (a ≡ b) × (r ≡ s)
truth_told true true r s e = (refl, append_cancel_left (codes "i1ee") r s e)
truth_told true false r s e = absurd (true≢false (ap (λ bs. get_or bs 1 0 == 49) e))
truth_told false true r s e = absurd (true≢false (ap (λ bs. get_or bs 1 0 == 49) (sym e)))
truth_told false false r s e = (refl, append_cancel_left (codes "i0ee") r s e)

truth_free : (a : Bool) → FreeAt truth a
truth_free a = record { told = λ ok small b r s e. truth_told a b r s e }

abbrev classes : List Class
classes =
    class.Exception ∷ class.ValueError ∷ class.TypeError ∷ class.KeyError ∷ class.IndexError ∷ class.ZeroDivisionError ∷ class.OverflowError ∷ class.FileNotFoundError ∷ class.PermissionError
    ∷ class.RuntimeError ∷ class.RecursionError ∷ class.AttributeError ∷ class.NameError ∷ class.LimitError ∷ []

class_named : (c : Class) → kind_named name class.Exception classes (name c) ≡ c
class_named class.Exception = refl
class_named class.ValueError = refl
class_named class.TypeError = refl
class_named class.KeyError = refl
class_named class.IndexError = refl
class_named class.ZeroDivisionError = refl
class_named class.OverflowError = refl
class_named class.FileNotFoundError = refl
class_named class.PermissionError = refl
class_named class.RuntimeError = refl
class_named class.RecursionError = refl
class_named class.AttributeError = refl
class_named class.NameError = refl
class_named class.LimitError = refl

class_free : (c : Class) → FreeAt (kind name) c
class_free c = kind_free name class.Exception classes class_named c

-- ---- files and errors

abbrev file : Part
file = record { of = FileValue; bytes = λ f. string f.path ++ string f.digest.0 ++ codes "e"; values = λ f. [] }

file_free : (f : FileValue) → FreeAt file f
file_free f =
    made_free file (ended (beside text text)) (λ x. record { path = x.0; digest = record { 0 = x.1 } }) (λ x. refl) (λ x ok. tt) (λ g. ((g.path, g.digest.0), refl)) (f.path, f.digest.0)
    (ended_free (beside text text) (f.path, f.digest.0) (beside_free text text f.path f.digest.0 (text_free f.path) (text_free f.digest.0)))

abbrev error : Part
error = record { of = ErrorValue; bytes = λ e. string (name e.class) ++ string e.text ++ codes "e"; values = λ e. [] }

error_free : (e : ErrorValue) → FreeAt error e
error_free e =
    made_free error (ended (beside (kind name) text)) (λ x. record { class = x.0; text = x.1 }) (λ x. refl) (λ x ok. tt) (λ g. ((g.class, g.text), refl)) (e.class, e.text)
    (ended_free (beside (kind name) text) (e.class, e.text) (beside_free (kind name) text e.class e.text (class_free e.class) (text_free e.text)))

-- ---- values behind a mark

data Mark : Type 0 where
  a_nothing : Mark
  a_truth : Mark
  a_list : Mark
  a_dict : Mark
  a_file : Mark
  an_error : Mark

abbrev mark : Mark → List ℕ
mark a_nothing = codes "n"
mark a_truth = codes "b"
mark a_list = codes "l"
mark a_dict = codes "d"
mark a_file = codes "f"
mark an_error = codes "e"

abbrev marks : List Mark
marks = a_nothing ∷ a_truth ∷ a_list ∷ a_dict ∷ a_file ∷ an_error ∷ []

mark_named : (m : Mark) → kind_named mark a_nothing marks (mark m) ≡ m
mark_named a_nothing = refl
mark_named a_truth = refl
mark_named a_list = refl
mark_named a_dict = refl
mark_named a_file = refl
mark_named an_error = refl

abbrev behind_mark : Mark → Part
behind_mark a_nothing = ended nothing
behind_mark a_truth = truth
behind_mark a_list = run value
behind_mark a_dict = run (beside value value)
behind_mark a_file = file
behind_mark an_error = error

-- ---- all values, which the first byte parts

data Front : Type 0 where
  a_number : Front
  a_text : Front
  a_mark : Front

abbrev front_of : ℕ → Front
front_of d = cond (d == 105) a_number (cond (d == 108) a_mark a_text)

abbrev front : List ℕ → Front
front [] = a_text
front (d ∷ ds) = front_of d

abbrev parts : Front → Part
parts a_number = begun (codes "i") number
parts a_text = text
parts a_mark = begun (codes "l") (choice (kind mark) behind_mark)

digit_front : (d : ℕ) → 48 ≤ d → d < 58 → front_of d ≡ a_text
digit_front d low high = let no : (d == 105) ≡ false = grind (arith, nat_tests) in let not : (d == 108) ≡ false = grind (arith, nat_tests) in rw (no, not) refl

text_front : (t r : List ℕ) → front (string t ++ r) ≡ a_text
text_front t r = by (decimal (length t)) (decimal_some (length t)) (decimal_digits (length t))
  where
    by : (ds : List ℕ) → IsSome ds → Each IsDigit ds → front ((ds ++ 58 ∷ t) ++ r) ≡ a_text
    by [] some h = absurd (let e : [] ≡ some.0 ∷ some.1 = some.2 in cc)
    by (d ∷ ds) some h = digit_front d h.0.0 h.0.1

fronts : (k : Front) (x : (parts k).of) (r : List ℕ) → front ((parts k).bytes x ++ r) ≡ k
fronts a_number x r = refl
fronts a_text x r = text_front x r
fronts a_mark x r = refl

-- ---- what values are made of

abbrev Shape : Type 0
Shape = (one_of parts front).of

abbrev marked : (m : Mark) → (behind_mark m).of → Value
marked a_nothing x = variant.Nothing
marked a_truth x = variant.Bool x
marked a_list x = variant.List x
marked a_dict x = variant.Dict x
marked a_file x = variant.File x
marked an_error x = variant.Error x

abbrev make : (k : Front) → (parts k).of → Value
make a_number x = variant.Int x
make a_text x = variant.Text x
make a_mark x = marked x.0 x.1

abbrev made_of : Shape → Value
made_of x = make x.0 x.1

bool_bytes : (b : Bool) → cond b (codes "l1:bi1ee") (codes "l1:bi0ee") ≡ codes "l1:b" ++ truth.bytes b
bool_bytes true = refl
bool_bytes false = refl

marked_bytes : (m : Mark) (x : (behind_mark m).of) → spelled (marked m x) ≡ codes "l" ++ (string (mark m) ++ (behind_mark m).bytes x)
unfolding made.roll-Datum denote.Hole.Carrier.roll digits
marked_bytes a_nothing x = fold-roll-Datum FileValue (List ℕ) (canon_at (λ f. f)) Datum-F.Nothing
marked_bytes a_truth x = fold-roll-Datum FileValue (List ℕ) (canon_at (λ f. f)) (Datum-F.Bool x) ∙ bool_bytes x
marked_bytes a_list x = fold-roll-Datum FileValue (List ℕ) (canon_at (λ f. f)) (Datum-F.List x)
marked_bytes a_dict x = fold-roll-Datum FileValue (List ℕ) (canon_at (λ f. f)) (Datum-F.Dict x) ∙ ap (λ bs. codes "l1:d" ++ joined bs ++ codes "e") (map_both keyed (λ p. (spelled p.0, spelled p.1)) x)
marked_bytes a_file x = fold-roll-Datum FileValue (List ℕ) (canon_at (λ f. f)) (Datum-F.File x)
marked_bytes an_error x = fold-roll-Datum FileValue (List ℕ) (canon_at (λ f. f)) (Datum-F.Error x)

make_bytes : (k : Front) (x : (parts k).of) → spelled (make k x) ≡ (parts k).bytes x
unfolding made.roll-Datum denote.Hole.Carrier.roll
make_bytes a_number x = fold-roll-Datum FileValue (List ℕ) (canon_at (λ f. f)) (Datum-F.Int x)
make_bytes a_text x = fold-roll-Datum FileValue (List ℕ) (canon_at (λ f. f)) (Datum-F.Text x)
make_bytes a_mark x = marked_bytes x.0 x.1

alone : (xs : List Value) → Each IsLawful xs → Each IsLawful (all_of (map (λ v. v ∷ []) xs))
alone [] hs = tt
alone (x ∷ xs) hs = (hs.0, alone xs hs.1)

alone_pairs : (ps : List (Value × Value)) → EachPair IsLawful ps → Each IsLawful (all_of (map (λ p. p.0 ∷ p.1 ∷ []) ps))
alone_pairs [] hs = tt
alone_pairs (p ∷ ps) hs = (hs.0.0, (hs.0.1, alone_pairs ps hs.1))

marked_lawful : (m : Mark) (x : (behind_mark m).of) → IsLawful (marked m x) → Each IsLawful ((behind_mark m).values x)
marked_lawful a_nothing x h = tt
marked_lawful a_truth x h = tt
marked_lawful a_list x h = alone x (list_lawful x h)
marked_lawful a_dict x h = alone_pairs x (dict_lawful x h)
marked_lawful a_file x h = tt
marked_lawful an_error x h = tt

make_lawful : (k : Front) (x : (parts k).of) → Each IsLawful (make k x ∷ []) → Each IsLawful ((parts k).values x)
make_lawful a_number x h = h
make_lawful a_text x h = tt
make_lawful a_mark x h = marked_lawful x.0 x.1 h.0

view : (v : Value) → (x : Shape) × (made_of x ≡ v)
view = datum_ind (λ v. (x : Shape) × (made_of x ≡ v)) ((a_mark, (a_nothing, tt)), refl) (λ b. ((a_mark, (a_truth, b)), refl)) (λ z. ((a_number, z), refl)) (λ t. ((a_text, t), refl))
    (λ xs hs. ((a_mark, (a_list, xs)), refl)) (λ ps hs. ((a_mark, (a_dict, ps)), refl)) (λ f. ((a_mark, (a_file, f)), refl)) (λ e. ((a_mark, (an_error, e)), refl))

made_here : (k : Front) (x : (parts k).of) → FreeAt (parts k) x → FreeAt value (make k x)
made_here k x f =
    made_free value (one_of parts front) made_of (λ y. make_bytes y.0 y.1) (λ y. make_lawful y.0 y.1) view (k, x) (one_of_free parts front fronts k x f)

marked_here : (m : Mark) (x : (behind_mark m).of) → FreeAt (behind_mark m) x → FreeAt value (marked m x)
marked_here m x f =
    made_here a_mark (m, x) (begun_free (codes "l") (choice (kind mark) behind_mark) (m, x) (choice_free (kind mark) behind_mark m x (kind_free mark a_nothing marks mark_named m) f))

begins_by : (k : Front) (x : (parts k).of) → Begins ((parts k).bytes x)
begins_by a_number x = (105, _, refl, λ e. omega (arith, e))
begins_by a_text x = by (decimal (length x)) (decimal_some (length x)) (decimal_digits (length x))
  where
    by : (ds : List ℕ) → IsSome ds → Each IsDigit ds → Begins (ds ++ 58 ∷ x)
    by [] some h = absurd (let e : [] ≡ some.0 ∷ some.1 = some.2 in cc)
    by (d ∷ ds) some h = (d, ds ++ 58 ∷ x, refl, λ e. omega (arith, h.0.1))
begins_by a_mark x = (108, _, refl, λ e. omega (arith, e))

pub value_begins : (v : Value) → Begins (spelled v)
value_begins v = let x = view v in let b = begins_by x.0.0 x.0.1 in (b.0, b.1, ap spelled (sym x.1) ∙ make_bytes x.0.0 x.0.1 ∙ b.2, b.3)

pair_begins : (p : Value × Value) → Begins (spelled p.0 ++ spelled p.1)
pair_begins p = let b = value_begins p.0 in (b.0, b.1 ++ spelled p.1, ap (λ bs. bs ++ spelled p.1) b.2, b.3)

pairs_free : (ps : List (Value × Value)) → EachPair (FreeAt value) ps → Each (FreeAt (beside value value)) ps
pairs_free [] fs = tt
pairs_free (p ∷ ps) fs = (beside_free value value p.0 p.1 fs.0.0 fs.0.1, pairs_free ps fs.1)

pub value_free : (v : Value) → FreeAt value v
value_free = datum_ind (FreeAt value)
    (marked_here a_nothing tt (ended_free nothing tt nothing_free))
    (λ b. marked_here a_truth b (truth_free b))
    (λ z. made_here a_number z (begun_free (codes "i") number z (number_free z)))
    (λ t. made_here a_text t (text_free t))
    (λ xs fs. marked_here a_list xs (run_free value value_begins xs fs))
    (λ ps fs. marked_here a_dict ps (run_free (beside value value) pair_begins ps (pairs_free ps fs)))
    (λ f. marked_here a_file f (file_free f))
    (λ e. marked_here an_error e (error_free e))
