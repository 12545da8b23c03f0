-- One step of a reader, backward.
use Rattle.std.proofs.Common.{◌≡◌, ℕ, ℤ, pos, ◌==◌, Bool, true, false, cond, List, [], ◌∷◌, ◌++◌, length, Option, Some, None, Ok, Err, FitsSigned, refl, sym, ap, subst, ◌∙◌, inl, inr, ◌⊎◌, arith}
use Rattle.std.specs.Int.{w64}
use Rattle.std.specs.Fmt.{signed_decimal}
use Rattle.std.specs.Ordering.{int_eq}
use Rattle.std.specs.Str.{IsUtf8, is_utf8, bytes_eq}
use Rattle.std.proofs.lemmas.Str.{IsUtf8-from_is_utf8}
use Rattle.std.proofs.lemmas.Bool.Decides.{nat_tests, Decides-int_eq}
use Rattle.std.proofs.lemmas.Slice.Eq.{bytes_eq-Decides}
use Rattle.rd_base.specs.Path.{is_path}
use Rattle.rd_base.specs.declared.digest.Digest.{Digest}
use Rattle.rd_value.specs.declared.class.Class.{Class}
use Rattle.rd_value.specs.Canon.{string}
use Rattle.rd_value.specs.Class.{name}
use Rattle.rd_bencode.specs.Reader.{Place, Outcome, Reader, and_then, mean, check, taken, string_at, integer_at, integer, letter_at, behind, first_of, opened, closed, is_first, read_string, read_integer, read_letter, read_open, read_close}
use Rattle.rd_bencode.specs.Meaning.{text_of, path_of, digest_of, class_in, classes, class_of, flag_of}
use Rattle.rd_bencode.proofs.Strings.{opt_inv, behind_found, string_found, integer_found}

abbrev pub got : {A : Type 0} → A × Place → Outcome A
got x = Ok x

pub ok_inj : {A : Type 0} (x y : A × Place) → got x ≡ Ok y → x ≡ y
ok_inj x y e = cc

-- what holds of what was read
pub along : {A : Type 0} (P : A × Place → Type 0) (x y : A × Place) → got x ≡ Ok y → P x → P y
along P x y e p = subst P (ok_inj x y e) p

pub bind_ok : {A B : Type 0} (r : Outcome A) (f : A → Reader B) (y : B × Place) → and_then r f ≡ Ok y → (a : A) × (mid : Place) × (r ≡ Ok (a, mid)) × (f a mid ≡ Ok y)
bind_ok (Ok x) f y e = (x.0, x.1, refl, e)
bind_ok (Err d) f y e = absurd cc

pub way : (b : Bool) → (b ≡ true) ⊎ (b ≡ false)
way true = inl refl
way false = inr refl

pub same_number : (m n : ℕ) → (m == n) ≡ true → m ≡ n
same_number m n h = grind (arith, nat_tests)

pub taken_found : {A : Type 0} (here : List ℕ) (o : Option (A × List ℕ)) (y : A × Place) → taken here o ≡ Ok y → (x : A × List ℕ) × (o ≡ Some x) × ((x.0, (x.1, here)) ≡ y)
taken_found here None y e = absurd cc
taken_found here (Some x) y e = (x, refl, ok_inj (x.0, (x.1, here)) y e)

pub read_string_found : (s : Place) (y : List ℕ × Place) → read_string s ≡ Ok y → s.0 ≡ string y.0 ++ y.1.0
read_string_found s y h = let a = taken_found s.0 (string_at s.0) y h in subst (λ (y : List ℕ × Place). s.0 ≡ string y.0 ++ y.1.0) a.2 (string_found s.0 a.0 a.1)

-- ---- integers

abbrev IntegerFound : Place → ℤ × Place → Type 0
IntegerFound s y = (s.0 ≡ 105 ∷ (signed_decimal y.0 ++ (101 ∷ y.1.0))) × FitsSigned w64 y.0

integer_by : (b : ℕ) (bs : List ℕ) (x : ℤ × List ℕ) (t : Bool) → (b == 105) ≡ t → cond t (integer_at bs) None ≡ Some x → (b ∷ bs ≡ 105 ∷ (signed_decimal x.0 ++ (101 ∷ x.1))) × FitsSigned w64 x.0
integer_by b bs x true e h = let i = integer_found bs x h in (ap (λ c. c ∷ bs) (same_number b 105 e) ∙ ap (λ r. 105 ∷ r) i.0, i.1)
integer_by b bs x false e h = absurd cc

integer_in : (bs : List ℕ) (x : ℤ × List ℕ) → integer bs ≡ Some x → (bs ≡ 105 ∷ (signed_decimal x.0 ++ (101 ∷ x.1))) × FitsSigned w64 x.0
integer_in [] x h = absurd cc
integer_in (b ∷ bs) x h = integer_by b bs x (b == 105) refl h

pub read_integer_found : (s : Place) (y : ℤ × Place) → read_integer s ≡ Ok y → (s.0 ≡ 105 ∷ (signed_decimal y.0 ++ (101 ∷ y.1.0))) × FitsSigned w64 y.0
read_integer_found s y h = let a = taken_found s.0 (integer s.0) y h in subst (IntegerFound s) a.2 (integer_in s.0 a.0 a.1)

-- ---- letters, begins and ends

first_found : (bs : List ℕ) (x : ℕ × List ℕ) → first_of bs ≡ Some x → bs ≡ x.0 ∷ x.1
first_found [] x h = absurd cc
first_found (b ∷ bs) x h = let p : (let q : ℕ × List ℕ = (b, bs) in q) ≡ x = cc in ap (λ (q : ℕ × List ℕ). q.0 ∷ q.1) p

letter_found : (bs : List ℕ) (x : ℕ × List ℕ) → letter_at bs ≡ Some x → bs ≡ 49 ∷ 58 ∷ x.0 ∷ x.1
letter_found bs x h = let a = opt_inv (behind (49 ∷ 58 ∷ []) bs) first_of x h in behind_found (49 ∷ 58 ∷ []) bs a.0 a.1 ∙ ap (λ r. 49 ∷ 58 ∷ r) (first_found a.0 x a.2)

pub read_letter_found : (s : Place) (y : ℕ × Place) → read_letter s ≡ Ok y → s.0 ≡ 49 ∷ 58 ∷ y.0 ∷ y.1.0
read_letter_found s y h = let a = taken_found s.0 (letter_at s.0) y h in subst (λ (y : ℕ × Place). s.0 ≡ 49 ∷ 58 ∷ y.0 ∷ y.1.0) a.2 (letter_found s.0 a.0 a.1)

opened_by : (b : ℕ) (bs : List ℕ) (x : Unit {0} × List ℕ) (t : Bool) → (b == 108) ≡ t → cond t (Some (tt, bs)) None ≡ Some x → b ∷ bs ≡ 108 ∷ x.1
opened_by b bs x true e h = let p : (let q : Unit {0} × List ℕ = (tt, bs) in q) ≡ x = cc in ap (λ c. c ∷ bs) (same_number b 108 e) ∙ ap (λ (q : Unit {0} × List ℕ). 108 ∷ q.1) p
opened_by b bs x false e h = absurd cc

opened_found : (bs : List ℕ) (x : Unit {0} × List ℕ) → opened bs ≡ Some x → bs ≡ 108 ∷ x.1
opened_found [] x h = absurd cc
opened_found (b ∷ bs) x h = opened_by b bs x (b == 108) refl h

pub read_open_found : (s : Place) (y : Unit {0} × Place) → read_open s ≡ Ok y → s.0 ≡ 108 ∷ y.1.0
read_open_found s y h = let a = taken_found s.0 (opened s.0) y h in subst (λ (y : Unit {0} × Place). s.0 ≡ 108 ∷ y.1.0) a.2 (opened_found s.0 a.0 a.1)

no_end : (b : ℕ) (bs last : List ℕ) (y : Unit {0} × Place) (u : Bool) → cond u (let r : Outcome (Unit {0}) = Err (b ∷ bs) in r) (Err last) ≡ Ok y → b ∷ bs ≡ 101 ∷ y.1.0
no_end b bs last y true h = absurd cc
no_end b bs last y false h = absurd cc

closed_by : (b : ℕ) (bs last : List ℕ) (y : Unit {0} × Place) (t : Bool) → (b == 101) ≡ t → cond t (let r : Outcome (Unit {0}) = Ok (tt, (bs, last)) in r) (cond (is_first b) (Err (b ∷ bs)) (Err last)) ≡ Ok y → b ∷ bs ≡ 101 ∷ y.1.0
closed_by b bs last y true e h = ap (λ c. c ∷ bs) (same_number b 101 e) ∙ ap (λ (y : Unit {0} × Place). 101 ∷ y.1.0) (ok_inj (tt, (bs, last)) y h)
closed_by b bs last y false e h = no_end b bs last y (is_first b) h

closed_found : (bs last : List ℕ) (y : Unit {0} × Place) → closed bs last ≡ Ok y → bs ≡ 101 ∷ y.1.0
closed_found [] last y h = absurd cc
closed_found (b ∷ bs) last y h = closed_by b bs last y (b == 101) refl h

pub read_close_found : (s : Place) (y : Unit {0} × Place) → read_close s ≡ Ok y → s.0 ≡ 101 ∷ y.1.0
read_close_found s y h = closed_found s.0 s.1 y h

-- ---- what an item means

pub mean_found : {A : Type 0} (o : Option A) (s : Place) (y : A × Place) → mean o s ≡ Ok y → (o ≡ Some y.0) × (s ≡ y.1)
mean_found None s y h = absurd cc
mean_found {A} (Some a) s y h = let p = ok_inj (a, s) y h in (ap (λ (y : A × Place). let o : Option A = Some y.0 in o) p, ap (λ (y : A × Place). y.1) p)

pub check_found : (b : Bool) (s : Place) (y : Unit {0} × Place) → check b s ≡ Ok y → (b ≡ true) × (s ≡ y.1)
check_found false s y h = absurd cc
check_found true s y h = (refl, ap (λ (y : Unit {0} × Place). y.1) (ok_inj (tt, s) y h))

text_by : (bs t : List ℕ) (b : Bool) → is_utf8 bs ≡ b → cond b (Some bs) None ≡ Some t → (bs ≡ t) × IsUtf8 t
text_by bs t true e h = let p : bs ≡ t = cc in (p, subst IsUtf8 p (IsUtf8-from_is_utf8 bs e))
text_by bs t false e h = absurd cc

pub text_found : (bs t : List ℕ) → text_of bs ≡ Some t → (bs ≡ t) × IsUtf8 t
unfolding text_of
text_found bs t h = text_by bs t (is_utf8 bs) refl h

path_by : (bs t : List ℕ) (b : Bool) → is_path bs ≡ b → cond b (text_of bs) None ≡ Some t → (bs ≡ t) × (is_path t ≡ true) × IsUtf8 t
path_by bs t true e h = let p = text_found bs t h in (p.0, subst (λ t. is_path t ≡ true) p.0 e, p.1)
path_by bs t false e h = absurd cc

pub path_found : (bs t : List ℕ) → path_of bs ≡ Some t → (bs ≡ t) × (is_path t ≡ true) × IsUtf8 t
unfolding path_of
path_found bs t h = path_by bs t (is_path bs) refl h

digest_by : (bs : List ℕ) (d : Digest) (b : Bool) → (length bs == 32) ≡ b → cond b (let o : Option Digest = Some (record { 0 = bs }) in o) None ≡ Some d → (bs ≡ d.0) × (length d.0 ≡ 32)
digest_by bs d true e h = let p : (let g : Digest = record { 0 = bs } in g) ≡ d = cc in let q : bs ≡ d.0 = ap (λ (g : Digest). g.0) p in (q, ap length (sym q) ∙ same_number (length bs) 32 e)
digest_by bs d false e h = absurd cc

pub digest_found : (bs : List ℕ) (d : Digest) → digest_of bs ≡ Some d → (bs ≡ d.0) × (length d.0 ≡ 32)
unfolding digest_of
digest_found bs d h = digest_by bs d (length bs == 32) refl h

class_by : (c : Class) (cs : List Class) (bs : List ℕ) (k : Class) → (class_in cs bs ≡ Some k → bs ≡ name k) → (b : Bool) → bytes_eq bs (name c) ≡ b → cond b (Some c) (class_in cs bs) ≡ Some k → bs ≡ name k
class_by c cs bs k f true e h = let p : c ≡ k = cc in (bytes_eq-Decides bs (name c)).0 e ∙ ap name p
class_by c cs bs k f false e h = f h

class_in_found : (cs : List Class) (bs : List ℕ) (k : Class) → class_in cs bs ≡ Some k → bs ≡ name k
class_in_found [] bs k h = absurd cc
class_in_found (c ∷ cs) bs k h = class_by c cs bs k (class_in_found cs bs k) (bytes_eq bs (name c)) refl h

pub class_found : (bs : List ℕ) (k : Class) → class_of bs ≡ Some k → bs ≡ name k
unfolding class_of
class_found bs k h = class_in_found classes bs k h

flag_one : (z : ℤ) (f : Bool) (b : Bool) → int_eq z (pos 1) ≡ b → cond b (Some true) None ≡ Some f → z ≡ cond f (pos 1) (pos 0)
flag_one z f true e h = let p : true ≡ f = cc in (Decides-int_eq z (pos 1)).0 e ∙ ap (λ f. cond f (pos 1) (pos 0)) p
flag_one z f false e h = absurd cc

flag_by : (z : ℤ) (f : Bool) (b : Bool) → int_eq z (pos 0) ≡ b → cond b (Some false) (cond (int_eq z (pos 1)) (Some true) None) ≡ Some f → z ≡ cond f (pos 1) (pos 0)
flag_by z f true e h = let p : false ≡ f = cc in (Decides-int_eq z (pos 0)).0 e ∙ ap (λ f. cond f (pos 1) (pos 0)) p
flag_by z f false e h = flag_one z f (int_eq z (pos 1)) refl h

pub flag_found : (z : ℤ) (f : Bool) → flag_of z ≡ Some f → z ≡ cond f (pos 1) (pos 0)
flag_found z f h = flag_by z f (int_eq z (pos 0)) refl h
