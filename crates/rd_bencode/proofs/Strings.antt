-- Integers and byte strings are read back, and nothing else is.
use Rattle.std.proofs.Common.{◌≡◌, ℕ, zero, suc, ◌+◌, ◌*◌, ◌-◌, ◌/◌, ◌%◌, ◌<◌, ◌≤◌, ◌^◌, ◌==◌, ℤ, pos, negsuc, Bool, true, false, cond, List, [], ◌∷◌, ◌++◌, length, take, drop, decimal, Option, Some, None, FitsSigned, refl, sym, ap, subst, ◌∙◌, append_assoc, arith, nat_le, rules}
use Rattle.std.specs.Int.{w64}
use Rattle.std.specs.Fmt.{signed_decimal}
use Rattle.std.specs.Cmp.Lexicographic.{pointwise, bytes_decides}
use Rattle.std.proofs.lemmas.Bool.Decides.{nat_tests}
use Rattle.std.proofs.lemmas.Fmt.{decimal_by_steps}
use Rattle.std.proofs.lemmas.List.{take-append-drop, length-take-le, length-append}
use Rattle.std.proofs.Math.Seq.{take-append_seam, drop-append_seam}
use Rattle.rd_value.specs.Canon.{string}
use Rattle.rd_bencode.specs.Reader.{opt_then, is_digit, greatest, greatest_signed, with_digit, leading, behind, cut, string_at, positive, negative, signed, integer_at}

pub le_of : (m n : ℕ) → nat_le m n ≡ true → m ≤ n
le_of m n h = grind (arith, nat_tests)

pub le_to : (m n : ℕ) → m ≤ n → nat_le m n ≡ true
le_to m n h = grind (arith, nat_tests)

pub opt_inv : {A B : Type 0} (o : Option A) (f : A → Option B) (y : B) → opt_then o f ≡ Some y → (a : A) × (o ≡ Some a) × (f a ≡ Some y)
opt_inv None f y e = absurd cc
opt_inv (Some a) f y e = (a, refl, e)

-- ---- what stands behind a text

behind_by : (text bs r : List ℕ) (b : Bool) → pointwise ◌==◌ (take (length text) bs) text ≡ b → cond b (Some (drop (length text) bs)) None ≡ Some r → bs ≡ text ++ r
behind_by text bs r true e h =
    let t : take (length text) bs ≡ text = (bytes_decides (take (length text) bs) text).0 e in
    let d : drop (length text) bs ≡ r = cc in
    sym (take-append-drop (length text) bs) ∙ (ap (λ x. x ++ drop (length text) bs) t ∙ ap (λ y. text ++ y) d)
behind_by text bs r false e h = absurd cc

pub behind_found : (text bs r : List ℕ) → behind text bs ≡ Some r → bs ≡ text ++ r
behind_found text bs r h = behind_by text bs r _ refl h

pub behind_only : (text r : List ℕ) → behind text (text ++ r) ≡ Some r
behind_only text r = let same : pointwise ◌==◌ (take (length text) (text ++ r)) text ≡ true = (bytes_decides _ text).1 (take-append_seam text r) in rw (same, drop-append_seam text r) refl

-- ---- so many bytes

pair_is : {A B : Type 0} (a : A) (b : B) (x : A × B) → (let o : Option (A × B) = Some (a, b) in o) ≡ Some x → (a ≡ x.0) × (b ≡ x.1)
pair_is {A} {B} a b x e = let p : (let q : A × B = (a, b) in q) ≡ x = cc in (ap (λ (q : A × B). q.0) p, ap (λ (q : A × B). q.1) p)

cut_by : (n : ℕ) (bs : List ℕ) (x : List ℕ × List ℕ) (b : Bool) → nat_le n (length bs) ≡ b → cond b (Some (take n bs, drop n bs)) None ≡ Some x → (bs ≡ x.0 ++ x.1) × (length x.0 ≡ n)
cut_by n bs x true e h =
    let p = pair_is (take n bs) (drop n bs) x h in
    (sym (take-append-drop n bs) ∙ (ap (λ y. y ++ drop n bs) p.0 ∙ ap (λ y. x.0 ++ y) p.1), sym (ap length p.0) ∙ length-take-le n bs (le_of n (length bs) e))
cut_by n bs x false e h = absurd cc

pub cut_found : (n : ℕ) (bs : List ℕ) (x : List ℕ × List ℕ) → cut n bs ≡ Some x → (bs ≡ x.0 ++ x.1) × (length x.0 ≡ n)
cut_found n bs x h = cut_by n bs x _ refl h

pub cut_only : (xs r : List ℕ) → cut (length xs) (xs ++ r) ≡ Some (xs, r)
cut_only xs r = let room : nat_le (length xs) (length (xs ++ r)) ≡ true = le_to _ _ (simp length-append (omega arith)) in rw (room, take-append_seam xs r, drop-append_seam xs r) refl

-- ---- numbers

abbrev BeginsWithDigit : List ℕ → Type 0
BeginsWithDigit bs = (d : ℕ) × (more : List ℕ) × (bs ≡ d ∷ more) × (is_digit d ≡ true)

pub digit_is : (n : ℕ) → n < 10 → is_digit (48 + n) ≡ true
digit_is n h = let a : nat_le 48 (48 + n) ≡ true = le_to _ _ (omega arith) in let b : nat_le (48 + n) 57 ≡ true = le_to _ _ (omega arith) in rw (a, b) refl

pub decimal_begins : (n : ℕ) (r : List ℕ) → n < 2 ^ 64 → BeginsWithDigit (decimal n ++ r)
decimal_begins n r small =
    decimal_by_steps (λ n ds. (r : List ℕ) → BeginsWithDigit (ds ++ r))
    (λ n h r. (48 + n, r, refl, digit_is n h))
    (λ n ds h f r. let g = f ((48 + n % 10) ∷ r) in (g.0, g.1, append_assoc ds ((48 + n % 10) ∷ []) r ∙ g.2, g.3))
    n small r

with_digit_is : (m d : ℕ) → d < 10 → 10 * m + d ≤ greatest → with_digit m (48 + d) ≡ Some (10 * m + d)
with_digit_is m d h le = let e : 10 * m + ((48 + d) - 48) ≡ 10 * m + d = omega arith in let room : nat_le (10 * m + d) greatest ≡ true = le_to _ _ le in rw (e, room) refl

leading_digit : (m d : ℕ) (r : List ℕ) → d < 10 → 10 * m + d ≤ greatest → leading m ((48 + d) ∷ r) ≡ leading (10 * m + d) r
leading_digit m d r h le = rw (digit_is d h, with_digit_is m d h le) refl

abbrev LeadsTo : ℕ → List ℕ → Type 0
LeadsTo n ds = n ≤ greatest → (r : List ℕ) → leading 0 (ds ++ r) ≡ leading n r

leads_one : (n : ℕ) → n < 10 → LeadsTo n ((48 + n) ∷ [])
leads_one n h le r = let e : 10 * 0 + n ≡ n = omega arith in leading_digit 0 n r h (omega (arith, le)) ∙ ap (λ k. leading k r) e

leads_more : (n : ℕ) (ds : List ℕ) → 10 ≤ n → LeadsTo (n / 10) ds → LeadsTo n (ds ++ ((48 + n % 10) ∷ []))
leads_more n ds h f le r =
    let e : 10 * (n / 10) + n % 10 ≡ n = omega arith in
    ap (leading 0) (append_assoc ds ((48 + n % 10) ∷ []) r) ∙ (f (omega (arith, le)) ((48 + n % 10) ∷ r) ∙ (leading_digit (n / 10) (n % 10) r (omega arith) (omega (arith, le, e)) ∙ ap (λ k. leading k r) e))

pub leading_decimal : (n : ℕ) (r : List ℕ) → n ≤ greatest → leading 0 (decimal n ++ r) ≡ leading n r
leading_decimal n r le = decimal_by_steps LeadsTo leads_one leads_more n (omega (arith, le)) le r

-- ---- byte strings

pub string_found : (bs : List ℕ) (x : List ℕ × List ℕ) → string_at bs ≡ Some x → bs ≡ string x.0 ++ x.1
string_found bs x h =
    let a = opt_inv (leading 0 bs) (λ n. opt_then (behind (decimal n) bs) (λ r. opt_then (behind (58 ∷ []) r) (λ t. cut n t))) x h in
    let b = opt_inv (behind (decimal a.0) bs) (λ r. opt_then (behind (58 ∷ []) r) (λ t. cut a.0 t)) x a.2 in
    let d = opt_inv (behind (58 ∷ []) b.0) (λ t. cut a.0 t) x b.2 in
    let e = cut_found a.0 d.0 x d.2 in
    let first : bs ≡ decimal (length x.0) ++ b.0 = behind_found (decimal a.0) bs b.0 b.1 ∙ ap (λ k. decimal k ++ b.0) (sym e.1) in
    let second : b.0 ≡ 58 ∷ (x.0 ++ x.1) = behind_found (58 ∷ []) b.0 d.0 d.1 ∙ ap (λ y. 58 ∷ y) e.0 in
    first ∙ (ap (λ y. decimal (length x.0) ++ y) second ∙ sym (append_assoc (decimal (length x.0)) (58 ∷ x.0) x.1))

pub string_only : (xs r : List ℕ) → length xs ≤ greatest → string_at (string xs ++ r) ≡ Some (xs, r)
string_only xs r le =
    let assoc : string xs ++ r ≡ decimal (length xs) ++ (58 ∷ (xs ++ r)) = append_assoc (decimal (length xs)) (58 ∷ xs) r in
    rw (assoc, leading_decimal (length xs) (58 ∷ (xs ++ r)) le, behind_only (decimal (length xs)) (58 ∷ (xs ++ r))) (cut_only xs r)

-- ---- integers

by_fits : (n : ℕ) (z y : ℤ) (b : Bool) → nat_le n greatest_signed ≡ b → cond b (let o : Option ℤ = Some y in o) None ≡ Some z → (y ≡ z) × (n ≤ greatest_signed)
by_fits n z y true e h = (cc, le_of n greatest_signed e)
by_fits n z y false e h = absurd cc

fits_positive : (n : ℕ) (z : ℤ) → positive n ≡ Some z → FitsSigned w64 z
fits_positive n z h = let p = by_fits n z (pos n) _ refl h in subst (FitsSigned w64) p.0 (let small : n ≤ greatest_signed = p.1 in search (rules))

fits_negative : (n : ℕ) (z : ℤ) → negative n ≡ Some z → FitsSigned w64 z
fits_negative zero z h = absurd cc
fits_negative (suc n) z h = let p = by_fits n z (negsuc n) _ refl h in subst (FitsSigned w64) p.0 (let small : n ≤ greatest_signed = p.1 in search (rules))

signed_by : (b : ℕ) (bs : List ℕ) (z : ℤ) (t : Bool) → cond t (opt_then (leading 0 bs) negative) (opt_then (leading 0 (b ∷ bs)) positive) ≡ Some z → FitsSigned w64 z
signed_by b bs z true h = let a = opt_inv (leading 0 bs) negative z h in fits_negative a.0 z a.2
signed_by b bs z false h = let a = opt_inv (leading 0 (b ∷ bs)) positive z h in fits_positive a.0 z a.2

signed_fits : (bs : List ℕ) (z : ℤ) → signed bs ≡ Some z → FitsSigned w64 z
signed_fits [] z h = absurd cc
signed_fits (b ∷ bs) z h = signed_by b bs z (b == 45) h

pub integer_found : (bs : List ℕ) (x : ℤ × List ℕ) → integer_at bs ≡ Some x → (bs ≡ signed_decimal x.0 ++ (101 ∷ x.1)) × FitsSigned w64 x.0
integer_found bs x h =
    let a = opt_inv (signed bs) (λ z. opt_then (behind (signed_decimal z) bs) (λ r. opt_then (behind (101 ∷ []) r) (λ t. Some (z, t)))) x h in
    let b = opt_inv (behind (signed_decimal a.0) bs) (λ r. opt_then (behind (101 ∷ []) r) (λ t. Some (a.0, t))) x a.2 in
    let d = opt_inv (behind (101 ∷ []) b.0) (λ t. Some (a.0, t)) x b.2 in
    let e = pair_is a.0 d.0 x d.2 in
    let first : bs ≡ signed_decimal x.0 ++ b.0 = behind_found (signed_decimal a.0) bs b.0 b.1 ∙ ap (λ k. signed_decimal k ++ b.0) e.0 in
    let second : b.0 ≡ 101 ∷ x.1 = behind_found (101 ∷ []) b.0 d.0 d.1 ∙ ap (λ y. 101 ∷ y) e.1 in
    (first ∙ ap (λ y. signed_decimal x.0 ++ y) second, subst (FitsSigned w64) e.0 (signed_fits bs a.0 a.1))

not_minus : (d : ℕ) → is_digit d ≡ true → (d == 45) ≡ false
not_minus d h = by_test (d == 45) refl
  where
    by_test : (b : Bool) → (d == 45) ≡ b → b ≡ false
    by_test true e = absurd (let is : d ≡ 45 = grind (arith, nat_tests) in let bad : false ≡ true = subst (λ k. is_digit k ≡ true) is h in cc)
    by_test false e = refl

signed_decimal_read : (z : ℤ) (r : List ℕ) → FitsSigned w64 z → signed (signed_decimal z ++ (101 ∷ r)) ≡ Some z
signed_decimal_read (pos n) r fits =
    let small : n ≤ greatest_signed = search (rules) in
    let room : nat_le n greatest_signed ≡ true = le_to n greatest_signed small in
    let begins = decimal_begins n (101 ∷ r) (omega (arith, small)) in
    let reads : leading 0 (begins.0 ∷ begins.1) ≡ Some n = ap (leading 0) (sym begins.2) ∙ leading_decimal n (101 ∷ r) (omega (arith, small)) in
    rw (begins.2, not_minus begins.0 begins.3, reads, room) refl
signed_decimal_read (negsuc n) r fits =
    let small : n ≤ greatest_signed = search (rules) in
    let room : nat_le n greatest_signed ≡ true = le_to n greatest_signed small in
    let reads : leading 0 (decimal (suc n) ++ (101 ∷ r)) ≡ Some (suc n) = leading_decimal (suc n) (101 ∷ r) (omega (arith, small)) in
    rw (reads, room) refl

pub integer_only : (z : ℤ) (r : List ℕ) → FitsSigned w64 z → integer_at (signed_decimal z ++ (101 ∷ r)) ≡ Some (z, r)
integer_only z r fits = rw (signed_decimal_read z r fits, behind_only (signed_decimal z) (101 ∷ r)) refl
