-- The digits of a number of any size.
use Rattle.std.proofs.Common.{◌≡◌, ℕ, zero, suc, ◌+◌, ◌/◌, ◌%◌, ◌<◌, ◌≤◌, ◌^◌, ◌==◌, ℤ, pos, negsuc, Bool, true, false, cond, List, [], ◌∷◌, ◌++◌, length, decimal, FitsSigned, nat_lt, refl, sym, ap}
use Rattle.std.proofs.Common.{ap₂, ◌∙◌, append_assoc, pow-suc, arith}
use Rattle.std.specs.Int.{w64}
use Rattle.std.specs.Fmt.{digits, digits_onto, digit_glyph, signed_decimal}
use Rattle.std.proofs.lemmas.Bool.Decides.{nat_tests}
use Rattle.std.proofs.lemmas.Fmt.{decimal_is_IsNumeral_wide, length-decimal-le}
use Rattle.std.specs.Str.Parse.{digits_value}
use Rattle.rd_value.specs.Canon.{string}
use Rattle.rd_value.proofs.Ind.{Each}

-- a byte from 0 to 9
abbrev pub IsDigit : ℕ → Type 0
IsDigit d = (48 ≤ d) × (d < 58)

last : ℕ → ℕ
last n = digit_glyph false (n % 10)

last_is_digit : (n : ℕ) → IsDigit (last n)
unfolding last
last_is_digit n = (grind (arith, nat_tests), grind (arith, nat_tests))

either : {A : Type 0} (P : A → Type 0) (b : Bool) (x y : A) → P x → P y → P (cond b x y)
either P true x y p q = p
either P false x y p q = q

are_digits : (k n : ℕ) (more : List ℕ) → Each IsDigit more → Each IsDigit (digits_onto k 10 false n more)
unfolding last
are_digits zero n more h = h
are_digits (suc k) n more h =
    let now : Each IsDigit (last n ∷ more) = (last_is_digit n, h) in
    either (Each IsDigit) (n / 10 == 0) (last n ∷ more) (digits_onto k 10 false (n / 10) (last n ∷ more)) now (are_digits k (n / 10) (last n ∷ more) now)

pub decimal_digits : (n : ℕ) → Each IsDigit (decimal n)
unfolding digits
decimal_digits n = are_digits 64 n [] tt

-- a list that isn't empty
abbrev pub IsSome : List ℕ → Type 0
IsSome bs = (d : ℕ) × (more : List ℕ) × (bs ≡ d ∷ more)

some_digits : (k n d : ℕ) (more : List ℕ) → IsSome (digits_onto k 10 false n (d ∷ more))
unfolding last
some_digits zero n d more = (d, more, refl)
some_digits (suc k) n d more = either IsSome (n / 10 == 0) _ _ (last n, d ∷ more, refl) (some_digits k (n / 10) (last n) (d ∷ more))

pub decimal_some : (n : ℕ) → IsSome (decimal n)
unfolding digits last
decimal_some n = either IsSome (n / 10 == 0) _ _ (last n, [], refl) (some_digits 63 (n / 10) (last n) [])

ten_some : (k : ℕ) → 0 < 10 ^ k
ten_some zero = omega arith
ten_some (suc k) = omega (arith, pow-suc 10 k, ten_some k)

-- where a number has too many digits, all places are taken
full : (k n : ℕ) (more : List ℕ) → 10 ^ k ≤ n → length (digits_onto k 10 false n more) ≡ k + length more
unfolding last
full zero n more h = omega arith
full (suc k) n more h = by (n / 10 == 0) refl (full k (n / 10) (last n ∷ more))
  where
    large : 10 ^ k ≤ n / 10
    large = omega (arith, pow-suc 10 k)

    by : (b : Bool) → (n / 10 == 0) ≡ b → (10 ^ k ≤ n / 10 → length (digits_onto k 10 false (n / 10) (last n ∷ more)) ≡ k + length (last n ∷ more))
        → length (cond b (last n ∷ more) (digits_onto k 10 false (n / 10) (last n ∷ more))) ≡ suc k + length more
    by true e rest = let none : n / 10 ≡ 0 = grind (arith, nat_tests) in absurd (omega (arith, large, none, ten_some k))
    by false e rest = omega (arith, rest large)

long : (n : ℕ) → 10 ^ 64 ≤ n → length (decimal n) ≡ 64
unfolding digits
long n h = omega (arith, full 64 n [] h)

-- a number of 64 bits has the digits of no other number
pub only_decimal : (m n : ℕ) → m < 2 ^ 64 → decimal m ≡ decimal n → m ≡ n
only_decimal m n small e = by (nat_lt n (10 ^ 64)) refl
  where
    by : (b : Bool) → nat_lt n (10 ^ 64) ≡ b → m ≡ n
    by true h = let wide : n < 10 ^ 64 = grind (arith, nat_tests) in sym (decimal_is_IsNumeral_wide m (omega arith)).1 ∙ ap (digits_value 10) e ∙ (decimal_is_IsNumeral_wide n wide).1
    by false h = let wide : 10 ^ 64 ≤ n = grind (arith, nat_tests) in absurd (omega (arith, ap length e, long n wide, length-decimal-le 20 m (omega arith) (omega arith) small))

-- digits end where another byte stands
pub stopped : (stop : ℕ) → 58 ≤ stop → (xs ys r s : List ℕ) → Each IsDigit xs → Each IsDigit ys → xs ++ (stop ∷ r) ≡ ys ++ (stop ∷ s) → (xs ≡ ys) × (r ≡ s)
stopped stop h [] [] r s ds es e = (refl, cc)
stopped stop h [] (y ∷ ys) r s ds es e = let is : stop ≡ y = cc in absurd (omega arith)
stopped stop h (x ∷ xs) [] r s ds es e = let is : x ≡ stop = cc in absurd (omega arith)
stopped stop h (x ∷ xs) (y ∷ ys) r s ds es e =
    let is : x ≡ y = cc in
    let rest : xs ++ (stop ∷ r) ≡ ys ++ (stop ∷ s) = cc in
    let t = stopped stop h xs ys r s ds.1 es.1 rest in
    (ap₂ ◌∷◌ is t.0, t.1)

pub decimal_stopped : (stop m n : ℕ) (r s : List ℕ) → 58 ≤ stop → m < 2 ^ 64 → decimal m ++ (stop ∷ r) ≡ decimal n ++ (stop ∷ s) → (m ≡ n) × (r ≡ s)
decimal_stopped stop m n r s h small e =
    let t = stopped stop h (decimal m) (decimal n) r s (decimal_digits m) (decimal_digits n) e in
    (only_decimal m n small t.0, t.1)

-- a minus is no digit
no_minus : (n : ℕ) (r s : List ℕ) → decimal n ++ r ≡ 45 ∷ s → ⊥
no_minus n r s e = by (decimal n) (decimal_some n) (decimal_digits n) e
  where
    by : (ds : List ℕ) → IsSome ds → Each IsDigit ds → ds ++ r ≡ 45 ∷ s → ⊥
    by [] some h e = cc (some.2)
    by (d ∷ ds) some h e = let is : d ≡ 45 = cc in omega arith

pub signed_stopped : (stop : ℕ) (y z : ℤ) (r s : List ℕ) → 58 ≤ stop → FitsSigned w64 y → signed_decimal y ++ (stop ∷ r) ≡ signed_decimal z ++ (stop ∷ s) → (y ≡ z) × (r ≡ s)
signed_stopped stop (pos m) (pos n) r s h fits e = let t = decimal_stopped stop m n r s h (omega (arith, fits.sfits)) e in (ap pos t.0, t.1)
signed_stopped stop (pos m) (negsuc n) r s h fits e = absurd (no_minus m _ _ e)
signed_stopped stop (negsuc m) (pos n) r s h fits e = absurd (no_minus n _ _ (sym e))
signed_stopped stop (negsuc m) (negsuc n) r s h fits e =
    let rest : decimal (suc m) ++ (stop ∷ r) ≡ decimal (suc n) ++ (stop ∷ s) = cc in
    let t = decimal_stopped stop (suc m) (suc n) r s h (omega (arith, fits.sfits)) rest in
    let same : m ≡ n = omega (arith, t.0) in
    (ap negsuc same, t.1)

-- lists of one length end at one place
pub cut : (xs ys r s : List ℕ) → length xs ≡ length ys → xs ++ r ≡ ys ++ s → (xs ≡ ys) × (r ≡ s)
cut [] [] r s h e = (refl, e)
cut [] (y ∷ ys) r s h e = absurd (omega arith)
cut (x ∷ xs) [] r s h e = absurd (omega arith)
cut (x ∷ xs) (y ∷ ys) r s h e =
    let is : x ≡ y = cc in
    let rest : xs ++ r ≡ ys ++ s = cc in
    let t = cut xs ys r s (omega arith) rest in
    (ap₂ ◌∷◌ is t.0, t.1)

-- a byte string of a length of 64 bits is told from every other
pub string_told : (xs ys r s : List ℕ) → length xs < 2 ^ 64 → string xs ++ r ≡ string ys ++ s → (xs ≡ ys) × (r ≡ s)
string_told xs ys r s small e =
    let sums = sym (append_assoc (decimal (length xs)) (58 ∷ xs) r) ∙ e ∙ append_assoc (decimal (length ys)) (58 ∷ ys) s in
    let t = decimal_stopped 58 (length xs) (length ys) (xs ++ r) (ys ++ s) (omega arith) small sums in
    cut xs ys r s t.0 t.1
