-- Each number that isn't too great is spelled by some token, and each token's number isn't too great.
use Rattle.std.proofs.Common.{◌≡◌, ◌≤◌, ◌<◌, ◌+◌, ◌-◌, ◌*◌, ◌/◌, ◌%◌, ℕ, zero, suc, ℤ, pos, Bool, true, false, ◌&&◌, cond, List, [], ◌∷◌, ◌++◌, Option, Some, None, refl, sym, ap, ◌∙◌, arith}
use Rattle.std.specs.Prelude.{nat_le}
use Rattle.std.specs.Option.{option_map}
use Rattle.std.proofs.lemmas.Bool.{leb-true, le-leb}
use Rattle.std.proofs.Math.Nat.{div-lt_self, mod-lt, div-add-mod}
use Rattle.rd_syntax.specs.declared.token.TokenKind.TheVariants as kind
use Rattle.rd_syntax.specs.declared.token.Token.{Token}
use Rattle.rd_parse.specs.declared.terminal.Terminal.{Terminal}
use Rattle.rd_parse.specs.declared.terminal.Terminal.TheVariants as w
use Rattle.rd_parse.specs.Terminal.{terminal, is_digit, greatest, with_digit, digits_then, digits_from, counted, number_of}
use Rattle.rd_parse.proofs.Samples.{sample}

same_then : (f g : ℕ → Option ℕ) (o : Option ℕ) → ((x : ℕ) → f x ≡ g x) → digits_then f o ≡ digits_then g o
same_then f g None h = refl
same_then f g (Some x) h = h x

then_some : (o : Option ℕ) → digits_then (λ next. Some next) o ≡ o
then_some None = refl
then_some (Some x) = refl

then_then : (f g : ℕ → Option ℕ) (o : Option ℕ) → digits_then (λ x. digits_then g (f x)) o ≡ digits_then g (digits_then f o)
then_then f g None = refl
then_then f g (Some x) = refl

digits_append : (v : ℕ) (s : List ℕ) (d : ℕ) → digits_from v (s ++ d ∷ []) ≡ digits_then (λ next. with_digit next d) (digits_from v s)
digits_append v [] d = then_some (with_digit v d)
digits_append v (c ∷ s) d =
    same_then (λ next. digits_from next (s ++ d ∷ [])) (λ x. digits_then (λ next. with_digit next d) (digits_from x s)) (with_digit v c) (λ x. digits_append x s d) ∙ then_then (λ x. digits_from x s) (λ next. with_digit next d) (with_digit v c)

digit_lawful : (r : ℕ) → r < 10 → is_digit (48 + r) ≡ true
digit_lawful r lt = rw (le-leb 48 (48 + r) (omega arith), le-leb (48 + r) 57 (omega arith)) refl

one_more : (q r m : ℕ) → r < 10 → 10 * q + r ≡ m → m ≤ greatest → with_digit q (48 + r) ≡ Some m
one_more q r m lt same small =
    let last : (48 + r) - 48 ≡ r = omega arith in
    let next : 10 * q + ((48 + r) - 48) ≡ m = ap (λ x. 10 * q + x) last ∙ same in
    rw (digit_lawful r lt, next, le-leb m greatest small) refl

spelled : (f m : ℕ) → m ≤ f → m ≤ greatest → (s : List ℕ) × (digits_from 0 s ≡ Some m)
spelled f zero le small = ([], refl)
spelled zero (suc m) le small = absurd (omega arith)
spelled (suc f) (suc m) le small =
    let less : suc m / 10 < suc m = div-lt_self (omega arith) (omega arith) in
    let d = spelled f (suc m / 10) (omega arith) (omega arith) in
    let r : suc m % 10 < 10 = mod-lt (suc m) (omega arith) in
    (d.0 ++ (48 + suc m % 10) ∷ [], digits_append 0 d.0 (48 + suc m % 10) ∙ ap (digits_then (λ next. with_digit next (48 + suc m % 10))) d.1 ∙ one_more (suc m / 10) (suc m % 10) (suc m) r (div-add-mod (suc m) 10) small)

counted_int : (s : List ℕ) (m : ℕ) → digits_from 0 s ≡ Some m → number_of (sample kind.Int s) ≡ Some (pos m)
unfolding terminal
counted_int s m e = ap (option_map pos) e

-- a token with this number
pub spelling : (m : ℕ) → m ≤ greatest → (t : Token) × (number_of t ≡ Some (pos m))
spelling m small = let d = spelled m m (omega arith) small in (sample kind.Int d.0, counted_int d.0 m d.1)

digit_small : (value d m : ℕ) → with_digit value d ≡ Some m → m ≤ greatest
digit_small value d m e = by_test (is_digit d) (nat_le (10 * value + (d - 48)) greatest) refl e
  where
    by_test : (a b : Bool) → b ≡ nat_le (10 * value + (d - 48)) greatest → cond (a && b) (Some (10 * value + (d - 48))) None ≡ Some m → m ≤ greatest
    by_test true true fits same = let least : 10 * value + (d - 48) ≤ greatest = leb-true _ _ (sym fits) in let last : 10 * value + (d - 48) ≡ m = cc in omega (arith, least)
    by_test true false fits same = absurd cc
    by_test false b fits same = absurd cc

small_then : (f : ℕ → Option ℕ) (o : Option ℕ) (m : ℕ) → digits_then f o ≡ Some m → ((x : ℕ) → o ≡ Some x → f x ≡ Some m → m ≤ greatest) → m ≤ greatest
small_then f None m e h = absurd cc
small_then f (Some x) m e h = h x refl e

digits_small : (v : ℕ) (s : List ℕ) (m : ℕ) → v ≤ greatest → digits_from v s ≡ Some m → m ≤ greatest
digits_small v [] m small e = let same : v ≡ m = cc in omega (arith, small)
digits_small v (d ∷ s) m small e = small_then (λ next. digits_from next s) (with_digit v d) m e (λ x is last. digits_small x s m (digit_small v d x is) last)

mapped : (o : Option ℕ) (z : ℤ) → option_map pos o ≡ Some z → (m : ℕ) × (o ≡ Some m) × (z ≡ pos m)
mapped None z e = absurd cc
mapped (Some m) z e = (m, refl, cc)

counted_small : (κ : Terminal) (s : List ℕ) (z : ℤ) → counted κ s ≡ Some z → (m : ℕ) × (m ≤ greatest) × (z ≡ pos m)
counted_small w.Int s z e = let d = mapped (digits_from 0 s) z e in (d.0, digits_small 0 s d.0 (omega arith) d.1, d.2)
counted_small _ s z e = absurd (let none : (let o : Option ℤ = None in o) ≡ Some z = e in cc)

pub number_small : (t : Token) (z : ℤ) → number_of t ≡ Some z → (m : ℕ) × (m ≤ greatest) × (z ≡ pos m)
number_small t z e = counted_small (terminal t) t.text z e
