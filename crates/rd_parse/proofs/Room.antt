-- Fewer keys than there are numbers leave some number.
use Rattle.std.proofs.Common.{◌≡◌, ◌≤◌, ◌<◌, ◌+◌, length, inl, inr, ℕ, zero, suc, ℤ, pos, neg_ℤ, Bool, true, false, not, ◌||◌, List, [], ◌∷◌, refl, sym, ap, ◌∙◌, arith}
use Rattle.std.specs.Ordering.{int_eq}
use Rattle.std.proofs.lemmas.Bool.Decides.{Decides-int_eq}
use Rattle.rd_syntax.specs.declared.token.Token.{Token}
use Rattle.rd_value.specs.declared.value.Datum.TheVariants as value
use Rattle.rd_parse.specs.declared.terminal.Terminal.TheVariants as w
use Rattle.rd_parse.specs.Reader.{hits, read_either}
use Rattle.rd_parse.specs.Terminal.{is, greatest}
use Rattle.rd_parse.specs.Literals.{Literal, is_number, any_of, new_number}
use Rattle.rd_parse.specs.LiteralReading.{any_new, has_number, has_negative, read_key, read_number_key, read_negative_key, read_text_key}
use Rattle.rd_parse.proofs.More.{way}
use Rattle.rd_parse.proofs.Literals.{none_there}

abbrev bit : Bool → ℕ
bit true = 1
bit false = 0

abbrev count : (Literal → Bool) → List Literal → ℕ
count s [] = 0
count s (k ∷ ks) = bit (s k) + count s ks

bit_small : (b : Bool) → bit b ≤ 1
bit_small true = omega arith
bit_small false = omega arith

count_small : (s : Literal → Bool) (ks : List Literal) → count s ks ≤ length ks
count_small s [] = omega arith
count_small s (k ∷ ks) = omega (arith, bit_small (s k), count_small s ks)

one_there : (s : Literal → Bool) (ks : List Literal) → any_of s ks ≡ true → 1 ≤ count s ks
one_there s [] h = absurd cc
one_there s (k ∷ ks) h = elim (way (s k)) [ inl y ↦ omega (arith, ap bit y) | inr n ↦ let rest : any_of s ks ≡ true = rw n at h in omega (arith, one_there s ks rest) ]

bit_or : (a b : Bool) → (a ≡ true → b ≡ false) → bit (a || b) ≡ bit a + bit b
bit_or true b h = let none : bit b ≡ 0 = ap bit (h refl) in omega (arith, none)
bit_or false b h = omega arith

count_or : (s t : Literal → Bool) (ks : List Literal) → ((k : Literal) → s k ≡ true → t k ≡ false) → count (λ k. s k || t k) ks ≡ count s ks + count t ks
count_or s t [] h = refl
count_or s t (k ∷ ks) h = omega (arith, bit_or (s k) (t k) (h k), count_or s t ks h)

module _ (f : ℕ → ℤ) (once : (m n : ℕ) → f m ≡ f n → m ≡ n) where
  abbrev up_to : ℕ → Literal → Bool
  up_to zero k = is_number (f 0) k
  up_to (suc t) k = is_number (f (suc t)) k || up_to t k

  other : (m n : ℕ) (k : Literal) → n < m → is_number (f m) k ≡ true → is_number (f n) k ≡ false
  other m n (value.Int y) less h = elim (way (int_eq (f n) y)) [
    | inl same ↦ absurd (let e : m ≡ n = once m n ((Decides-int_eq (f m) y).0 h ∙ sym ((Decides-int_eq (f n) y).0 same)) in omega (arith, e, less))
    | inr differs ↦ differs
  ]
  other m n _ less h = absurd (let bad : false ≡ true = h in cc)

  none_up_to : (m t : ℕ) (k : Literal) → t < m → is_number (f m) k ≡ true → up_to t k ≡ false
  none_up_to m zero k less h = other m 0 k less h
  none_up_to m (suc t) k less h = rw (other m (suc t) k less h, none_up_to m t k (omega (arith, less)) h) refl

  all_there : (t : ℕ) (ks : List Literal) → ((m : ℕ) → m ≤ t → any_of (is_number (f m)) ks ≡ true) → suc t ≤ count (up_to t) ks
  all_there zero ks h = one_there (is_number (f 0)) ks (h 0 (omega arith))
  all_there (suc t) ks h =
      omega (arith, count_or (is_number (f (suc t))) (up_to t) ks (λ k y. none_up_to (suc t) t k (omega arith) y), one_there (is_number (f (suc t))) ks (h (suc t) (omega arith)), all_there t ks (λ m le. h m (omega (arith, le))))

  not_false : (b : Bool) → not b ≡ false → b ≡ true
  not_false true h = refl
  not_false false h = absurd cc

  room : (top : ℕ) (ks : List Literal) → length ks ≤ top → any_new (λ m. new_number ks (f m)) top ≡ true
  room top ks few = elim (way (any_new (λ m. new_number ks (f m)) top)) [
    | inl y ↦ y
    | inr n ↦ absurd (omega (arith, few, count_small (up_to top) ks, all_there top ks (λ m le. not_false (any_of (is_number (f m)) ks) (none_there (λ m. new_number ks (f m)) top n m le))))
  ]

pos_once : (m n : ℕ) → pos m ≡ pos n → m ≡ n
pos_once m n e = cc

negative_once : (m n : ℕ) → neg_ℤ (pos m) ≡ neg_ℤ (pos n) → m ≡ n
negative_once zero zero e = refl
negative_once zero (suc n) e = absurd cc
negative_once (suc m) zero e = absurd cc
negative_once (suc m) (suc n) e = cc

pub number_left : (keys : List Literal) → length keys ≤ greatest → has_number keys ≡ true
unfolding has_number
number_left keys few = room pos pos_once greatest keys few

pub negative_left : (keys : List Literal) → length keys ≤ greatest → has_negative keys ≡ true
unfolding has_negative
negative_left keys few = room (λ m. neg_ℤ (pos m)) negative_once greatest keys few

-- what may be a key, behind fewer keys than there are numbers
pub key_is : (keys : List Literal) (n : ℕ) (ts : List Token) → length keys ≤ greatest
    → read_key keys n ts ≡ read_either (hits (is w.Int)) (read_number_key keys) (read_either (hits (is w.Minus)) (read_negative_key keys n) (read_text_key keys)) ts
unfolding read_key
key_is keys n ts few = rw (number_left keys few, negative_left keys few) refl
