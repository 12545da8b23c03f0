-- Texts and lists that are repeated, and how long they get.
use Rattle.std.proofs.Common.{◌≡◌, ℕ, zero, suc, ◌+◌, ◌*◌, ◌<◌, ◌≤◌, refl, sym, ap, ◌∙◌, List, [], ◌∷◌, ◌++◌, length, map, Some, Err, arith, length-append, append_assoc, append-nil, add-one}
use Rattle.std.specs.Prelude.{ℤ}
use Rattle.std.proofs.Math.Nat.{zero-mul, suc-mul, mul_comm, mul-le-mul_right}
use Rattle.std.specs.List.{repeat}
use Rattle.std.proofs.lemmas.List.{map-append}
use borrow.Author.Tests.{lt-leb}
use Rattle.rd_value.specs.declared.value.FileValue.{FileValue}
use Rattle.rd_value.specs.declared.value.Datum.{Datum}
use Rattle.rd_value.specs.declared.value.Datum.TheViews as made
use Rattle.rd_value.specs.declared.value.Datum.TheVariants as variant
use Rattle.rd_value.specs.declared.value.Datum.TheOpen.{Datum-F}
use Rattle.rd_value.specs.declared.value.Datum.TheFolds.{fold-roll-Datum}
use Rattle.rd_value.specs.Canon.{canon, canon_at, string, joined}
use Rattle.rd_value.specs.Limits.{size, max_size}
use Rattle.rd_value.specs.Operators.{kept, times, repeated_text, repeated_list, value_limit}

-- once more at the end
pub repeat_more : {A : Type 0} (n : ℕ) (xs : List A) → repeat n xs ++ xs ≡ repeat (n + 1) xs
repeat_more n xs = rw add-one (by n)
  where
    by : (k : ℕ) → repeat k xs ++ xs ≡ repeat (suc k) xs
    by zero = sym (append-nil xs)
    by (suc k) = append_assoc xs (repeat k xs) xs ∙ ap (λ ys. xs ++ ys) (by k)

pub repeated_length : {A : Type 0} (n : ℕ) (xs : List A) → length (repeat n xs) ≡ n * length xs
repeated_length zero xs = sym (zero-mul (length xs))
repeated_length (suc n) xs = let e = repeated_length n xs in rw (suc-mul n (length xs), length-append xs (repeat n xs)) (omega arith)

pub nothing_repeated : {A : Type 0} (n : ℕ) (xs : List A) → length xs ≡ 0 → repeat n xs ≡ []
nothing_repeated zero xs h = refl
nothing_repeated (suc n) [] h = nothing_repeated n [] refl
nothing_repeated (suc n) (x ∷ xs) h = absurd (omega arith)

joined_append : (xs ys : List (List ℕ)) → joined (xs ++ ys) ≡ joined xs ++ joined ys
joined_append [] ys = refl
joined_append (x ∷ xs) ys = ap (λ zs. x ++ zs) (joined_append xs ys) ∙ sym (append_assoc x (joined xs) (joined ys))

module _ {F : Type 0} (file : F → FileValue) where
  bytes_repeated : (n : ℕ) (xs : List (Datum F)) → length (joined (map (canon file) (repeat n xs))) ≡ n * length (joined (map (canon file) xs))
  bytes_repeated zero xs = sym (zero-mul _)
  bytes_repeated (suc n) xs =
      let e = bytes_repeated n xs in
      rw (suc-mul n (length (joined (map (canon file) xs))), map-append (canon file) xs (repeat n xs), joined_append (map (canon file) xs) (map (canon file) (repeat n xs)), length-append (joined (map (canon file) xs)) (joined (map (canon file) (repeat n xs)))) (omega arith)

  text_size : (t : List ℕ) → length t ≤ size file (variant.Text t)
  unfolding made.roll-Datum denote.Hole.Carrier.roll
  text_size t = let e : size file (variant.Text t) ≡ length (string t) = ap length (fold-roll-Datum F (List ℕ) (canon_at file) (Datum-F.Text t)) in rw e (simp length-append (omega arith))

  list_size : (xs : List (Datum F)) → length (joined (map (canon file) xs)) ≤ size file (variant.List xs)
  unfolding made.roll-Datum denote.Hole.Carrier.roll
  list_size xs = let e = ap length (fold-roll-Datum F (List ℕ) (canon_at file) (Datum-F.List xs)) in rw e (simp length-append (omega arith))

  -- a value that is too large isn't kept
  too_large : (v : Datum F) → max_size < size file v → kept file v ≡ Err value_limit
  too_large v h = rw (lt-leb (size file v) max_size h) refl

  pub limited_text : (t : List ℕ) (n : ℤ) (k : ℕ) → k ≡ times n → max_size < length t * k → repeated_text file t (Some n) ≡ Err value_limit
  limited_text t n k is h =
      let e = repeated_length (times n) t in
      let s = text_size (repeat (times n) t) in
      let m : length t * k ≡ times n * length t = rw is (mul_comm (length t) (times n)) in
      too_large (variant.Text (repeat (times n) t)) (omega (arith, h, e, s, m))

  pub limited_list : (xs : List (Datum F)) (n : ℤ) (k s : ℕ) → k ≡ times n → s ≤ length (joined (map (canon file) xs)) → max_size < s * k → repeated_list file xs (Some n) ≡ Err value_limit
  limited_list xs n k s is small h =
      let e = bytes_repeated (times n) xs in
      let t = list_size (repeat (times n) xs) in
      let m : length (joined (map (canon file) xs)) * k ≡ times n * length (joined (map (canon file) xs)) = rw is (mul_comm (length (joined (map (canon file) xs))) (times n)) in
      let more : s * k ≤ length (joined (map (canon file) xs)) * k = mul-le-mul_right k small in
      too_large (variant.List (repeat (times n) xs)) (omega (arith, h, e, t, m, more))
