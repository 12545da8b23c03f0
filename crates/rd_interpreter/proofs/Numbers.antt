-- Digits, whose number may be more than the program holds.
use Rattle.std.proofs.Common.{◌≡◌, ℕ, ◌+◌, ◌-◌, ◌*◌, ◌^◌, ◌<◌, min, Bool, true, false, cond, refl, sym, ap, ◌∙◌, List, [], ◌∷◌, Option, None, Some, arith}
use Rattle.std.specs.Option.{option_map}
use Rattle.rd_interpreter.specs.Number.{capped, digit_at}
use Rattle.rd_interpreter.specs.Texts.{digits_from, is_digit}

more_digits : (m : ℕ) (x y d : ℕ) → min x m ≡ min y m → min (10 * x + d) m ≡ min (10 * y + d) m
more_digits m x y d h = omega (arith, h)

by_digit : (b : Bool) (x y : Option ℕ) → option_map capped x ≡ option_map capped y → option_map capped (cond b x None) ≡ option_map capped (cond b y None)
by_digit true x y h = h
by_digit false x y h = refl

-- only the number up to there tells
pub same_digits : (ds : List ℕ) (x y : ℕ) → capped x ≡ capped y → option_map capped (digits_from x ds) ≡ option_map capped (digits_from y ds)
same_digits [] x y h = ap Some h
same_digits (d ∷ ds) x y h = by_digit (is_digit d) (digits_from (10 * x + (d - 48)) ds) (digits_from (10 * y + (d - 48)) ds) (same_digits ds (10 * x + (d - 48)) (10 * y + (d - 48)) (more_digits (2 ^ 64 - 1) x y (d - 48) h))

more_by : (b : Bool) (d k : ℕ) (o : Option ℕ) (f : ℕ → Option ℕ) → cond b (Some d) None ≡ Some k → f k ≡ o → cond b (f d) None ≡ o
more_by true d k o f e i = let same : d ≡ k = cc in rw same i
more_by false d k o f e i = absurd cc

none_by : (b : Bool) (d : ℕ) (f : ℕ → Option ℕ) → cond b (Some d) None ≡ None → cond b (f d) None ≡ None
none_by true d f e = absurd cc
none_by false d f e = refl

caps : (m x d : ℕ) → min (min (min (x * 10) m + d) m) m ≡ min (10 * x + d) m
caps m x d = omega arith

-- one digit more
pub one_digit : (ds rest : List ℕ) (d k x y : ℕ) (target : Option ℕ) → ds ≡ d ∷ rest → digit_at d ≡ Some k → y ≡ capped (capped (x * 10) + k) → option_map capped (digits_from x ds) ≡ target → option_map capped (digits_from y rest) ≡ target
one_digit ds rest d k x y target first digit e i =
    let more : digits_from x ds ≡ digits_from (10 * x + k) rest = rw first (more_by (is_digit d) (d - 48) k (digits_from (10 * x + k) rest) (λ j. digits_from (10 * x + j) rest) digit refl) in
    let near : capped y ≡ capped (10 * x + k) = rw e (caps (2 ^ 64 - 1) x k) in
    same_digits rest y (10 * x + k) near ∙ sym (ap (option_map capped) more) ∙ i

-- another byte ends it
pub no_digit : (ds rest : List ℕ) (d x : ℕ) (target : Option ℕ) → ds ≡ d ∷ rest → digit_at d ≡ None → option_map capped (digits_from x ds) ≡ target → None ≡ target
no_digit ds rest d x target first other i =
    let none : digits_from x ds ≡ None = rw first (none_by (is_digit d) (d - 48) (λ j. digits_from (10 * x + j) rest) other) in
    ap (option_map capped) (sym none) ∙ i

-- no byte is left
pub all_digits : (ds : List ℕ) (x : ℕ) (target : Option ℕ) → ds ≡ [] → x < 2 ^ 64 → option_map capped (digits_from x ds) ≡ target → Some x ≡ target
all_digits ds x target none h i = ap Some (below x h) ∙ rw none at i
  where
    below : (x : ℕ) → x < 2 ^ 64 → x ≡ min x (2 ^ 64 - 1)
    below x h = omega (arith, h)
