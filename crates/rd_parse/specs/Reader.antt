-- Readers: from the left, with the tokens at which reading stops.
use Rattle.std.specs.Prelude.{ℕ, zero, suc, Bool, true, false, ◌&&◌, if◌then◌else◌, List, [], ◌∷◌, ◌++◌, length, Option, Some, None, Result, Ok, Err}
use Rattle.rd_parse.specs.Form.{all_of}

pub data Stop (T : Type 0) : Type 0 where
  -- no text goes on with the first of these tokens
  Refused : List T → Stop T
  -- the first of these tokens opens one level too many
  Deep : List T → Stop T

abbrev pub Outcome : Type 0 → Type 0 → Type 0
Outcome T A = Result (A × List T) (Stop T)

abbrev pub Reader : Type 0 → Type 0 → Type 0
Reader T A = List T → Outcome T A

abbrev pub head : {T : Type 0} → List T → Option T
head [] = None
head (t ∷ ts) = Some t

abbrev pub holds : {T : Type 0} → (T → Bool) → Option T → Bool
holds s None = false
holds s (Some t) = s t

abbrev pub sees : {T : Type 0} → (T → Bool) → List T → Bool
sees s ts = holds s (head ts)

abbrev pub is_there : {A : Type 0} → Option A → Bool
is_there None = false
is_there (Some a) = true

-- the tokens that mean something
abbrev pub hits : {T A : Type 0} → (T → Option A) → T → Bool
hits f t = is_there (f t)

abbrev pub and_then : {T A B : Type 0} → Outcome T A → (A → Reader T B) → Outcome T B
and_then (Ok x) f = f x.0 x.1
and_then (Err e) f = Err e

infixl 10 ◌>>=◌
abbrev pub ◌>>=◌ : {T A B : Type 0} → Reader T A → (A → Reader T B) → Reader T B
p >>= f = λ ts. and_then (p ts) f

abbrev pub pure : {T A : Type 0} → A → Reader T A
pure a = λ ts. Ok (a, ts)

abbrev pub refuse : {T A : Type 0} → Reader T A
refuse = λ ts. Err (Refused ts)

abbrev pub took : {T A : Type 0} → List T → List T → Option A → Outcome T A
took all rest None = Err (Refused all)
took all rest (Some a) = Ok (a, rest)

abbrev pub read_one : {T A : Type 0} → (T → Option A) → Reader T A
read_one f [] = Err (Refused [])
read_one f (t ∷ ts) = took (t ∷ ts) ts (f t)

abbrev pub read_both : {T A B : Type 0} → Reader T A → Reader T B → Reader T (A × B)
read_both f g = f >>= λ a. g >>= λ b. pure (a, b)

abbrev pub read_made : {T A B : Type 0} → (A → B) → Reader T A → Reader T B
read_made h f = f >>= λ a. pure (h a)

abbrev pub read_either : {T A : Type 0} → (T → Bool) → Reader T A → Reader T A → Reader T A
read_either s f g = λ ts. if sees s ts then f ts else g ts

-- the first token is of one set, and what comes behind it passes a test
abbrev pub pair : {T : Type 0} → (T → Bool) → (Option T → Bool) → List T → Bool
pair a b [] = false
pair a b (t ∷ ts) = a t && b (head ts)

-- a choice by two tokens
abbrev pub read_pick : {T A : Type 0} → (T → Bool) → (Option T → Bool) → Reader T A → Reader T A → Reader T A
read_pick a b f g = λ ts. if pair a b ts then f ts else g ts

abbrev pub read_opt : {T A : Type 0} → (T → Bool) → Reader T A → Reader T (Option A)
read_opt s f = λ ts. if sees s ts then read_made Some f ts else Ok (None, ts)

abbrev pub read_many_by : {T A : Type 0} → (T → Bool) → Reader T A → ℕ → Reader T (List A)
read_many_by s f zero = λ ts. Err (Deep ts)
read_many_by s f (suc n) = λ ts. if sees s ts then (f >>= λ a. read_many_by s f n >>= λ rest. pure (a ∷ rest)) ts else Ok ([], ts)

abbrev pub read_many : {T A : Type 0} → (T → Bool) → Reader T A → Reader T (List A)
read_many s f = λ ts. read_many_by s f (suc (length ts)) ts

abbrev pub too_deep : {T A : Type 0} → Reader T A
too_deep = λ ts. Err (Deep ts)

abbrev pub read_opening : {T A : Type 0} → (T → Option A) → ℕ → Reader T A
read_opening o zero = λ ts. if sees (hits o) ts then Err (Deep ts) else Err (Refused ts)
read_opening o (suc n) = read_one o

abbrev pub read_below : {T A : Type 0} → (ℕ → Reader T A) → ℕ → Reader T A
read_below f zero = too_deep
read_below f (suc n) = f n

abbrev pub read_tail_by : {T S C A : Type 0} → (T → Option C) → (S → T → Bool) → (S → Reader T A) → (S → A → S) → ℕ → S → Reader T (List A)
read_tail_by c first f step zero s = λ ts. Err (Deep ts)
read_tail_by c first f step (suc n) s = λ ts.
    if sees (hits c) ts then
    (read_one c >>= λ u. λ x. if sees (first s) x then (f s >>= λ a. read_tail_by c first f step n (step s a) >>= λ more. pure (a ∷ more)) x else Ok ([], x)) ts
    else Ok ([], ts)

abbrev pub read_tail : {T S C A : Type 0} → (T → Option C) → (S → T → Bool) → (S → Reader T A) → (S → A → S) → S → Reader T (List A)
read_tail c first f step s = λ ts. read_tail_by c first f step (suc (length ts)) s ts

abbrev pub read_more : {T C A : Type 0} → (T → Option C) → (T → Bool) → Reader T A → Reader T (List A)
read_more {A = A} c first f = read_tail c (λ (s : Unit {0}). first) (λ (s : Unit {0}). f) (λ (s : Unit {0}) (a : A). s) tt

abbrev pub read_listed : {T C A : Type 0} → (T → Option C) → (T → Bool) → Reader T A → Reader T (List A)
read_listed c first f = read_made all_of (read_opt first (read_both f (read_more c first f)))

-- a token that opens a level, with how many may be open behind it
abbrev pub read_open : {T A : Type 0} → (T → Option A) → ℕ → Reader T ℕ
read_open o zero = λ ts. if sees (hits o) ts then Err (Deep ts) else Err (Refused ts)
read_open o (suc n) = read_made (λ u. n) (read_one o)

-- what was read before, with what is still read
abbrev pub onto : {T A : Type 0} → List A → Reader T (List A) → Reader T (List A)
onto all f = read_made (λ more. all ++ more) f
