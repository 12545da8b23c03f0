-- Readers of canonical bytes: from the left, with the item at which reading stops.
use Rattle.std.specs.Prelude.{◌≡◌, ℕ, zero, suc, ◌+◌, ◌*◌, ◌-◌, ℤ, pos, negsuc, Bool, true, false, ◌&&◌, ◌||◌, ◌==◌, if◌then◌else◌, nat_le, List, [], ◌∷◌, ◌++◌, length, take, drop, decimal, Option, Some, None, Result, Ok, Err}
use Rattle.std.specs.Fmt.{signed_decimal}
use Rattle.std.specs.Cmp.Lexicographic.{pointwise}
use Rattle.rd_bencode.specs.declared.read.spot.Spot.{Spot}
use Rattle.rd_bencode.specs.declared.read.spot.Halt.{Halt}
use Rattle.rd_bencode.specs.declared.read.spot.Halt.TheVariants.{Memory, Refused}

-- what is left, and what is left from the last item begun on
abbrev pub Place : Type 0
Place = List ℕ × List ℕ

-- what was read and the place behind it, or what is left from the item on at which reading stops
abbrev pub Outcome : Type 0 → Type 0
Outcome A = Result (A × Place) (List ℕ)

abbrev pub Reader : Type 0 → Type 0
Reader A = Place → Outcome A

abbrev pub and_then : {A B : Type 0} → Outcome A → (A → Reader B) → Outcome B
and_then (Ok x) f = f x.0 x.1
and_then (Err e) f = Err e

infixl 10 ◌>>=◌
abbrev pub ◌>>=◌ : {A B : Type 0} → Reader A → (A → Reader B) → Reader B
p >>= f = λ s. and_then (p s) f

abbrev pub pure : {A : Type 0} → A → Reader A
pure a = λ s. Ok (a, s)

-- no item may stand here
abbrev pub refuse : {A : Type 0} → Reader A
refuse = λ s. Err s.0

-- ---- what a function of the reader returned

abbrev pub place : Spot → Place
place s = (s.rest.now, s.last.now)

-- out of memory, or where the reader stops
abbrev pub Fails : {A : Type 0} → Halt → Outcome A → Type 0
Fails Memory read = Unit {0}
Fails (Refused r) read = read ≡ Err r.now

-- What was returned is what reading gives, unless memory ran out.
abbrev pub Gives : {X A : Type 0} → (X → A × Place) → Result X Halt → Outcome A → Type 0
Gives view (Ok x) read = read ≡ Ok (view x)
Gives view (Err h) read = Fails h read

-- ---- numbers

abbrev pub opt_then : {A B : Type 0} → Option A → (A → Option B) → Option B
opt_then None f = None
opt_then (Some a) f = f a

abbrev pub is_digit : ℕ → Bool
is_digit b = nat_le 48 b && nat_le b 57

-- the greatest number that is read
abbrev pub greatest : ℕ
greatest = 18446744073709551615

-- the number with one digit more, where it is none too great
abbrev pub with_digit : ℕ → ℕ → Option ℕ
with_digit n b = let next : ℕ = 10 * n + (b - 48) in if nat_le next greatest then Some next else None

-- the number of the digits in front, behind a number that was read
abbrev pub leading : ℕ → List ℕ → Option ℕ
leading n [] = Some n
leading n (b ∷ bs) = if is_digit b then opt_then (with_digit n b) (λ next. leading next bs) else Some n

-- what stands behind a text
abbrev pub behind : List ℕ → List ℕ → Option (List ℕ)
behind text bs = if pointwise ◌==◌ (take (length text) bs) text then Some (drop (length text) bs) else None

-- so many bytes, and what stands behind them
abbrev pub cut : ℕ → List ℕ → Option (List ℕ × List ℕ)
cut n bs = if nat_le n (length bs) then Some (take n bs, drop n bs) else None

-- a byte string whose length has its one spelling
abbrev pub string_at : List ℕ → Option (List ℕ × List ℕ)
string_at bs = opt_then (leading 0 bs) (λ n. opt_then (behind (decimal n) bs) (λ r. opt_then (behind (58 ∷ []) r) (λ t. cut n t)))

-- the greatest signed number
abbrev pub greatest_signed : ℕ
greatest_signed = 9223372036854775807

abbrev pub positive : ℕ → Option ℤ
positive n = if nat_le n greatest_signed then Some (pos n) else None

abbrev pub negative : ℕ → Option ℤ
negative zero = None
negative (suc n) = if nat_le n greatest_signed then Some (negsuc n) else None

-- the number behind a sign or without one
abbrev pub signed : List ℕ → Option ℤ
signed [] = None
signed (b ∷ bs) = if b == 45 then opt_then (leading 0 bs) negative else opt_then (leading 0 (b ∷ bs)) positive

-- an integer behind its `i`, in its one spelling
abbrev pub integer_at : List ℕ → Option (ℤ × List ℕ)
integer_at bs = opt_then (signed bs) (λ z. opt_then (behind (signed_decimal z) bs) (λ r. opt_then (behind (101 ∷ []) r) (λ t. Some (z, t))))

-- ---- items

-- the bytes that begin an item
abbrev pub is_first : ℕ → Bool
is_first b = b == 105 || (b == 108 || is_digit b)

-- an item begins here
abbrev pub begins_item : List ℕ → Bool
begins_item [] = false
begins_item (b ∷ bs) = is_first b

abbrev pub taken : {A : Type 0} → List ℕ → Option (A × List ℕ) → Outcome A
taken here None = Err here
taken here (Some x) = Ok (x.0, (x.1, here))

-- a byte string
abbrev pub read_string : Reader (List ℕ)
read_string = λ s. taken s.0 (string_at s.0)

-- an integer
abbrev pub integer : List ℕ → Option (ℤ × List ℕ)
integer [] = None
integer (b ∷ bs) = if b == 105 then integer_at bs else None

abbrev pub read_integer : Reader ℤ
read_integer = λ s. taken s.0 (integer s.0)

-- a byte string of one byte
abbrev pub first_of : List ℕ → Option (ℕ × List ℕ)
first_of [] = None
first_of (b ∷ bs) = Some (b, bs)

abbrev pub letter_at : List ℕ → Option (ℕ × List ℕ)
letter_at bs = opt_then (behind (49 ∷ 58 ∷ []) bs) first_of

abbrev pub read_letter : Reader ℕ
read_letter = λ s. taken s.0 (letter_at s.0)

-- the begin of a list
abbrev pub opened : List ℕ → Option (Unit {0} × List ℕ)
opened [] = None
opened (b ∷ bs) = if b == 108 then Some (tt, bs) else None

abbrev pub read_open : Reader (Unit {0})
read_open = λ s. taken s.0 (opened s.0)

-- the end of a list, which begins no item
abbrev pub closed : List ℕ → List ℕ → Outcome (Unit {0})
closed [] last = Err last
closed (b ∷ bs) last = if b == 101 then Ok (tt, (bs, last)) else if is_first b then Err (b ∷ bs) else Err last

abbrev pub read_close : Reader (Unit {0})
read_close = λ s. closed s.0 s.1

-- ---- what an item means

-- the last item may not stand where it does
abbrev pub refuse_last : {A : Type 0} → Reader A
refuse_last = λ s. Err s.1

-- the last item means this, and has to mean something
abbrev pub mean : {A : Type 0} → Option A → Reader A
mean None = refuse_last
mean (Some a) = pure a

-- the last item passes a test
abbrev pub check : Bool → Reader (Unit {0})
check false = refuse_last
check true = pure tt

-- ---- lists of any length: no more items than bytes

abbrev pub read_many_by : {A : Type 0} → Reader A → ℕ → Reader (List A)
read_many_by p zero = pure []
read_many_by p (suc n) = λ s. if begins_item s.0 then (p >>= λ a. read_many_by p n >>= λ more. pure (a ∷ more)) s else Ok ([], s)

abbrev pub read_many : {A : Type 0} → Reader A → Reader (List A)
read_many p = λ s. read_many_by p (length s.0) s

-- what was read before, with what is still read
abbrev pub onto : {A : Type 0} → List A → Reader (List A) → Reader (List A)
onto all p = p >>= λ more. pure (all ++ more)
