-- Readers of whole inputs, and the places at which they stop.
use Rattle.std.specs.Prelude.{◌≡◌, ◌⊎◌, ℕ, ◌-◌, if◌then◌else◌, nat_le, List, [], ◌∷◌, length, Result, Ok, Err}
use Rattle.rd_value.specs.Limits.{max_size, max_depth}
use Rattle.rd_bencode.specs.declared.read.spot.Halt.{Halt}
use Rattle.rd_bencode.specs.declared.read.spot.Halt.TheVariants.{Memory, Refused}
use Rattle.rd_bencode.specs.declared.read.error.ReadError.{ReadError}
use Rattle.rd_bencode.specs.declared.read.error.ReadError.TheVariants as error
use Rattle.rd_bencode.specs.Reader.{Outcome, Reader}
use Rattle.rd_bencode.specs.Values.{Value, read_value}
use Rattle.rd_bencode.specs.Exprs.{Expr, read_expr}

-- what was read, or what is left from the item on at which reading stops
abbrev pub Reading : Type 0 → Type 0
Reading A = Result A (List ℕ)

-- nothing may stand behind what was read
abbrev pub alone : {A : Type 0} → A → List ℕ → Reading A
alone a [] = Ok a
alone a (b ∷ bs) = Err (b ∷ bs)

abbrev pub all_read : {A : Type 0} → Outcome A → Reading A
all_read (Ok x) = alone x.0 x.1.0
all_read (Err left) = Err left

-- the whole input
abbrev pub read_all : {A : Type 0} → Reader A → List ℕ → Reading A
read_all p bs = all_read (p (bs, bs))

-- an input past the limit is refused at its first byte
abbrev pub limited : {A : Type 0} → (List ℕ → Reading A) → List ℕ → Reading A
limited f bs = if nat_le (length bs) max_size then f bs else Err bs

-- the value of an input
abbrev pub value_of : List ℕ → Reading Value
value_of = limited (read_all (read_value max_depth))

-- the expression of an input
abbrev pub expr_of : List ℕ → Reading Expr
expr_of = limited (read_all (read_expr max_depth))

-- ---- what a function returned

-- out of memory, or where reading stops
abbrev pub Halts : {A : Type 0} → Halt → Reading A → Type 0
Halts Memory reading = Unit {0}
Halts (Refused left) reading = reading ≡ Err left.now

abbrev pub Tells : {A : Type 0} → Result A Halt → Reading A → Type 0
Tells (Ok a) reading = reading ≡ Ok a
Tells (Err h) reading = Halts h reading

-- the result is this value, unless memory ran out
abbrev pub IsOrMemory : {A : Type 0} → Result A ReadError → A → Type 0
IsOrMemory result a = (result ≡ Ok a) ⊎ (result ≡ Err error.OutOfMemory)

-- where the bytes are refused, P holds of the place
abbrev pub IfErrorAt : ReadError → (ℕ → Type 0) → Type 0
IfErrorAt (error.NotCanonical at) P = P at
IfErrorAt error.OutOfMemory P = Unit {0}

abbrev pub IfRefused : {A : Type 0} → Result A ReadError → (ℕ → Type 0) → Type 0
IfRefused (Ok a) P = Unit {0}
IfRefused (Err e) P = IfErrorAt e P

-- reading the bytes stops at the item that begins at this place
pub record StopsAt {A : Type 0} (bytes : List ℕ) (reading : Reading A) (place : ℕ) : Type 0 where
  pub left : List ℕ
  pub stops : reading ≡ Err left
  pub at : place ≡ length bytes - length left

-- where the bytes are refused, reading stops there
abbrev pub ErrorTells : {A : Type 0} → List ℕ → ReadError → Reading A → Type 0
ErrorTells bytes (error.NotCanonical at) reading = StopsAt bytes reading at
ErrorTells bytes error.OutOfMemory reading = Unit {0}

-- what reading gives, unless memory ran out
abbrev pub Answers : {A : Type 0} → List ℕ → Result A ReadError → Reading A → Type 0
Answers bytes (Ok a) reading = reading ≡ Ok a
Answers bytes (Err e) reading = ErrorTells bytes e reading
