-- The operators on values.
use Rattle.std.specs.Prelude.{ℕ, suc, ◌-◌, ◌^◌, ℤ, pos, negsuc, ◌+ℤ◌, ◌-ℤ◌, ◌*ℤ◌, neg_ℤ, nat_lt, Bool, true, false, ◌&&◌, not, List, [], ◌∷◌, ◌++◌, length, codes, encode_utf8, if◌then◌else◌, Option, None, Some, Result, Ok, Err}
use Rattle.std.specs.Int.{is_negative, int_div_euclid, int_rem_euclid}
use Rattle.std.specs.List.{repeat, slice_get}
use Rattle.std.specs.declared.cmp.Ordering.{Ordering}
use Rattle.std.specs.Ordering.{is_lt, is_le, is_gt, is_ge}
use Rattle.std.specs.Str.{chars}
use Rattle.rd_value.specs.declared.class.Class.TheVariants.{TypeError, OverflowError, LimitError, ZeroDivisionError, IndexError, KeyError}
use Rattle.rd_value.specs.declared.value.ErrorValue.{ErrorValue}
use Rattle.rd_value.specs.declared.value.FileValue.{FileValue}
use Rattle.rd_value.specs.declared.value.Datum.{Datum, out-Datum}
use Rattle.rd_value.specs.declared.value.Datum.TheVariants as variant
use Rattle.rd_value.specs.declared.value.Datum.TheOpen.{Datum-F}
use Rattle.rd_value.specs.declared.expr.OpKind.{OpKind}
use Rattle.rd_value.specs.declared.expr.OpKind.TheVariants as op
use Rattle.rd_value.specs.Compare.{number_at, compared, equal}
use Rattle.rd_value.specs.Limits.{is_within}
use Rattle.rd_value.specs.Raise.{raised}
use Rattle.rd_value.specs.Repr.{repr}
use Rattle.rd_value.specs.Truth.{is_zero}

-- the error of operands of other kinds
abbrev pub bad_operand : ErrorValue
bad_operand = record { class = TypeError; text = codes "bad operand" }

-- the error of a number past 64 bits
abbrev pub out_of_range : ErrorValue
out_of_range = record { class = OverflowError; text = codes "out of range" }

-- the error of a value past its limits
abbrev pub value_limit : ErrorValue
value_limit = record { class = LimitError; text = codes "value" }

-- the error of a divisor 0
abbrev pub division_by_zero : ErrorValue
division_by_zero = record { class = ZeroDivisionError; text = codes "division by zero" }

-- the error of an index at which there is no item
abbrev pub index_out_of_range : ErrorValue
index_out_of_range = record { class = IndexError; text = codes "index out of range" }

-- ---- numbers

-- a number of 64 bits with a sign
abbrev pub is_in_range : ℤ → Bool
is_in_range (pos n) = nat_lt n (2 ^ 63)
is_in_range (negsuc n) = nat_lt n (2 ^ 63)

-- the number, where it is in range
abbrev pub kept_int : {F : Type 0} → ℤ → Result (Datum F) ErrorValue
kept_int n = if is_in_range n then Ok (variant.Int n) else Err out_of_range

-- an operation on two numbers
abbrev pub on_numbers : {F : Type 0} → (ℤ → ℤ → Result (Datum F) ErrorValue) → Option ℤ → Option ℤ → Result (Datum F) ErrorValue
on_numbers f (Some m) (Some n) = f m n
on_numbers f _ _ = Err bad_operand

-- the sum of two numbers
abbrev pub plus_numbers : {F : Type 0} → Option ℤ → Option ℤ → Result (Datum F) ErrorValue
plus_numbers = on_numbers (λ m n. kept_int (m +ℤ n))

-- the quotient, rounded down
abbrev pub floor_quotient : ℤ → ℤ → ℤ
floor_quotient m n = if is_negative n then int_div_euclid (neg_ℤ m) (neg_ℤ n) else int_div_euclid m n

-- the remainder, which has the divisor's sign
abbrev pub floor_remainder : ℤ → ℤ → ℤ
floor_remainder m n = if is_negative n then neg_ℤ (int_rem_euclid (neg_ℤ m) (neg_ℤ n)) else int_rem_euclid m n

-- a division, unless the divisor is 0
abbrev pub divided : {F : Type 0} → (ℤ → ℤ → ℤ) → ℤ → ℤ → Result (Datum F) ErrorValue
divided f m n = if is_zero n then Err division_by_zero else kept_int (f m n)

-- `-` of one number
abbrev pub negated : {F : Type 0} → Option ℤ → Result (Datum F) ErrorValue
negated (Some n) = kept_int (neg_ℤ n)
negated None = Err bad_operand

-- how many times something is repeated, none for a count below 0
abbrev pub times : ℤ → ℕ
times (pos n) = n
times (negsuc n) = 0

-- ---- places in a list

-- the place at an index, which counts from the end where it is negative
abbrev pub place : ℤ → ℕ → ℕ
place (pos n) count = n
place (negsuc n) count = if nat_lt n count then count - suc n else count

-- the item at an index
abbrev pub item_at : {A : Type 0} → List A → ℤ → Option A
item_at xs n = slice_get xs (place n (length xs))

-- an item that was found
abbrev pub found : {A F : Type 0} → (A → Datum F) → Option A → Result (Datum F) ErrorValue
found f (Some x) = Ok (f x)
found f None = Err index_out_of_range

-- the text of one character
abbrev pub character : {F : Type 0} → ℕ → Datum F
character c = variant.Text (encode_utf8 c)

-- an item of a list or a character of a text
abbrev pub indexed : {A F : Type 0} → (A → Datum F) → List A → Option ℤ → Result (Datum F) ErrorValue
indexed f xs None = Err bad_operand
indexed f xs (Some n) = found f (item_at xs n)

-- ---- order

-- two numbers
abbrev pub both_numbers : Option ℤ → Option ℤ → Bool
both_numbers (Some m) (Some n) = true
both_numbers _ _ = false

-- two values of a kind that has an order
abbrev pub have_order : {F X : Type 0} → Datum-F F X → Datum-F F X → Bool
have_order (Datum-F.Text s) (Datum-F.Text t) = true
have_order (Datum-F.List xs) (Datum-F.List ys) = true
have_order x y = both_numbers (number_at x) (number_at y)

-- a test of an order
abbrev pub tested : {F : Type 0} → (Ordering → Bool) → Option Ordering → Result (Datum F) ErrorValue
tested test (Some o) = Ok (variant.Bool (test o))
tested test None = Err bad_operand

module _ {F : Type 0} (file : F → FileValue) where
  -- the value, where it is within the limits
  abbrev pub kept : Datum F → Result (Datum F) ErrorValue
  kept v = if is_within file v then Ok v else Err value_limit

  -- ---- each operator, on the outermost layers

  -- `+`
  abbrev pub plus_at : Datum-F F (Datum F) → Datum-F F (Datum F) → Result (Datum F) ErrorValue
  plus_at (Datum-F.Text s) (Datum-F.Text t) = kept (variant.Text (s ++ t))
  plus_at (Datum-F.List xs) (Datum-F.List ys) = kept (variant.List (xs ++ ys))
  plus_at x y = plus_numbers (number_at x) (number_at y)

  -- a text so many times
  abbrev pub repeated_text : List ℕ → Option ℤ → Result (Datum F) ErrorValue
  repeated_text t None = Err bad_operand
  repeated_text t (Some n) = kept (variant.Text (repeat (times n) t))

  -- a list so many times
  abbrev pub repeated_list : List (Datum F) → Option ℤ → Result (Datum F) ErrorValue
  repeated_list xs None = Err bad_operand
  repeated_list xs (Some n) = kept (variant.List (repeat (times n) xs))

  -- `*` of what is no text or list, on the left
  abbrev pub number_times : Option ℤ → Datum-F F (Datum F) → Result (Datum F) ErrorValue
  number_times m (Datum-F.Text t) = repeated_text t m
  number_times m (Datum-F.List xs) = repeated_list xs m
  number_times m y = on_numbers (λ m n. kept_int (m *ℤ n)) m (number_at y)

  -- `*`
  abbrev pub times_at : Datum-F F (Datum F) → Datum-F F (Datum F) → Result (Datum F) ErrorValue
  times_at (Datum-F.Text s) y = repeated_text s (number_at y)
  times_at (Datum-F.List xs) y = repeated_list xs (number_at y)
  times_at x y = number_times (number_at x) y

  -- the value under a key
  abbrev pub under : Datum F → List (Datum F × Datum F) → Result (Datum F) ErrorValue
  under key [] = Err (raised KeyError (repr file key))
  under key (p ∷ ps) = if equal file p.0 key then Ok p.1 else under key ps

  -- a key, which is an Int or a Text
  abbrev pub keyed_at : List (Datum F × Datum F) → Datum-F F (Datum F) → Result (Datum F) ErrorValue
  keyed_at ps (Datum-F.Int n) = under (variant.Int n) ps
  keyed_at ps (Datum-F.Text t) = under (variant.Text t) ps
  keyed_at ps _ = Err bad_operand

  -- an index
  abbrev pub index_at : Datum-F F (Datum F) → Datum-F F (Datum F) → Result (Datum F) ErrorValue
  index_at (Datum-F.Text t) y = indexed character (chars t) (number_at y)
  index_at (Datum-F.List xs) y = indexed (λ x. x) xs (number_at y)
  index_at (Datum-F.Dict ps) y = keyed_at ps y
  index_at _ y = Err bad_operand

  -- ---- on values

  -- `+`
  abbrev pub plus : Datum F → Datum F → Result (Datum F) ErrorValue
  plus a b = plus_at (out-Datum F a) (out-Datum F b)

  -- an operation on numbers alone
  abbrev pub numbers : (ℤ → ℤ → Result (Datum F) ErrorValue) → Datum F → Datum F → Result (Datum F) ErrorValue
  numbers f a b = on_numbers f (number_at (out-Datum F a)) (number_at (out-Datum F b))

  -- `<` and its kin
  abbrev pub ordered : (Ordering → Bool) → Datum F → Datum F → Result (Datum F) ErrorValue
  ordered test a b = if have_order (out-Datum F a) (out-Datum F b) then tested test (compared file a b) else Err bad_operand

  -- an operator between two values
  abbrev pub binary : OpKind → Datum F → Datum F → Result (Datum F) ErrorValue
  binary op.Add a b = plus a b
  binary op.Sub a b = numbers (λ m n. kept_int (m -ℤ n)) a b
  binary op.Mul a b = times_at (out-Datum F a) (out-Datum F b)
  binary op.FloorDiv a b = numbers (divided floor_quotient) a b
  binary op.Mod a b = numbers (divided floor_remainder) a b
  binary op.Neg a b = Err bad_operand
  binary op.Eq a b = Ok (variant.Bool (equal file a b))
  binary op.Ne a b = Ok (variant.Bool (not (equal file a b)))
  binary op.Lt a b = ordered is_lt a b
  binary op.Le a b = ordered is_le a b
  binary op.Gt a b = ordered is_gt a b
  binary op.Ge a b = ordered is_ge a b
  binary op.Index a b = index_at (out-Datum F a) (out-Datum F b)

  -- an operator of one value
  abbrev pub unary : OpKind → Datum F → Result (Datum F) ErrorValue
  unary op.Neg a = negated (number_at (out-Datum F a))
  unary _ a = Err bad_operand

  -- an operator on its parts: one for `Neg`, two for every other
  abbrev pub applied : OpKind → List (Datum F) → Result (Datum F) ErrorValue
  applied kind (a ∷ []) = unary kind a
  applied kind (a ∷ b ∷ []) = binary kind a b
  applied kind _ = Err bad_operand
