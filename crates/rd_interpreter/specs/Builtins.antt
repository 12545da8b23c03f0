-- The functions that every module has.
use Rattle.std.specs.Prelude.{ℕ, zero, suc, ◌+◌, ◌-◌, ◌/◌, ◌==◌, nat_le, ℤ, pos, negsuc, ◌+ℤ◌, ◌-ℤ◌, neg_ℤ, Bool, true, false, ◌&&◌, ◌||◌, List, [], ◌∷◌, length, codes, if◌then◌else◌, Option, None, Some, Result, Ok, Err}
use Rattle.std.specs.Int.{is_negative}
use Rattle.std.specs.List.{list_all}
use Rattle.std.specs.Cmp.Lexicographic.{slice_cmp}
use Rattle.std.specs.Str.{chars}
use Rattle.std.specs.Ordering.{int_cmp, nat_cmp, is_lt, is_gt, is_some_and}
use Rattle.rd_value.specs.declared.class.Class.TheVariants.{TypeError, ValueError}
use Rattle.rd_value.specs.declared.value.ErrorValue.{ErrorValue}
use Rattle.rd_value.specs.declared.value.FileValue.{FileValue}
use Rattle.rd_value.specs.declared.value.Datum.{Datum, out-Datum}
use Rattle.rd_value.specs.declared.value.Datum.TheVariants as value
use Rattle.rd_value.specs.declared.value.Datum.TheOpen.{Datum-F}
use Rattle.rd_value.specs.declared.expr.Lazy.{Lazy, out-Lazy}
use Rattle.rd_value.specs.declared.expr.Lazy.TheVariants as lazy
use Rattle.rd_value.specs.declared.expr.Lazy.TheOpen.{Lazy-F}
use Rattle.rd_value.specs.Compare.{number_at, compared}
use Rattle.rd_value.specs.Make.{values_of}
use Rattle.rd_value.specs.Operators.{bad_operand, out_of_range, is_in_range, kept_int, times}
use Rattle.rd_value.specs.Repr.{repr}
use Rattle.rd_value.specs.Truth.{is_zero}
use Rattle.rd_routine.specs.declared.builtin.Builtin.{Builtin}
use Rattle.rd_routine.specs.declared.builtin.Builtin.TheVariants as builtin
use Rattle.rd_interpreter.specs.State.{Part}
use Rattle.rd_interpreter.specs.Held.{not_settled, iterated_value}
use Rattle.rd_interpreter.specs.Making.{made, taken}
use Rattle.rd_interpreter.specs.Operations.{number_of}
use Rattle.rd_interpreter.specs.Texts.{whole_number}

-- the error of another number of arguments
abbrev pub bad_arguments : ErrorValue
bad_arguments = record { class = TypeError; text = codes "bad arguments" }

-- the error of `int` on another text
abbrev pub no_number : ErrorValue
no_number = record { class = ValueError; text = codes "not a whole number" }

-- the error of a range that takes no steps
abbrev pub step_is_zero : ErrorValue
step_is_zero = record { class = ValueError; text = codes "range step is zero" }

-- the error of no values, one of which is asked for
abbrev pub nothing_there : ErrorValue
nothing_there = record { class = ValueError; text = codes "empty" }

-- goes on with what was found
abbrev pub then_ : {A B : Type 0} → Result A ErrorValue → (A → Result B ErrorValue) → Result B ErrorValue
then_ (Ok a) go = go a
then_ (Err e) go = Err e

-- the one item, if there are no others
abbrev pub the_only : {A : Type 0} → List A → Option A
the_only (a ∷ []) = Some a
the_only _ = None

-- ---- `len`

abbrev pub length_of_value : {F : Type 0} → Datum-F F (Datum F) → Result ℕ ErrorValue
length_of_value (Datum-F.Text t) = Ok (length (chars t))
length_of_value (Datum-F.List vs) = Ok (length vs)
length_of_value (Datum-F.Dict ps) = Ok (length ps)
length_of_value _ = Err bad_operand

abbrev pub length_at : {F : Type 0} → Lazy-F F (Lazy F) → Result ℕ ErrorValue
length_at {F} (Lazy-F.Val v) = length_of_value (out-Datum F v)
length_at (Lazy-F.ListOf es) = Ok (length es)
length_at (Lazy-F.DictOf ps) = Ok (length ps)
length_at _ = Err not_settled

-- how many characters, items or pairs
abbrev pub length_of : {F : Type 0} → Lazy F → Result ℕ ErrorValue
length_of {F} e = length_at (out-Lazy F e)

abbrev pub counted : {F : Type 0} → Result ℕ ErrorValue → Result (Datum F) ErrorValue
counted (Ok n) = Ok (value.Int (pos n))
counted (Err e) = Err e

-- the length of the one argument
abbrev pub length_of_one : {F : Type 0} → Option (Lazy F) → Result (Datum F) ErrorValue
length_of_one (Some e) = counted (length_of e)
length_of_one None = Err bad_arguments

-- ---- `int`

abbrev pub whole : {F : Type 0} → Option ℤ → Result (Datum F) ErrorValue
whole (Some n) = kept_int n
whole None = Err no_number

abbrev pub int_of_number : {F : Type 0} → Option ℤ → Result (Datum F) ErrorValue
int_of_number (Some n) = Ok (value.Int n)
int_of_number None = Err bad_operand

abbrev pub int_at : {F : Type 0} → Datum-F F (Datum F) → Result (Datum F) ErrorValue
int_at (Datum-F.Text t) = whole (whole_number t)
int_at v = int_of_number (number_at v)

-- ---- `range`

-- so many numbers, a step between each two
abbrev pub ranging : {F : Type 0} → ℕ → ℤ → ℤ → List (Datum F)
ranging zero a s = []
ranging (suc n) a s = value.Int a ∷ ranging n (a +ℤ s) s

-- how many steps of a size take to pass a distance
abbrev pub steps_over : ℕ → ℕ → ℕ
steps_over distance step = (distance + step - 1) / step

-- how many numbers a range has
abbrev pub range_length : ℤ → ℤ → ℤ → ℕ
range_length a b (pos s) = steps_over (times (b -ℤ a)) s
range_length a b (negsuc s) = steps_over (times (a -ℤ b)) (suc s)

abbrev pub range_of : {F : Type 0} → ℤ → ℤ → ℤ → Result (Datum F) ErrorValue
range_of a b s = if is_zero s then Err step_is_zero else Ok (value.List (ranging (range_length a b s) a s))

abbrev pub range_at : {F : Type 0} → Option ℤ → Option ℤ → Option ℤ → Result (Datum F) ErrorValue
range_at (Some a) (Some b) (Some s) = range_of a b s
range_at _ _ _ = Err bad_operand

-- ---- `sum`

-- a sum with one number more
abbrev pub sum_with : ℤ → Option ℤ → Result ℤ ErrorValue
sum_with total None = Err bad_operand
sum_with total (Some n) = if is_in_range (total +ℤ n) then Ok (total +ℤ n) else Err out_of_range

-- numbers from the left, on top of a sum
abbrev pub sum_from : {F : Type 0} → ℤ → List (Datum F) → Result (Datum F) ErrorValue
sum_from total [] = Ok (value.Int total)
sum_from total (v ∷ vs) = then_ (sum_with total (number_of v)) (λ more. sum_from more vs)

-- ---- `min`, `max`, `sorted`

abbrev pub is_number : {F : Type 0} → Datum F → Bool
is_number v = elim (number_of v) [ None ↦ false | Some n ↦ true ]

abbrev pub is_text_at : {F X : Type 0} → Datum-F F X → Bool
is_text_at (Datum-F.Text t) = true
is_text_at _ = false

abbrev pub is_text : {F : Type 0} → Datum F → Bool
is_text {F} v = is_text_at (out-Datum F v)

-- the number of a value, or 0
abbrev pub or_zero : Option ℤ → ℤ
or_zero None = pos 0
or_zero (Some n) = n

abbrev pub number_or_zero : {F : Type 0} → Datum F → ℤ
number_or_zero v = or_zero (number_of v)

-- the bytes of a text, or none
abbrev pub text_at : {F X : Type 0} → Datum-F F X → List ℕ
text_at (Datum-F.Text t) = t
text_at _ = []

abbrev pub text_or_empty : {F : Type 0} → Datum F → List ℕ
text_or_empty {F} v = text_at (out-Datum F v)

-- less as numbers, and as texts
abbrev pub number_less : {F : Type 0} → Datum F → Datum F → Bool
number_less v w = is_lt (int_cmp (number_or_zero v) (number_or_zero w))

abbrev pub text_less : {F : Type 0} → Datum F → Datum F → Bool
text_less v w = is_lt (slice_cmp nat_cmp (text_or_empty v) (text_or_empty w))

-- all Int or all Text
abbrev pub have_one_order : {F : Type 0} → List (Datum F) → Bool
have_one_order vs = list_all is_number vs || list_all is_text vs

-- the first of which no later one is better
abbrev pub best_from : {V : Type 0} → (V → V → Bool) → V → List V → V
best_from better v [] = v
best_from better v (w ∷ ws) = best_from better (if better w v then w else v) ws

abbrev pub best : {F : Type 0} → (Datum F → Datum F → Bool) → List (Datum F) → Result (Datum F) ErrorValue
best better [] = Err nothing_there
best better (v ∷ vs) = if have_one_order (v ∷ vs) then Ok (best_from better v vs) else Err bad_operand

-- in front of the first that isn't less
abbrev pub inserted : {V : Type 0} → (V → V → Bool) → V → List V → List V
inserted less v [] = v ∷ []
inserted less v (w ∷ ws) = if less w v then w ∷ inserted less v ws else v ∷ w ∷ ws

-- in order, those that tie as they stood
abbrev pub in_order : {V : Type 0} → (V → V → Bool) → List V → List V
in_order less [] = []
in_order less (v ∷ vs) = inserted less v (in_order less vs)

-- ---- `str`

abbrev pub str_at : {F : Type 0} → (F → FileValue) → Datum F → Datum-F F (Datum F) → List ℕ
str_at file v (Datum-F.Text t) = t
str_at file v (Datum-F.Error e) = e.text
str_at file v (Datum-F.File f) = (file f).path
str_at file v _ = repr file v

-- a Text itself, an Error's text, a File's path, else the printed form
abbrev pub str : {F : Type 0} → (F → FileValue) → Datum F → List ℕ
str {F} file v = str_at file v (out-Datum F v)

-- ---- numbers of arguments

abbrev pub takes : Builtin → ℕ → Bool
takes builtin.Range n = nat_le 1 n && nat_le n 3
takes builtin.Min n = nat_le 1 n
takes builtin.Max n = nat_le 1 n
takes _ n = n == 1

module _ {F : Type 0} (file : F → FileValue) where
  abbrev pub less : Datum F → Datum F → Bool
  less v w = is_some_and is_lt (compared file v w)

  abbrev pub greater : Datum F → Datum F → Bool
  greater v w = is_some_and is_gt (compared file v w)

  abbrev pub better : Bool → Datum F → Datum F → Bool
  better true = greater
  better false = less

  abbrev pub candidates_by : List (Datum F) → Option (Datum F) → Result (List (Datum F)) ErrorValue
  candidates_by vs (Some v) = iterated_value v
  candidates_by vs None = Ok vs

  -- the items of an iterable, or the arguments themselves where they are two or more
  abbrev pub candidates : List (Datum F) → Result (List (Datum F)) ErrorValue
  candidates vs = candidates_by vs (the_only vs)

  abbrev pub sorted : List (Datum F) → Result (Datum F) ErrorValue
  sorted vs = if have_one_order vs then Ok (value.List (in_order less vs)) else Err bad_operand

  abbrev pub absolute : Option ℤ → Result (Datum F) ErrorValue
  absolute (Some n) = kept_int (if is_negative n then neg_ℤ n else n)
  absolute None = Err bad_operand

  module _ {N : Type 0} where
    -- a value that is made, unless there is an error
    abbrev pub produced : Result (Datum F) ErrorValue → Part N F (Lazy F)
    produced (Ok v) s = made file (lazy.Val v) s
    produced (Err e) s = Err e

    -- only a printed form is made
    abbrev pub str_held : Datum F → Datum-F F (Datum F) → Part N F (Lazy F)
    str_held v (Datum-F.Text t) = taken (Ok v)
    str_held v (Datum-F.Error e) = taken (Ok (value.Text e.text))
    str_held v (Datum-F.File f) = taken (Ok (value.Text (file f).path))
    str_held v _ = produced (Ok (value.Text (repr file v)))

    -- a builtin on one settled value, if there are no others
    abbrev pub on_one : Builtin → Option (Datum F) → Part N F (Lazy F)
    on_one builtin.Str (Some v) = str_held v (out-Datum F v)
    on_one builtin.Int (Some v) = taken (int_at (out-Datum F v))
    on_one builtin.Sum (Some v) = taken (then_ (iterated_value v) (sum_from (pos 0)))
    on_one builtin.Sorted (Some v) = produced (then_ (iterated_value v) sorted)
    on_one builtin.Abs (Some v) = taken (absolute (number_of v))
    on_one _ _ = taken (Err bad_arguments)

    abbrev pub on_range : List (Datum F) → Part N F (Lazy F)
    on_range (b ∷ []) = produced (range_at (Some (pos 0)) (number_of b) (Some (pos 1)))
    on_range (a ∷ b ∷ []) = produced (range_at (number_of a) (number_of b) (Some (pos 1)))
    on_range (a ∷ b ∷ c ∷ []) = produced (range_at (number_of a) (number_of b) (number_of c))
    on_range _ = taken (Err bad_arguments)

    -- a builtin on settled values
    abbrev pub on_values : Builtin → List (Datum F) → Part N F (Lazy F)
    on_values builtin.Range vs = on_range vs
    on_values builtin.Min vs = taken (then_ (candidates vs) (best less))
    on_values builtin.Max vs = taken (then_ (candidates vs) (best greater))
    on_values kind vs = on_one kind (the_only vs)

    abbrev pub on_settled : Builtin → Option (List (Datum F)) → Part N F (Lazy F)
    on_settled kind (Some vs) = on_values kind vs
    on_settled kind None = taken (Err not_settled)

    abbrev pub on_others : Builtin → List (Lazy F) → Part N F (Lazy F)
    on_others kind es = if takes kind (length es) then on_settled kind (values_of es) else taken (Err bad_arguments)

    -- A builtin on its arguments. `len` also takes lists and dicts with parts that aren't settled.
    abbrev pub on_arguments : Builtin → List (Lazy F) → Part N F (Lazy F)
    on_arguments builtin.Len es = taken (length_of_one (the_only es))
    on_arguments kind es = on_others kind es
