-- The operators of a body, also on what isn't settled.
use Rattle.std.specs.Prelude.{ℕ, ℤ, Bool, not, List, [], ◌∷◌, ◌++◌, if◌then◌else◌, Option, None, Some, Result, Ok, Err}
use Rattle.std.specs.List.{list_any, repeat}
use Rattle.rd_value.specs.declared.value.ErrorValue.{ErrorValue}
use Rattle.rd_value.specs.declared.value.FileValue.{FileValue}
use Rattle.rd_value.specs.declared.value.Datum.{Datum, out-Datum}
use Rattle.rd_value.specs.declared.value.Datum.TheVariants as value
use Rattle.rd_value.specs.declared.value.Datum.TheOpen.{Datum-F}
use Rattle.rd_value.specs.declared.expr.OpKind.{OpKind}
use Rattle.rd_value.specs.declared.expr.OpKind.TheVariants as op
use Rattle.rd_value.specs.declared.expr.Lazy.{Lazy, out-Lazy}
use Rattle.rd_value.specs.declared.expr.Lazy.TheOpen.{Lazy-F}
use Rattle.rd_value.specs.declared.expr.Lazy.TheVariants as lazy
use Rattle.rd_value.specs.declared.class.Class.TheVariants.{KeyError}
use Rattle.rd_value.specs.Compare.{number_at, equal}
use Rattle.rd_value.specs.Expand.{listed}
use Rattle.rd_value.specs.Make.{value_of}
use Rattle.rd_value.specs.Operators.{bad_operand, index_out_of_range, item_at, binary, unary, times}
use Rattle.rd_value.specs.Raise.{raised}
use Rattle.rd_value.specs.Repr.{repr}
use Rattle.rd_tree.specs.declared.tree.Operator.{Operator}
use Rattle.rd_tree.specs.declared.tree.Operator.TheVariants as operator
use Rattle.rd_tree.specs.declared.tree.Comparison.{Comparison}
use Rattle.rd_tree.specs.declared.tree.Comparison.TheVariants as comparison
use Rattle.rd_interpreter.specs.State.{Part, answered}
use Rattle.rd_interpreter.specs.Held.{not_settled, items_of}
use Rattle.rd_interpreter.specs.Making.{made, measured, worked, taken, truth_value}
use Rattle.rd_interpreter.specs.Texts.{occurs}

-- what a body calls an operator, and what an expression does
abbrev pub kind_of : Operator → OpKind
kind_of operator.Add = op.Add
kind_of operator.Sub = op.Sub
kind_of operator.Mul = op.Mul
kind_of operator.FloorDiv = op.FloorDiv
kind_of operator.Mod = op.Mod

-- a number that a settled value is
abbrev pub number_of : {F : Type 0} → Datum F → Option ℤ
number_of {F} v = number_at (out-Datum F v)

-- ---- an index into a list or dict with parts that aren't settled

abbrev pub item_found : {F : Type 0} → Option (Lazy F) → Result (Lazy F) ErrorValue
item_found (Some e) = Ok e
item_found None = Err index_out_of_range

abbrev pub item_under : {F : Type 0} → List (Lazy F) → Option ℤ → Result (Lazy F) ErrorValue
item_under es None = Err bad_operand
item_under es (Some n) = item_found (item_at es n)

-- ---- `in`

-- some item is equal
abbrev pub has_item : {F : Type 0} → (F → FileValue) → Datum F → List (Datum F) → Bool
has_item file v vs = list_any (λ x. equal file x v) vs

-- some key is equal
abbrev pub has_key : {F V : Type 0} → (F → FileValue) → Datum F → List (Datum F × V) → Bool
has_key file k ps = list_any (λ p. equal file p.0 k) ps

-- the other truth value
abbrev pub turned : (Bool → Bool) → Result Bool ErrorValue → Result Bool ErrorValue
turned f (Ok b) = Ok (f b)
turned f (Err e) = Err e

-- ---- a list with parts that aren't settled so many times

abbrev pub counted : {F : Type 0} → Lazy-F F (Lazy F) → Option ℤ → Option (List (Lazy F) × ℤ)
counted (Lazy-F.ListOf es) (Some n) = Some (es, n)
counted _ _ = None

-- the list and the number of which `*` is, in either order
abbrev pub repetition : {F : Type 0} → Option (Datum F) → Option (Datum F) → Lazy-F F (Lazy F) → Lazy-F F (Lazy F) → Option (List (Lazy F) × ℤ)
repetition None (Some w) x y = counted x (number_of w)
repetition (Some v) None x y = counted y (number_of v)
repetition _ _ x y = None

module _ {F : Type 0} (file : F → FileValue) where
  -- an Int or a Text in a dict
  abbrev pub key_in : Datum-F F (Datum F) → List (Datum F × Datum F) → Result Bool ErrorValue
  key_in (Datum-F.Int n) ps = Ok (has_key file (value.Int n) ps)
  key_in (Datum-F.Text t) ps = Ok (has_key file (value.Text t) ps)
  key_in _ ps = Err bad_operand

  -- a text in a text
  abbrev pub text_in : Datum-F F (Datum F) → List ℕ → Result Bool ErrorValue
  text_in (Datum-F.Text s) t = Ok (occurs s t)
  text_in _ t = Err bad_operand

  abbrev pub contained_in : Datum F → Datum-F F (Datum F) → Result Bool ErrorValue
  contained_in v (Datum-F.Text t) = text_in (out-Datum F v) t
  contained_in v (Datum-F.List vs) = Ok (has_item file v vs)
  contained_in v (Datum-F.Dict ps) = key_in (out-Datum F v) ps
  contained_in v _ = Err bad_operand

  -- a value that is in another
  abbrev pub contained : Datum F → Datum F → Result Bool ErrorValue
  contained v w = contained_in v (out-Datum F w)

  -- a settled value that is in a settled one
  abbrev pub membership : Option (Datum F) → Option (Datum F) → Result Bool ErrorValue
  membership (Some v) (Some w) = contained v w
  membership _ _ = Err not_settled

  -- the value under a key
  abbrev pub held_under : Datum F → List (Datum F × Lazy F) → Result (Lazy F) ErrorValue
  held_under key [] = Err (raised KeyError (repr file key))
  held_under key (p ∷ ps) = if equal file p.0 key then Ok p.1 else held_under key ps

  abbrev pub under_key : List (Datum F × Lazy F) → Datum-F F (Datum F) → Result (Lazy F) ErrorValue
  under_key ps (Datum-F.Int n) = held_under (value.Int n) ps
  under_key ps (Datum-F.Text t) = held_under (value.Text t) ps
  under_key ps _ = Err bad_operand

  module _ {N : Type 0} where
    -- ---- operators of which a side isn't settled

    -- the expression of an operator on its parts
    abbrev pub operation : OpKind → List (Lazy F) → Part N F (Lazy F)
    operation kind parts = measured file (lazy.Op kind parts)

    -- `+` of two lists
    abbrev pub unsettled_plus : Option (List (Lazy F)) → Option (List (Lazy F)) → Lazy F → Lazy F → Part N F (Lazy F)
    unsettled_plus (Some xs) (Some ys) a b = made file (listed file (xs ++ ys))
    unsettled_plus _ _ a b = operation op.Add (a ∷ b ∷ [])

    -- a list so many times
    abbrev pub repeated : List (Lazy F) → ℤ → Part N F (Lazy F)
    repeated es n = made file (listed file (repeat (times n) es))

    -- what `*` repeats, or an operator
    abbrev pub repeated_or : Option (List (Lazy F) × ℤ) → Lazy F → Lazy F → Part N F (Lazy F)
    repeated_or (Some p) a b = repeated p.0 p.1
    repeated_or None a b = operation op.Mul (a ∷ b ∷ [])

    -- `*` of which a side isn't settled
    abbrev pub unsettled_times : Lazy F → Lazy F → Part N F (Lazy F)
    unsettled_times a b = repeated_or (repetition (value_of a) (value_of b) (out-Lazy F a) (out-Lazy F b)) a b

    abbrev pub index_into : Lazy-F F (Lazy F) → Datum F → Lazy F → Lazy F → Part N F (Lazy F)
    index_into (Lazy-F.ListOf es) w a b = answered (item_under es (number_of w))
    index_into (Lazy-F.DictOf ps) w a b = answered (under_key ps (out-Datum F w))
    index_into _ w a b = operation op.Index (a ∷ b ∷ [])

    -- a list or dict with parts that aren't settled at a settled index
    abbrev pub unsettled_index : Option (Datum F) → Lazy F → Lazy F → Part N F (Lazy F)
    unsettled_index None a b = operation op.Index (a ∷ b ∷ [])
    unsettled_index (Some w) a b = index_into (out-Lazy F a) w a b

    abbrev pub unsettled : OpKind → Lazy F → Lazy F → Part N F (Lazy F)
    unsettled op.Add a b = unsettled_plus (items_of a) (items_of b) a b
    unsettled op.Mul a b = unsettled_times a b
    unsettled op.Index a b = unsettled_index (value_of b) a b
    unsettled kind a b = operation kind (a ∷ b ∷ [])

    -- ---- all operators

    -- an index makes nothing
    abbrev pub on_values : OpKind → Datum F → Datum F → Part N F (Lazy F)
    on_values op.Index v w = taken (binary file op.Index v w)
    on_values kind v w = worked (binary file kind v w)

    abbrev pub on_both : OpKind → Option (Datum F) → Option (Datum F) → Lazy F → Lazy F → Part N F (Lazy F)
    on_both kind (Some v) (Some w) a b = on_values kind v w
    on_both kind _ _ a b = unsettled kind a b

    -- an operator between two sides
    abbrev pub operate : OpKind → Lazy F → Lazy F → Part N F (Lazy F)
    operate kind a b = on_both kind (value_of a) (value_of b) a b

    abbrev pub negated : Option (Datum F) → Lazy F → Part N F (Lazy F)
    negated (Some v) a = worked (unary file op.Neg v)
    negated None a = operation op.Neg (a ∷ [])

    -- unary minus
    abbrev pub negative : Lazy F → Part N F (Lazy F)
    negative a = negated (value_of a) a

    -- a comparison
    abbrev pub compare : Comparison → Lazy F → Lazy F → Part N F (Lazy F)
    compare comparison.Eq a b = operate op.Eq a b
    compare comparison.Ne a b = operate op.Ne a b
    compare comparison.Lt a b = operate op.Lt a b
    compare comparison.Le a b = operate op.Le a b
    compare comparison.Gt a b = operate op.Gt a b
    compare comparison.Ge a b = operate op.Ge a b
    compare comparison.In a b = truth_value (membership (value_of a) (value_of b))
    compare comparison.NotIn a b = truth_value (turned not (membership (value_of a) (value_of b)))
