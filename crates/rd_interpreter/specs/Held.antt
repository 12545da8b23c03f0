-- What a body holds: values, and what isn't settled yet.
use Rattle.std.specs.Prelude.{Bool, not, List, map, codes, Option, None, Some, Result, Ok, Err}
use Rattle.std.specs.Str.{chars}
use Rattle.rd_value.specs.declared.class.Class.TheVariants.{TypeError}
use Rattle.rd_value.specs.declared.value.ErrorValue.{ErrorValue}
use Rattle.rd_value.specs.declared.value.Datum.{Datum, out-Datum}
use Rattle.rd_value.specs.declared.value.Datum.TheOpen.{Datum-F}
use Rattle.rd_value.specs.declared.expr.Lazy.{Lazy, out-Lazy}
use Rattle.rd_value.specs.declared.expr.Lazy.TheVariants as lazy
use Rattle.rd_value.specs.declared.expr.Lazy.TheOpen.{Lazy-F}
use Rattle.rd_value.specs.Make.{value_of}
use Rattle.rd_value.specs.Operators.{bad_operand, character}
use Rattle.rd_value.specs.Truth.{is_empty, truth}

-- the error of what isn't settled, where a settled value has to stand
abbrev pub not_settled : ErrorValue
not_settled = record { class = TypeError; text = codes "lazy value" }

-- a value with its key, as an expression
abbrev pub pair_held : {F : Type 0} → Datum F × Datum F → Datum F × Lazy F
pair_held p = (p.0, lazy.Val p.1)

-- ---- lists and dicts, also with parts that aren't settled

abbrev pub items_of_value : {F : Type 0} → Datum-F F (Datum F) → Option (List (Lazy F))
items_of_value (Datum-F.List vs) = Some (map lazy.Val vs)
items_of_value _ = None

abbrev pub items_at : {F : Type 0} → Lazy-F F (Lazy F) → Option (List (Lazy F))
items_at {F} (Lazy-F.Val v) = items_of_value (out-Datum F v)
items_at (Lazy-F.ListOf es) = Some es
items_at _ = None

-- the items of a list
abbrev pub items_of : {F : Type 0} → Lazy F → Option (List (Lazy F))
items_of {F} e = items_at (out-Lazy F e)

abbrev pub pairs_of_value : {F : Type 0} → Datum-F F (Datum F) → Option (List (Datum F × Lazy F))
pairs_of_value (Datum-F.Dict ps) = Some (map pair_held ps)
pairs_of_value _ = None

abbrev pub pairs_at : {F : Type 0} → Lazy-F F (Lazy F) → Option (List (Datum F × Lazy F))
pairs_at {F} (Lazy-F.Val v) = pairs_of_value (out-Datum F v)
pairs_at (Lazy-F.DictOf ps) = Some ps
pairs_at _ = None

-- the pairs of a dict
abbrev pub pairs_of : {F : Type 0} → Lazy F → Option (List (Datum F × Lazy F))
pairs_of {F} e = pairs_at (out-Lazy F e)

-- ---- settled values

abbrev pub or_not_settled : {A : Type 0} → Option A → Result A ErrorValue
or_not_settled (Some a) = Ok a
or_not_settled None = Err not_settled

-- the value, where it is settled
abbrev pub settled : {F : Type 0} → Lazy F → Result (Datum F) ErrorValue
settled e = or_not_settled (value_of e)

-- ---- truth

abbrev pub truth_at : {F : Type 0} → Lazy-F F (Lazy F) → Result Bool ErrorValue
truth_at (Lazy-F.Val v) = Ok (truth v)
truth_at (Lazy-F.ListOf es) = Ok (not (is_empty es))
truth_at (Lazy-F.DictOf ps) = Ok (not (is_empty ps))
truth_at _ = Err not_settled

-- what the language takes as true
abbrev pub truth_of : {F : Type 0} → Lazy F → Result Bool ErrorValue
truth_of {F} e = truth_at (out-Lazy F e)

-- ---- what a loop goes through

-- the items of a list, the keys of a dict, the characters of a text
abbrev pub iterated_value_at : {F : Type 0} → Datum-F F (Datum F) → Result (List (Datum F)) ErrorValue
iterated_value_at (Datum-F.List vs) = Ok vs
iterated_value_at (Datum-F.Dict ps) = Ok (map (λ p. p.0) ps)
iterated_value_at (Datum-F.Text t) = Ok (map character (chars t))
iterated_value_at _ = Err bad_operand

abbrev pub iterated_value : {F : Type 0} → Datum F → Result (List (Datum F)) ErrorValue
iterated_value {F} v = iterated_value_at (out-Datum F v)

abbrev pub all_held : {F : Type 0} → Result (List (Datum F)) ErrorValue → Result (List (Lazy F)) ErrorValue
all_held (Ok vs) = Ok (map lazy.Val vs)
all_held (Err e) = Err e

abbrev pub iterated_at : {F : Type 0} → Lazy-F F (Lazy F) → Result (List (Lazy F)) ErrorValue
iterated_at (Lazy-F.Val v) = all_held (iterated_value v)
iterated_at (Lazy-F.ListOf es) = Ok es
iterated_at (Lazy-F.DictOf ps) = Ok (map (λ p. lazy.Val p.0) ps)
iterated_at _ = Err not_settled

-- the same, also with parts that aren't settled
abbrev pub iterated : {F : Type 0} → Lazy F → Result (List (Lazy F)) ErrorValue
iterated {F} e = iterated_at (out-Lazy F e)
