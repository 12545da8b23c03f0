-- Lists and dicts of values and of expressions, within the limits.
use Rattle.std.specs.Prelude.{◌≡◌, ◌⊎◌, Bool, true, false, List, [], ◌∷◌, map, Option, None, Some, Result, Ok, Err, if◌then◌else◌}
use Rattle.std.specs.Option.{option_map}
use Rattle.std.specs.List.{IsDistinct, AllPass}
use Rattle.rd_value.specs.declared.make.MakeError.{MakeError}
use Rattle.rd_value.specs.declared.make.MakeError.TheVariants.{LimitError, OutOfMemory}
use Rattle.rd_value.specs.declared.value.FileValue.{FileValue}
use Rattle.rd_value.specs.declared.value.Datum.{Datum, out-Datum}
use Rattle.rd_value.specs.declared.value.Datum.TheVariants as variant
use Rattle.rd_value.specs.declared.value.Datum.TheOpen.{Datum-F}
use Rattle.rd_value.specs.declared.expr.Lazy.{Lazy, out-Lazy}
use Rattle.rd_value.specs.declared.expr.Lazy.TheVariants as expr
use Rattle.rd_value.specs.declared.expr.Lazy.TheOpen.{Lazy-F}
use Rattle.rd_value.specs.Compare.{equal}
use Rattle.rd_value.specs.Limits.{is_within, is_within_expr}

-- a value that may be a key
abbrev pub is_key_at : {F X : Type 0} → Datum-F F X → Bool
is_key_at (Datum-F.Int n) = true
is_key_at (Datum-F.Text t) = true
is_key_at _ = false

abbrev pub is_key : {F : Type 0} → Datum F → Bool
is_key {F} v = is_key_at (out-Datum F v)

-- the value of an expression that is one
abbrev pub value_at : {F X : Type 0} → Lazy-F F X → Option (Datum F)
value_at (Lazy-F.Val v) = Some v
value_at _ = None

abbrev pub value_of : {F : Type 0} → Lazy F → Option (Datum F)
value_of {F} e = value_at (out-Lazy F e)

-- a list with one more in front, where both are there
abbrev pub with_first : {A : Type 0} → Option A → Option (List A) → Option (List A)
with_first (Some x) (Some xs) = Some (x ∷ xs)
with_first _ _ = None

-- the values of expressions that all are values
abbrev pub values_of : {F : Type 0} → List (Lazy F) → Option (List (Datum F))
values_of [] = Some []
values_of (e ∷ es) = with_first (value_of e) (values_of es)

-- the keys and values of pairs of which all expressions are values
abbrev pub pairs_of : {F : Type 0} → List (Datum F × Lazy F) → Option (List (Datum F × Datum F))
pairs_of [] = Some []
pairs_of (p ∷ ps) = with_first (option_map (λ v. (p.0, v)) (value_of p.1)) (pairs_of ps)

-- the list of expressions: a value where all parts are
abbrev pub list_of : {F : Type 0} → List (Lazy F) → Option (List (Datum F)) → Lazy F
list_of es (Some vs) = expr.Val (variant.List vs)
list_of es None = expr.ListOf es

-- the dict of expressions: a value where all parts are
abbrev pub dict_of : {F : Type 0} → List (Datum F × Lazy F) → Option (List (Datum F × Datum F)) → Lazy F
dict_of ps (Some vs) = expr.Val (variant.Dict vs)
dict_of ps None = expr.DictOf ps

module _ {F : Type 0} (file : F → FileValue) where
  -- the value, where it is within the limits
  abbrev pub made : Datum F → Result (Datum F) MakeError
  made v = if is_within file v then Ok v else Err LimitError

  -- the keys of a dict are Int or Text, each once
  pub record IsDict {V : Type 0} (pairs : List (Datum F × V)) : Type 0 where
    pub keys : AllPass is_key (map (λ p. p.0) pairs)
    pub once : IsDistinct (equal file) (map (λ p. p.0) pairs)

  -- the expression, where it is within the limits
  abbrev pub made_expr : Lazy F → Result (Lazy F) MakeError
  made_expr e = if is_within_expr file e then Ok e else Err LimitError

-- the answer, unless memory ran out
abbrev pub OrMemory : {A : Type 0} → Result A MakeError → Result A MakeError → Type 0
OrMemory result answer = (result ≡ answer) ⊎ (result ≡ Err OutOfMemory)
