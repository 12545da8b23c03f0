-- Binding arguments to the parameters of a task.
use Rattle.std.specs.Prelude.{ℕ, List, [], ◌∷◌, ◌++◌, map, codes, if◌then◌else◌, Option, None, Some, Result, Ok, Err}
use Rattle.std.specs.Str.{bytes_eq}
use Rattle.rd_value.specs.declared.class.Class.TheVariants.{TypeError}
use Rattle.rd_value.specs.declared.value.ErrorValue.{ErrorValue}
use Rattle.rd_value.specs.declared.value.FileValue.{FileValue}
use Rattle.rd_value.specs.declared.value.Datum.{Datum}
use Rattle.rd_value.specs.declared.signature.Signature.{Signature}
use Rattle.rd_value.specs.Limits.{are_within}
use Rattle.rd_value.specs.Operators.{value_limit}
use Rattle.rd_value.specs.Raise.{raised}

abbrev pub too_many : ErrorValue
too_many = raised TypeError (codes "too many arguments")

abbrev pub unknown : List ℕ → ErrorValue
unknown name = raised TypeError (codes "unknown argument " ++ name)

abbrev pub given_twice : List ℕ → ErrorValue
given_twice name = raised TypeError (codes "argument " ++ name ++ codes " given twice")

abbrev pub missing : List ℕ → ErrorValue
missing name = raised TypeError (codes "missing argument " ++ name)

-- a parameter, and what it is given
pub record Slot (V : Type 0) : Type 0 where
  pub name : List ℕ
  pub default : Option V
  pub given : Option V

-- what comes after an answer that is one
abbrev pub and_then : {A B : Type 0} → Result A ErrorValue → (A → Result B ErrorValue) → Result B ErrorValue
and_then (Ok x) f = f x
and_then (Err e) f = Err e

module _ {V : Type 0} where
  -- a parameter with its default that is given nothing yet
  abbrev pub empty : List ℕ × Option V → Slot V
  empty p = record { name = p.0; default = p.1; given = None }

  -- positional arguments, in the order of the parameters
  abbrev pub placed : List (List ℕ × Option V) → List V → Result (List (Slot V)) ErrorValue
  placed ps [] = Ok (map empty ps)
  placed [] (v ∷ vs) = Err too_many
  placed (p ∷ ps) (v ∷ vs) = and_then (placed ps vs) (λ slots. Ok (record { name = p.0; default = p.1; given = Some v } ∷ slots))

  -- a parameter that a keyword names, which must not be given yet
  abbrev pub filled : V → Slot V → Option V → Result (Slot V) ErrorValue
  filled v slot (Some w) = Err (given_twice slot.name)
  filled v slot None = Ok (record slot { given = Some v })

  -- a keyword, at the parameter of its name
  abbrev pub with_keyword : List ℕ × V → List (Slot V) → Result (List (Slot V)) ErrorValue
  with_keyword k [] = Err (unknown k.0)
  with_keyword k (slot ∷ slots) =
      if bytes_eq slot.name k.0
      then and_then (filled k.1 slot slot.given) (λ full. Ok (full ∷ slots))
      else and_then (with_keyword k slots) (λ rest. Ok (slot ∷ rest))

  -- keywords, in their order
  abbrev pub with_keywords : List (List ℕ × V) → List (Slot V) → Result (List (Slot V)) ErrorValue
  with_keywords [] slots = Ok slots
  with_keywords (k ∷ ks) slots = and_then (with_keyword k slots) (with_keywords ks)

  -- the value of a parameter: what it is given, else its default
  abbrev pub settled : List ℕ → Option V → Option V → Result V ErrorValue
  settled name (Some v) default = Ok v
  settled name None (Some v) = Ok v
  settled name None None = Err (missing name)

  -- the value of each parameter
  abbrev pub all_settled : List (Slot V) → Result (List V) ErrorValue
  all_settled [] = Ok []
  all_settled (s ∷ slots) = and_then (settled s.name s.given s.default) (λ v. and_then (all_settled slots) (λ vs. Ok (v ∷ vs)))

  -- the value of each parameter, in their order, without a look at the limits
  abbrev pub arguments : List (List ℕ × Option V) → List V → List (List ℕ × V) → Result (List V) ErrorValue
  arguments ps vs ks = and_then (placed ps vs) (λ slots. and_then (with_keywords ks slots) all_settled)

-- the parameters of a signature, each with its default
abbrev pub parameters_of : Signature → List (List ℕ × Option (Datum FileValue))
parameters_of s = map (λ p. (p.name, p.default)) s.parameters

module _ {F : Type 0} (file : F → FileValue) where
  -- values of which the list is within the limits
  abbrev pub limited : List (Datum F) → Result (List (Datum F)) ErrorValue
  limited vs = if are_within file vs then Ok vs else Err value_limit

  -- the value of each parameter, in their order
  abbrev pub bind : List (List ℕ × Option (Datum F)) → List (Datum F) → List (List ℕ × Datum F) → Result (List (Datum F)) ErrorValue
  bind ps vs ks = and_then (arguments ps vs ks) limited
