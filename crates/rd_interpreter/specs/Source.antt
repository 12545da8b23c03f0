-- What is gone through, from a place on.
use Rattle.std.specs.Prelude.{◌≡◌, ℕ, ◌+◌, ◌<◌, List, [], ◌∷◌, map, drop, Option, Some, None}
use Rattle.std.specs.List.{slice_get}
use Rattle.std.specs.Option.{ForSome, option_map}
use Rattle.std.specs.Str.{IsCharBoundary, chars}
use Rattle.rd_value.specs.declared.value.FileValue.{FileValue}
use Rattle.rd_value.specs.declared.expr.Lazy.{Lazy}
use Rattle.rd_value.specs.declared.expr.Lazy.TheVariants as lazy
use Rattle.rd_value.specs.Operators.{character}
use Rattle.rd_interpreter.specs.declared.turns.source.Source.{Source}
use Rattle.rd_interpreter.specs.declared.turns.source.Source.TheVariants as source

-- the items from a place on
abbrev pub left_of : Source → ℕ → List (Lazy FileValue)
left_of (source.Values vs) place = map lazy.Val (drop place vs)
left_of (source.Exprs es) place = drop place es
left_of (source.Keys ps) place = map lazy.Val (map (λ p. p.0) (drop place ps))
left_of (source.ExprKeys ps) place = map (λ p. lazy.Val p.0) (drop place ps)
left_of (source.Characters t) place = map lazy.Val (map character (chars (drop place t)))

abbrev pub text_of : Source → Option (List ℕ)
text_of (source.Characters t) = Some t
text_of _ = None

-- in a text, behind its beginning, a character begins at the place, or the text ends there
abbrev pub Begins : Source → ℕ → Type 0
Begins s place = ForSome (text_of s) (λ t. 0 < place → IsCharBoundary t place)

-- the item at a place, with the place behind it
abbrev pub ItemAt : Source → ℕ → Option (Lazy FileValue × ℕ) → Type 0
ItemAt s place None = left_of s place ≡ []
ItemAt s place (Some item) = (left_of s place ≡ item.0 ∷ left_of s item.1) × Begins s item.1

-- the value at a place of a list, with the place behind it
abbrev pub next_at : {A : Type 0} → (A → Lazy FileValue) → List A → ℕ → Option (Lazy FileValue × ℕ)
next_at f xs place = option_map (λ x. (f x, place + 1)) (slice_get xs place)

-- the character at a place of a text, with the place behind it
abbrev pub CharacterAt : List ℕ → ℕ → Option (Lazy FileValue × ℕ) → Type 0
CharacterAt t place o = ItemAt (source.Characters t) place o
