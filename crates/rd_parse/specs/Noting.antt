-- Forms that tell of which tokens a text is made, and readers that keep nothing.
use Rattle.std.specs.Prelude.{◌≡◌, ◌-◌, Bool, true, ◌&&◌, List, [], ◌∷◌, ◌++◌, length, take, Ok}
use Rattle.rd_parse.specs.Form.{Form}
use Rattle.rd_parse.specs.Reader.{Reader, and_then, read_made, read_many}

abbrev pub every : {T : Type 0} → (T → Bool) → List T → Bool
every s [] = true
every s (t ∷ ts) = s t && every s ts

-- a text, and whether each of its tokens is one of the set
abbrev pub noting : {T A : Type 0} → (T → Bool) → Form T A → Form T (Bool × A)
noting {T} s p x ts rest = (used : List T) × (ts ≡ used ++ rest) × (every s used ≡ x.0) × p x.1 ts rest

-- the tokens before what is left
abbrev pub before : {T : Type 0} → List T → List T → List T
before ts rest = take (length ts - length rest) ts

abbrev pub read_noting : {T A : Type 0} → (T → Bool) → Reader T A → Reader T (Bool × A)
read_noting s f = λ ts. and_then (f ts) (λ a rest. Ok ((every s (before ts rest), a), rest))

-- any number of them, of which nothing is kept
abbrev pub read_past : {T A : Type 0} → (T → Bool) → Reader T A → Reader T (Unit {0})
read_past s f = read_made (λ more. tt) (read_many s f)
