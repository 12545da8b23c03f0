-- What a function of the parser returned, as what its reader gives.
use Rattle.std.specs.Prelude.{◌≡◌, false, List, Option, Some, None, Result, Ok, Err}
use Rattle.rd_syntax.specs.declared.token.Token.{Token}
use Rattle.rd_parse.specs.declared.halt.Halt.{Halt}
use Rattle.rd_parse.specs.declared.halt.Halt.TheVariants as halt
use Rattle.rd_parse.specs.Reader.{Refused, Deep, Outcome, sees, hits, read_one}

-- out of memory, or where the reader stops
abbrev pub Fails : {A : Type 0} → Halt → Outcome Token A → Type 0
Fails halt.Memory read = Unit {0}
Fails (halt.Refused r) read = read ≡ Err (Refused r.now)
Fails (halt.Deep r) read = read ≡ Err (Deep r.now)

-- What was returned is what reading gives, unless memory ran out.
abbrev pub Gives : {X A : Type 0} → (X → A × List Token) → Result X Halt → Outcome Token A → Type 0
Gives view (Ok x) read = read ≡ Ok (view x)
Gives view (Err h) read = Fails h read

-- what is left behind a token, where it stands there
abbrev pub Takes : {A : Type 0} → (Token → Option A) → List Token → Option (List Token) → Type 0
Takes o ts None = sees (hits o) ts ≡ false
Takes {A} o ts (Some rest) = (a : A) × (read_one o ts ≡ Ok (a, rest))
