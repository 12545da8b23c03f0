-- Forms whose values are only those that pass a test.
use Rattle.std.specs.Prelude.{◌≡◌, Bool, true, false, List, Ok, Err}
use Rattle.rd_parse.specs.Form.{Form}
use Rattle.rd_parse.specs.Reader.{Reader, Refused, Outcome, and_then}

abbrev pub such : {T A : Type 0} → (A → Bool) → Form T A → Form T A
such ok p a ts rest = p a ts rest × (ok a ≡ true)

abbrev pub passed : {T A : Type 0} → Bool → A → List T → Outcome T A
passed true a rest = Ok (a, rest)
passed false a rest = Err (Refused rest)

-- A value that doesn't pass is refused at the token behind it.
abbrev pub read_such : {T A : Type 0} → (A → Bool) → Reader T A → Reader T A
read_such ok f = λ ts. and_then (f ts) (λ a rest. passed (ok a) a rest)
