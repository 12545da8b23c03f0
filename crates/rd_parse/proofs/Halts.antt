-- What each function of the parser adds to what its callees gave.
use Rattle.std.proofs.Common.{◌≡◌, [], ◌∷◌, ◌++◌, Result, Bool, true, List, sym, ap, subst, ◌∙◌}
use Rattle.rd_syntax.specs.declared.token.Token.{Token}
use Rattle.rd_parse.specs.declared.halt.Halt.{Halt}
use Rattle.rd_parse.specs.declared.halt.Halt.TheVariants as halt
use Rattle.rd_parse.specs.Reader.{Refused, Deep, Outcome, Reader, sees, and_then, pure, read_made, read_many, onto}
use Rattle.rd_parse.specs.Gives.{Fails, Gives}
use Rattle.rd_parse.proofs.Loops.{Shrinks, made_stops}

pub fails_then : {A B : Type 0} (h : Halt) (r : Outcome Token A) (f : A → Reader Token B) → Fails h r → Fails h (and_then r f)
fails_then halt.Memory r f e = tt
fails_then (halt.Refused s) r f e = ap (λ r. and_then r f) e
fails_then (halt.Deep s) r f e = ap (λ r. and_then r f) e

pub fails_along : {A : Type 0} (h : Halt) (r s : Outcome Token A) → r ≡ s → Fails h r → Fails h s
fails_along h r s e f = subst (λ r. Fails h r) e f

module _ {A : Type 0} (s : Token → Bool) (g : Reader Token A) (short : Shrinks g) where
  -- what is made of those that are read
  pub made_fails : {B : Type 0} (made : List A → B) (ts : List Token) (h : Halt) (total : Outcome Token B) → sees s ts ≡ true → Fails h (g ts) → read_made made (read_many s g) ts ≡ total → Fails h total
  made_fails made ts halt.Memory total y e w = tt
  made_fails made ts (halt.Refused r) total y e w = sym w ∙ made_stops s g short made ts (Refused r.now) y e
  made_fails made ts (halt.Deep r) total y e w = sym w ∙ made_stops s g short made ts (Deep r.now) y e

  pub plain_fails : (all : List A) (ts : List Token) (h : Halt) (total : Outcome Token (List A)) → sees s ts ≡ true → Fails h (g ts) → onto all (read_many s g) ts ≡ total → Fails h total
  plain_fails all = made_fails (λ more. all ++ more)

-- those that were read behind a first one
pub behind_first : {X A : Type 0} (view : X → List A × List Token) (r : Result X Halt) (f : Reader Token (List A)) (a : A) (items : List A) (ts : List Token) → items ≡ a ∷ [] → Gives view r (onto items f ts) → Gives view r (and_then (f ts) (λ more. pure (a ∷ more)))
behind_first {A = A} view r f a items ts e h = subst (λ (items : List A). Gives view r (onto items f ts)) e h
