-- `==` of values, expressions and what is built of them decides whether two of them are one.
use Rattle.std.proofs.Common.{◌≡◌, true, Bool, refl, sym, ◌∙◌, ap, subst, rules}
use Rattle.std.specs.Bool.{Decides}
use Rattle.std.proofs.lemmas.Slice.Eq.{slice_eq-Decides}
use Rattle.rd_value.specs.declared.value.FileValue.{FileValue}
use Rattle.rd_value.specs.declared.value.Datum.{Datum}
use Rattle.rd_value.specs.declared.expr.Lazy.{Lazy}
use Rattle.rd_value.specs.declared.failure.Failure.{Failure}
use Rattle.rd_value.specs.declared.failure.Outcome.{Outcome}
use Rattle.rd_value.specs.declared.failure.Outcome.TheVariants as outcome
use Rattle.rd_value.specs.declared.signature.Parameter.{Parameter}
use Rattle.rd_value.specs.declared.signature.Signature.{Signature}
use Rattle.rd_value.specs.contracts.value.FileValue as file
use Rattle.rd_value.specs.contracts.value.FileValuePartialEq.TheImpl as file_eq
use Rattle.rd_value.specs.contracts.value.FileValuePartialEq.TheImpl.Laws as file_laws
use Rattle.rd_value.specs.contracts.value.FileValueEq.TheImpl as file_equiv
use Rattle.rd_value.specs.contracts.value.FileValueEq.TheImpl.Laws as file_equiv_laws
use Rattle.rd_value.specs.contracts.value.DatumPartialEq.TheImpl as value_eq
use Rattle.rd_value.specs.contracts.value.DatumEq.TheImpl.Laws as value_equiv_laws
use Rattle.rd_value.specs.contracts.expr.LazyPartialEq.TheImpl as expr_eq
use Rattle.rd_value.specs.contracts.expr.LazyEq.TheImpl.Laws as expr_equiv_laws
use Rattle.rd_value.specs.contracts.failure.FailurePartialEq.TheImpl as failure_eq
use Rattle.rd_value.specs.contracts.failure.OutcomePartialEq.TheImpl as outcome_eq
use Rattle.rd_value.specs.contracts.failure.OutcomeEq.TheImpl.Laws as outcome_equiv_laws
use Rattle.rd_value.specs.contracts.signature.ParameterPartialEq.TheImpl as parameter_eq
use Rattle.rd_value.specs.contracts.signature.SignaturePartialEq.TheImpl as signature_eq
use Rattle.rd_value.specs.contracts.signature.ParameterEq.TheImpl.Laws as parameter_equiv_laws
use Rattle.rd_value.specs.contracts.signature.SignatureEq.TheImpl.Laws as signature_equiv_laws
use Rattle.rd_value.proofs.Telling.{Tells}
use Rattle.rd_value.proofs.SameValues.{tells_value}
use Rattle.rd_value.proofs.SameExprs.{tells_expr}

-- from what tells each value from every other, and is true of it and itself
decided : {A : Type 0} (E : A → A → Bool) (a : A) → Tells E a → E a a ≡ true → (b : A) → Decides (E a b) (a ≡ b)
decided E a h w b = (h b, λ p. subst (λ c. E a c ≡ true) p w)

-- what the answer r of a call of `==` says
pub answered : {P : Type 0} {r e : Bool} → r ≡ e → Decides e P → Decides r P
answered h d = (λ t. d.0 (sym h ∙ t), λ p. h ∙ d.1 p)

tells_file : (f g : FileValue) → file_eq.ghosts.eq f g ≡ true → f ≡ g
tells_file f g e = search rules

abbrev pub value_same : Datum FileValue → Datum FileValue → Bool
value_same = (value_eq.ghosts file.the_row file_eq.ghosts file_eq.dict).eq

abbrev pub expr_same : Lazy FileValue → Lazy FileValue → Bool
expr_same = (expr_eq.ghosts file.the_row file_eq.ghosts file_eq.dict).eq

pub value_decides : (a b : Datum FileValue) → Decides (value_same a b) (a ≡ b)
value_decides a =
    decided value_same a (tells_value file.the_row file_eq.ghosts file_eq.dict file_laws.lawful tells_file a)
    ((value_equiv_laws.laws-law file.the_row file_equiv.ghosts file_equiv.dict file_eq.ghosts file_eq.dict file_equiv_laws.lawful file_laws.lawful).refl a)

pub expr_decides : (a b : Lazy FileValue) → Decides (expr_same a b) (a ≡ b)
expr_decides a =
    decided expr_same a (tells_expr file.the_row file_eq.ghosts file_eq.dict file_laws.lawful tells_file a)
    ((expr_equiv_laws.laws-law file.the_row file_equiv.ghosts file_equiv.dict file_eq.ghosts file_eq.dict file_equiv_laws.lawful file_laws.lawful).refl a)

tells_failure : (f g : Failure) → failure_eq.ghosts.eq f g ≡ true → f ≡ g
tells_failure f g e = search rules

tells_outcome : (a : Outcome) → Tells outcome_eq.ghosts.eq a
tells_outcome (outcome.Value v) (outcome.Value w) e = ap outcome.Value ((value_decides v w).0 e)
tells_outcome (outcome.Value v) (outcome.Failed g) e = cc
tells_outcome (outcome.Failed f) (outcome.Value w) e = cc
tells_outcome (outcome.Failed f) (outcome.Failed g) e = ap outcome.Failed (tells_failure f g e)

pub outcome_decides : (a b : Outcome) → Decides (outcome_eq.ghosts.eq a b) (a ≡ b)
outcome_decides a = decided outcome_eq.ghosts.eq a (tells_outcome a) (outcome_equiv_laws.laws-law.refl a)

tells_parameter : (p : Parameter) → Tells parameter_eq.ghosts.eq p
tells_parameter p q e = search (rules, value_decides)

pub parameter_decides : (p q : Parameter) → Decides (parameter_eq.ghosts.eq p q) (p ≡ q)
parameter_decides p = decided parameter_eq.ghosts.eq p (tells_parameter p) (parameter_equiv_laws.laws-law.refl p)

tells_signature : (s : Signature) → Tells signature_eq.ghosts.eq s
tells_signature s t e i = record { parameters = (slice_eq-Decides parameter_decides s.parameters t.parameters _ refl).0 e i }

pub signature_decides : (s t : Signature) → Decides (signature_eq.ghosts.eq s t) (s ≡ t)
signature_decides s = decided signature_eq.ghosts.eq s (tells_signature s) (signature_equiv_laws.laws-law.refl s)

pub ruleset decisions = (value_decides, expr_decides, outcome_decides, parameter_decides, signature_decides)
