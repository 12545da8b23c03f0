use Rattle.std.proofs.Common.{◌≡◌, ◌≢◌, [], true, false, sym, ap, ◌∙◌, length, refl}
use Rattle.rd_value.specs.Limits.{is_within}
use Rattle.rd_parse.specs.Reader.{Refused, Deep}
use Rattle.rd_parse.proofs.Whole.{none_left, some_left}
use Rattle.rd_parse.proofs.WholeTexts.{literal_found, literal_is, literal_longer, literal_not_read}
use Rattle.rd_parse.proofs.literal.value_of.Goals as goal
use Rattle.rd_parse.proofs.literal.value_of.Goals.{else-is_empty-via-then-is_empty+else-within, else-is_empty-via-else-is_empty}

pub returns-in-Err-Refused : goal.returns-in-Err-Refused
returns-in-Err-Refused c = record { found = tt; only = λ v h w. literal_not_read c.args.tokens.now (Refused c.in-Err-Refused.field-0-0.now) v (rw c.in-Err-Refused.field-0-is at c.in-Err-Refused.ensures) h }

pub returns-in-Err-Deep : goal.returns-in-Err-Deep
returns-in-Err-Deep c = record { found = tt; only = λ v h w. literal_not_read c.args.tokens.now (Deep c.in-Err-Deep.field-0-0.now) v (rw c.in-Err-Deep.field-0-is at c.in-Err-Deep.ensures) h }

pub returns-then-within-clause-found : goal.returns-then-within-clause-found
returns-then-within-clause-found c =
    let none : c.in-Ok.read.1.now ≡ [] = none_left (length c.in-Ok.read.1.now) c.in-Ok.read.1.now refl (sym c.is_empty.ensures ∙ c.if-is_empty.true) in
    (literal_found c.args.tokens.now c.in-Ok.read.1.now c.in-Ok.read.0 c.in-Ok.ensures none, sym c.within.ensures ∙ c.if-within.true)

pub returns-else-is_empty-clause-only : goal.returns-else-is_empty-clause-only
returns-else-is_empty-clause-only c = λ v h w. elim c.else-is_empty.branch [
  | else-is_empty-via-then-is_empty+else-within e ↦
      let same : c.in-Ok.read.0 ≡ v = literal_is c.args.tokens.now c.in-Ok.read.1.now c.in-Ok.read.0 v c.in-Ok.ensures h in
      let no : is_within (λ f. f) c.in-Ok.read.0 ≡ false = sym e.within.ensures ∙ e.if-within.false in
      (let both : true ≡ false = sym w ∙ ap (is_within (λ f. f)) (sym same) ∙ no in cc)
  | else-is_empty-via-else-is_empty e ↦
      let some : c.in-Ok.read.1.now ≢ [] = some_left (length c.in-Ok.read.1.now) c.in-Ok.read.1.now refl (sym c.is_empty.ensures ∙ e.if-is_empty.false) in
      literal_longer c.args.tokens.now c.in-Ok.read.1.now c.in-Ok.read.0 v some c.in-Ok.ensures h
]
