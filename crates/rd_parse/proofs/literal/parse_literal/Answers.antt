use Rattle.std.proofs.Common.{sym, subst, ◌∙◌, List, ℕ}
use Rattle.rd_syntax.specs.Sources.{Lexes}
use Rattle.rd_parse.proofs.WholeTexts.{none_spelled}
use Rattle.rd_parse.proofs.literal.parse_literal.Goals as goal

pub returns-in-Ok-clause-only : goal.returns-in-Ok-clause-only
returns-in-Ok-clause-only c =
    none_spelled c.args.text.now c.as_slice.result.now c.value_of.result (λ us l. c.as_slice.ensures ∙ c.in-Ok.ensures.only us (subst (λ (b : List ℕ). Lexes b us) (sym c.as_bytes.ensures.value) l)) c.value_of.ensures.only

pub returns-in-Err-Refused-clause-only : goal.returns-in-Err-Refused-clause-only
returns-in-Err-Refused-clause-only c = λ v s. rw c.in-Err-Refused.field-0-is at (c.in-Err-Refused.ensures.only s.tokens (subst (λ (b : List ℕ). Lexes b s.tokens) (sym c.as_bytes.ensures.value) s.lexes))
