use Rattle.std.proofs.Common.{◌<◌, [], length, rules, ap, ◌∙◌, Some}
use Rattle.rd_interpreter.specs.Draft.{added}
use Rattle.rd_interpreter.specs.Texts.{replaced}
use Rattle.rd_interpreter.proofs.MethodValues.{made_replace}
use Rattle.rd_interpreter.proofs.methods.on_text.replace.Goals as goal

pub returns-clause-gives : goal.returns-clause-gives
returns-clause-gives c =
    let some : 0 < length c.in-Text-Text.old = search rules in
    made_replace _ _ _ c.args.text.now c.in-Text-Text.old c.in-Text-Text.new _ _ _ c.in-Text-Text.is-0 c.in-Text-Text.is-1 some
    (c.in_ok-draft.ensures ∙ ap (λ l. added (Some []) (replaced l c.as_str-3.result.now c.args.text.now)) c.as_str-2.ensures.value ∙ ap (λ l. added (Some []) (replaced c.in-Text-Text.old l c.args.text.now)) c.as_str-3.ensures.value)
    c.drafted.ensures.gives
