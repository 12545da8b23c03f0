use Rattle.rd_interpreter.proofs.MethodValues.{made_format}
use Rattle.rd_interpreter.proofs.methods.on_text.format.Goals as goal

pub returns-clause-gives : goal.returns-clause-gives
returns-clause-gives c = made_format _ _ _ _ _ c.in_ok-draft.ensures c.drafted.ensures.gives
