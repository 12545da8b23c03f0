use Rattle.rd_interpreter.proofs.TextPieces.{begins_is}
use Rattle.rd_interpreter.proofs.texts.begins.Goals as goal

pub returns : goal.returns
returns c = begins_is _ _ _ c.starts_with.ensures.cases
