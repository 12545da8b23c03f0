use Rattle.rd_interpreter.proofs.TextPieces.{ends_is}
use Rattle.rd_interpreter.proofs.texts.ends.Goals as goal

pub returns : goal.returns
returns c = ends_is _ _ _ c.ends_with.ensures.cases
