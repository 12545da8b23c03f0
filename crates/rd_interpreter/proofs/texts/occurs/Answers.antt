use Rattle.rd_interpreter.proofs.Occurs.{occurs_is}
use Rattle.rd_interpreter.proofs.texts.occurs.Goals as goal

pub returns : goal.returns
returns c = occurs_is _ _ _ c.contains.ensures.cases
