use Rattle.rd_parse.proofs.WholeTexts.{one_spelled}
use Rattle.rd_parse.proofs.literal.one_literal.Goals as goal

pub returns : goal.returns
returns c = one_spelled
