use Rattle.rd_parse.proofs.WholeTexts.{one_module}
use Rattle.rd_parse.proofs.parser.one_module.Goals as goal

pub returns : goal.returns
returns c = one_module
