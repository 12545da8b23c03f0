use Rattle.rd_top.proofs.Sources.{one_module}
use Rattle.rd_top.proofs.source.one_module.Goals as goal

pub returns : goal.returns
returns c = one_module
