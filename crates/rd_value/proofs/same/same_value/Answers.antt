use Rattle.rd_value.proofs.Deciding.{value_decides, answered}
use Rattle.rd_value.proofs.same.same_value.Goals as goal

pub returns : goal.returns
returns c = answered c.eq.ensures (value_decides _ _)
