use Rattle.rd_value.proofs.Deciding.{outcome_decides, answered}
use Rattle.rd_value.proofs.same.same_outcome.Goals as goal

pub returns : goal.returns
returns c = answered c.eq.ensures (outcome_decides _ _)
