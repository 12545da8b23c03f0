use Rattle.rd_value.proofs.Deciding.{signature_decides, answered}
use Rattle.rd_value.proofs.same.same_signature.Goals as goal

pub returns : goal.returns
returns c = answered c.eq.ensures (signature_decides _ _)
