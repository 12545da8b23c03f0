use Rattle.rd_value.proofs.Deciding.{expr_decides, answered}
use Rattle.rd_value.proofs.same.same_expr.Goals as goal

pub returns : goal.returns
returns c = answered c.eq.ensures (expr_decides _ _)
