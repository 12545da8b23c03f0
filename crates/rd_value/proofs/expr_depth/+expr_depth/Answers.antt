use Rattle.std.proofs.Common.{arith}
use Rattle.rd_value.proofs.ExprLayers.{depth_call, depth_dict_of}
use Rattle.rd_value.proofs.expr_depth.+expr_depth.Goals as goal

pub Expr::depth-returns-in-Call : goal.Expr::depth-returns-in-Call
Expr::depth-returns-in-Call t c = rw (c.in-Call.is, depth_call, ← c.as_slice.ensures, ← c.as_slice-in-Call.ensures) (omega arith)

pub Expr::depth-returns-in-DictOf : goal.Expr::depth-returns-in-DictOf
Expr::depth-returns-in-DictOf t c = rw (c.in-DictOf.is, depth_dict_of, ← c.as_slice-in-DictOf.ensures) (omega arith)
