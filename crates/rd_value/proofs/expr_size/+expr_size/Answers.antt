use Rattle.std.proofs.Common.{arith}
use Rattle.rd_value.proofs.ExprLayers.{size_call, size_input, size_op, size_list_of, size_dict_of, size_cond, size_map, size_catch}
use Rattle.rd_value.proofs.expr_size.+expr_size.Goals as goal

pub Expr::size-returns-in-Call : goal.Expr::size-returns-in-Call
Expr::size-returns-in-Call t c = rw (c.in-Call.is, size_call (λ f. f), ← c.as_str.ensures.value, ← c.as_slice.ensures, ← c.as_slice-in-Call.ensures) (omega arith)

pub Expr::size-returns-in-Input : goal.Expr::size-returns-in-Input
Expr::size-returns-in-Input t c = rw (c.in-Input.is, size_input (λ f. f), ← c.as_str-in-Input.ensures.value) (omega arith)

pub Expr::size-returns-in-Op : goal.Expr::size-returns-in-Op
Expr::size-returns-in-Op t c = rw (c.in-Op.is, size_op (λ f. f), ← c.text.ensures, ← c.as_slice-in-Op.ensures) (omega arith)

pub Expr::size-returns-in-ListOf : goal.Expr::size-returns-in-ListOf
Expr::size-returns-in-ListOf t c = rw (c.in-ListOf.is, size_list_of (λ f. f), ← c.as_slice-in-ListOf.ensures) (omega arith)

pub Expr::size-returns-in-DictOf : goal.Expr::size-returns-in-DictOf
Expr::size-returns-in-DictOf t c = rw (c.in-DictOf.is, size_dict_of (λ f. f), ← c.as_slice-in-DictOf.ensures) (omega arith)

pub Expr::size-returns-in-Cond : goal.Expr::size-returns-in-Cond
Expr::size-returns-in-Cond t c = rw (c.in-Cond.is, size_cond (λ f. f), ← c.get.ensures, ← c.get-in-Cond.ensures, ← c.get-in-Cond-2.ensures) (omega arith)

pub Expr::size-returns-in-Map : goal.Expr::size-returns-in-Map
Expr::size-returns-in-Map t c = rw (c.in-Map.is, size_map (λ f. f), ← c.as_str-in-Map.ensures.value, ← c.get-in-Map.ensures) (omega arith)

pub Expr::size-returns-in-Catch : goal.Expr::size-returns-in-Catch
Expr::size-returns-in-Catch t c = rw (c.in-Catch.is, size_catch (λ f. f), ← c.get-in-Catch.ensures, ← c.name.ensures, ← c.as_str-in-Catch.ensures.value) (omega arith)
