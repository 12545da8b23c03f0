-- The tests that `<` and its kin make of an order.
use Rattle.std.specs.Prelude.{Bool}
use Rattle.std.specs.declared.cmp.Ordering.{Ordering}
use Rattle.std.specs.Ordering.{is_lt, is_le, is_gt, is_ge}
use Rattle.rd_value.specs.declared.expr.OpKind.{OpKind}
use Rattle.rd_value.specs.declared.expr.OpKind.TheVariants as op

abbrev pub test_of : OpKind → Ordering → Bool
test_of op.Lt = is_lt
test_of op.Le = is_le
test_of op.Gt = is_gt
test_of _ = is_ge
