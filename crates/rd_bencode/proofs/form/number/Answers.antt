use Rattle.std.proofs.Common.{arith}
use Rattle.rd_bencode.proofs.Fronts.{number_step}
use Rattle.rd_bencode.proofs.form.number.Goals as goal

pub returns-in_err-checked_mul-clause-none : goal.returns-in_err-checked_mul-clause-none
returns-in_err-checked_mul-clause-none c =
    let h = number_step c.loop-digit.n c.loop-digit.digit-index c.args.digits.now (omega arith) in
    let e = c.loop-digit.invariant.number in
    let big = c.in_err-checked_mul.ensures in
    rw c.from_residual.ensures (omega (arith, h, e, big))

pub returns-in_err-n-clause-none : goal.returns-in_err-n-clause-none
returns-in_err-n-clause-none c =
    let h = number_step c.loop-digit.n c.loop-digit.digit-index c.args.digits.now (omega arith) in
    let e = c.loop-digit.invariant.number in
    let big = c.in_err-n.ensures in
    let ten = c.in_ok-checked_mul.ensures in
    let digit = c.from.ensures in
    rw c.from_residual-in_err-n.ensures (omega (arith, h, e, big, ten, digit))
