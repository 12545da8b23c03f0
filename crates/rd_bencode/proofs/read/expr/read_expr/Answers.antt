use Rattle.rd_bencode.specs.Whole.{expr_of}
use Rattle.rd_bencode.proofs.Whole.{expr_found, expr_only, told_ok, told_halt, never_both}
use Rattle.rd_bencode.proofs.read.expr.read_expr.Goals as goal

pub returns-in-Ok-clause-found : goal.returns-in-Ok-clause-found
returns-in-Ok-clause-found c = (expr_found c.args.bytes.now c.in-Ok.expr c.in-Ok.ensures).0

pub returns-in-Ok-clause-within : goal.returns-in-Ok-clause-within
returns-in-Ok-clause-within c = let f = expr_found c.args.bytes.now c.in-Ok.expr c.in-Ok.ensures in (f.1, f.2)

pub returns-in-Ok-clause-only : goal.returns-in-Ok-clause-only
returns-in-Ok-clause-only c = λ e proper within is. told_ok (expr_of c.args.bytes.now) c.in-Ok.expr e c.in-Ok.ensures (expr_only c.args.bytes.now e proper within is)

pub returns-in-Err-Refused-clause-only : goal.returns-in-Err-Refused-clause-only
returns-in-Err-Refused-clause-only c = λ e proper within is.
    told_halt (expr_of c.args.bytes.now) c.in-Err-Refused.field-0 _ c.refusal.result e c.in-Err-Refused.field-0-is c.in-Err-Refused.ensures (never_both (expr_of c.args.bytes.now) c.in-Err-Refused.left.now e) (expr_only c.args.bytes.now e proper within is)
