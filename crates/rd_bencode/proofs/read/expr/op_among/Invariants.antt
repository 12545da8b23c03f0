use Rattle.std.proofs.Common.{◌≡◌, drop}
use Rattle.rd_bencode.specs.Exprs.{op_in}
use Rattle.rd_bencode.proofs.read.expr.op_among.Given as goal

abbrev pub invariant-loop-op : goal.invariant-loop-op
invariant-loop-op l = op_in (drop l.op-index l.operators) l.bytes ≡ op_in l.operators l.bytes
