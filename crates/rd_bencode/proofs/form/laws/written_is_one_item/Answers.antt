use Rattle.std.proofs.Common.{arith}
use Rattle.rd_bencode.proofs.Written.{value_item}
use Rattle.rd_bencode.proofs.WrittenExprs.{expr_item}
use Rattle.rd_bencode.proofs.WrittenRecords.{args_item, writes_item, children_item, footprint_item, execution_item}
use Rattle.rd_bencode.proofs.form.laws.written_is_one_item.Goals as goal

pub returns : goal.returns
returns c = record {
  value = λ v proper small. value_item v proper (omega (arith, small));
  expr = λ e proper small. expr_item e proper (omega (arith, small));
  args = λ vs proper small. args_item vs proper (omega (arith, small));
  writes = λ ws small. writes_item ws (omega (arith, small));
  children = λ ks small. children_item ks (omega (arith, small));
  footprint = λ f small. footprint_item f (omega (arith, small));
  execution = λ x few early proper parents small. execution_item x few early proper parents (omega (arith, small));
}
