use Rattle.rd_value.proofs.Restored.{values_apart, exprs_apart}
use Rattle.rd_value.proofs.book.erasures_tell_apart.Goals as goal

pub returns : goal.returns
returns c = record {
  values = values_apart;
  exprs = exprs_apart;
}
