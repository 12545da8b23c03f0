use Rattle.std.proofs.Common.{arith}
use Rattle.rd_bencode.specs.ProperRecords.{AreProperArgs}
use Rattle.rd_bencode.specs.RecordReaders.{read_args}
use Rattle.rd_bencode.specs.Records.{canon_args}
use Rattle.rd_bencode.proofs.Exact.{apart, begins_one}
use Rattle.rd_bencode.proofs.ExactLists.{exact_args}
use Rattle.rd_bencode.proofs.laws.one_args_spelling.Goals as goal

pub returns : goal.returns
returns c = record {
  apart = λ x y px py small. apart read_args (canon_args (λ f. f)) AreProperArgs exact_args x y px py (omega (arith, small));
  no_prefix = λ x y more px py small. begins_one read_args (canon_args (λ f. f)) AreProperArgs exact_args x y more px py (omega (arith, small));
}
