use Rattle.std.proofs.Common.{arith}
use Rattle.rd_bencode.specs.ProperRecords.{IsProperExecution}
use Rattle.rd_bencode.specs.RecordReaders.{read_execution}
use Rattle.rd_bencode.specs.Records.{canon_execution}
use Rattle.rd_bencode.proofs.Exact.{apart, begins_one}
use Rattle.rd_bencode.proofs.ExactExecution.{exact_execution}
use Rattle.rd_bencode.proofs.laws.one_execution_spelling.Goals as goal

pub returns : goal.returns
returns c = record {
  apart = λ x y px py small. apart read_execution canon_execution IsProperExecution exact_execution x y px py (omega (arith, small));
  no_prefix = λ x y more px py small. begins_one read_execution canon_execution IsProperExecution exact_execution x y more px py (omega (arith, small));
}
