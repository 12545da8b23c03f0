use Rattle.std.proofs.Common.{arith}
use Rattle.rd_bencode.specs.ProperRecords.{AreProperWrites}
use Rattle.rd_bencode.specs.RecordReaders.{read_writes}
use Rattle.rd_bencode.specs.Records.{canon_writes}
use Rattle.rd_bencode.proofs.Exact.{apart, begins_one}
use Rattle.rd_bencode.proofs.ExactLists.{exact_writes}
use Rattle.rd_bencode.proofs.laws.one_writes_spelling.Goals as goal

pub returns : goal.returns
returns c = record {
  apart = λ x y px py small. apart read_writes canon_writes AreProperWrites exact_writes x y px py (omega (arith, small));
  no_prefix = λ x y more px py small. begins_one read_writes canon_writes AreProperWrites exact_writes x y more px py (omega (arith, small));
}
