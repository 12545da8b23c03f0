use Rattle.std.proofs.Common.{arith}
use Rattle.rd_bencode.specs.ProperRecords.{AreProperChildren}
use Rattle.rd_bencode.specs.RecordReaders.{read_children}
use Rattle.rd_bencode.specs.Records.{canon_children}
use Rattle.rd_bencode.proofs.Exact.{apart, begins_one}
use Rattle.rd_bencode.proofs.ExactLists.{exact_children}
use Rattle.rd_bencode.proofs.laws.one_children_spelling.Goals as goal

pub returns : goal.returns
returns c = record {
  apart = λ x y px py small. apart read_children canon_children AreProperChildren exact_children x y px py (omega (arith, small));
  no_prefix = λ x y more px py small. begins_one read_children canon_children AreProperChildren exact_children x y more px py (omega (arith, small));
}
