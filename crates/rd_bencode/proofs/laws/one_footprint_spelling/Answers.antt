use Rattle.std.proofs.Common.{arith}
use Rattle.rd_bencode.specs.ProperRecords.{IsProperFootprint}
use Rattle.rd_bencode.specs.RecordReaders.{read_footprint}
use Rattle.rd_bencode.specs.Records.{canon_footprint}
use Rattle.rd_bencode.proofs.Exact.{apart, begins_one}
use Rattle.rd_bencode.proofs.ExactFootprint.{exact_footprint}
use Rattle.rd_bencode.proofs.laws.one_footprint_spelling.Goals as goal

pub returns : goal.returns
returns c = record {
  apart = λ x y px py small. apart read_footprint canon_footprint IsProperFootprint exact_footprint x y px py (omega (arith, small));
  no_prefix = λ x y more px py small. begins_one read_footprint canon_footprint IsProperFootprint exact_footprint x y more px py (omega (arith, small));
}
