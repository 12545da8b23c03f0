use Rattle.std.proofs.Common.{rules, ◌≤◌, length}
use Rattle.rd_bencode.specs.ProperRecords.{AreDigests}
use Rattle.rd_bencode.specs.Reader.{place}
use Rattle.rd_bencode.specs.RecordReaders as spec
use Rattle.rd_bencode.specs.Records.{canon_digests}
use Rattle.rd_bencode.proofs.Answered.{answer_found, answer_within, answer_only}
use Rattle.rd_bencode.proofs.SoMany.{exact_digests}
use Rattle.rd_bencode.proofs.ValuesOnly.{most}
use Rattle.rd_bencode.proofs.read.digests.read_digests.Goals as goal

pub returns-clause-found : goal.returns-clause-found
returns-clause-found c = answer_found (spec.read_digests c.args.count) canon_digests (AreDigests c.args.count) (exact_digests c.args.count) c.args.bytes.now (place c.begin.result) c.whole.result c.begin.ensures (c.whole.ensures _ c.digests.ensures)

pub returns-clause-within : goal.returns-clause-within
returns-clause-within c = answer_within (spec.read_digests c.args.count) canon_digests (AreDigests c.args.count) (exact_digests c.args.count) c.args.bytes.now (place c.begin.result) c.whole.result c.begin.ensures (c.whole.ensures _ c.digests.ensures)

pub returns-clause-only : goal.returns-clause-only
returns-clause-only c =
    let small : length c.args.bytes.now ≤ most = search rules in
    answer_only (spec.read_digests c.args.count) canon_digests (AreDigests c.args.count) (exact_digests c.args.count) c.args.bytes.now (place c.begin.result) c.whole.result c.begin.ensures small (c.whole.ensures _ c.digests.ensures)
