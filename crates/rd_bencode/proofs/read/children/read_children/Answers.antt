use Rattle.std.proofs.Common.{rules, ◌≤◌, length}
use Rattle.rd_bencode.specs.ProperRecords.{AreProperChildren}
use Rattle.rd_bencode.specs.Reader.{place}
use Rattle.rd_bencode.specs.RecordReaders.{read_children}
use Rattle.rd_bencode.specs.Records.{canon_children}
use Rattle.rd_bencode.proofs.Answered.{answer_found, answer_within, answer_only}
use Rattle.rd_bencode.proofs.ExactLists.{exact_children}
use Rattle.rd_bencode.proofs.ValuesOnly.{most}
use Rattle.rd_bencode.proofs.read.children.read_children.Goals as goal

pub returns-clause-found : goal.returns-clause-found
returns-clause-found c = answer_found read_children canon_children AreProperChildren exact_children c.args.bytes.now (place c.begin.result) c.whole.result c.begin.ensures (c.whole.ensures _ c.children.ensures)

pub returns-clause-within : goal.returns-clause-within
returns-clause-within c = answer_within read_children canon_children AreProperChildren exact_children c.args.bytes.now (place c.begin.result) c.whole.result c.begin.ensures (c.whole.ensures _ c.children.ensures)

pub returns-clause-only : goal.returns-clause-only
returns-clause-only c =
    let small : length c.args.bytes.now ≤ most = search rules in
    answer_only read_children canon_children AreProperChildren exact_children c.args.bytes.now (place c.begin.result) c.whole.result c.begin.ensures small (c.whole.ensures _ c.children.ensures)
