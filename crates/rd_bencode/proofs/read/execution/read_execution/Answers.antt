use Rattle.std.proofs.Common.{rules, ◌≤◌, length}
use Rattle.rd_bencode.specs.ProperRecords.{IsProperExecution}
use Rattle.rd_bencode.specs.Reader.{place}
use Rattle.rd_bencode.specs.RecordReaders.{read_execution}
use Rattle.rd_bencode.specs.Records.{canon_execution}
use Rattle.rd_bencode.proofs.Answered.{answer_found, answer_within, answer_only}
use Rattle.rd_bencode.proofs.ExactExecution.{exact_execution}
use Rattle.rd_bencode.proofs.ValuesOnly.{most}
use Rattle.rd_bencode.proofs.read.execution.read_execution.Goals as goal

pub returns-clause-found : goal.returns-clause-found
returns-clause-found c = answer_found read_execution canon_execution IsProperExecution exact_execution c.args.bytes.now (place c.begin.result) c.whole.result c.begin.ensures (c.whole.ensures _ c.execution.ensures)

pub returns-clause-within : goal.returns-clause-within
returns-clause-within c = answer_within read_execution canon_execution IsProperExecution exact_execution c.args.bytes.now (place c.begin.result) c.whole.result c.begin.ensures (c.whole.ensures _ c.execution.ensures)

pub returns-clause-only : goal.returns-clause-only
returns-clause-only c =
    let small : length c.args.bytes.now ≤ most = search rules in
    answer_only read_execution canon_execution IsProperExecution exact_execution c.args.bytes.now (place c.begin.result) c.whole.result c.begin.ensures small (c.whole.ensures _ c.execution.ensures)
