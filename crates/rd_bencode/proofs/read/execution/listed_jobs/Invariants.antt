use Rattle.std.proofs.Common.{◌≡◌, ◌-◌}
use Rattle.rd_bencode.specs.Lists.{read_each_by, read_each}
use Rattle.rd_bencode.specs.Reader.{onto, place}
use Rattle.rd_bencode.specs.RecordReaders.{read_job, plain}
use Rattle.rd_bencode.proofs.read.execution.listed_jobs.Given as goal

abbrev pub invariant-loop : goal.invariant-loop
invariant-loop l = onto l.all.items (read_each_by read_job plain (l.end - l.counter) tt) (place l.here) ≡ read_each read_job plain tt (place l.spot)
