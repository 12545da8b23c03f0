use Rattle.std.proofs.Common.{◌≡◌, ◌++◌, drop, map}
use Rattle.rd_value.specs.Canon.{joined}
use Rattle.rd_bencode.specs.Records.{job}
use Rattle.rd_bencode.proofs.write.record.push_jobs.Given as goal

abbrev pub invariant-loop-job : goal.invariant-loop-job
invariant-loop-job l = l.out.items ++ joined (map job (drop l.job-index l.jobs)) ≡ l.initial.out.items ++ joined (map job l.jobs)
