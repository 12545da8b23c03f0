use Rattle.std.proofs.Common.{◌≡◌, ◌++◌, drop, map}
use Rattle.rd_value.specs.Canon.{joined}
use Rattle.rd_bencode.specs.Records.{under_digest}
use Rattle.rd_bencode.proofs.write.record.push_tasks.Given as goal

abbrev pub invariant-loop-name : goal.invariant-loop-name
invariant-loop-name l = l.out.items ++ joined (map under_digest (drop l.name-index l.tasks)) ≡ l.initial.out.items ++ joined (map under_digest l.tasks)
