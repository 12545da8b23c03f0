use Rattle.std.proofs.Common.{◌≡◌, ◌++◌, drop, map}
use Rattle.rd_value.specs.Canon.{joined}
use Rattle.rd_bencode.specs.Records.{under_digest}
use Rattle.rd_bencode.proofs.write.record.push_writes.Given as goal

abbrev pub invariant-loop-path : goal.invariant-loop-path
invariant-loop-path l = l.out.items ++ joined (map under_digest (drop l.path-index l.writes)) ≡ l.initial.out.items ++ joined (map under_digest l.writes)
