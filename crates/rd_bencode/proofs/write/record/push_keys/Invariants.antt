use Rattle.std.proofs.Common.{◌≡◌, ◌++◌, drop, map}
use Rattle.rd_value.specs.Canon.{joined}
use Rattle.rd_bencode.specs.Records.{call_key}
use Rattle.rd_bencode.proofs.write.record.push_keys.Given as goal

abbrev pub invariant-loop-key : goal.invariant-loop-key
invariant-loop-key l = l.out.items ++ joined (map call_key (drop l.key-index l.keys)) ≡ l.initial.out.items ++ joined (map call_key l.keys)
