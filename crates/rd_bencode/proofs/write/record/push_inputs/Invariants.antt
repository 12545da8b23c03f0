use Rattle.std.proofs.Common.{◌≡◌, ◌++◌, drop, map}
use Rattle.rd_value.specs.Canon.{joined}
use Rattle.rd_bencode.specs.Records.{seen_path}
use Rattle.rd_bencode.proofs.write.record.push_inputs.Given as goal

abbrev pub invariant-loop-path : goal.invariant-loop-path
invariant-loop-path l = l.out.items ++ joined (map seen_path (drop l.path-index l.inputs)) ≡ l.initial.out.items ++ joined (map seen_path l.inputs)
