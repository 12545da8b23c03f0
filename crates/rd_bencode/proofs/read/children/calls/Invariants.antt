use Rattle.std.proofs.Common.{◌≡◌, ◌-◌, []}
use Rattle.rd_bencode.specs.Lists.{read_each_by, read_each}
use Rattle.rd_bencode.specs.Reader.{onto, place}
use Rattle.rd_bencode.specs.RecordReaders.{read_child, with_call}
use Rattle.rd_bencode.proofs.read.children.calls.Given as goal

abbrev pub invariant-loop : goal.invariant-loop
invariant-loop l = onto l.all.keys (read_each_by read_child with_call (l.end - l.counter) l.all.keys) (place l.here) ≡ read_each read_child with_call [] (place l.spot)
