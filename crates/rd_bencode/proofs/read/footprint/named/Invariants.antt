use Rattle.std.proofs.Common.{◌≡◌, ◌-◌, None}
use Rattle.rd_bencode.specs.Lists.{read_each_by, read_each}
use Rattle.rd_bencode.specs.Reader.{onto, place}
use Rattle.rd_bencode.specs.RecordReaders.{read_task, key_of, last_key}
use Rattle.rd_bencode.proofs.read.footprint.named.Given as goal

abbrev pub invariant-loop : goal.invariant-loop
invariant-loop l = onto l.all.items (read_each_by read_task key_of (l.end - l.counter) (last_key l.all.items)) (place l.here) ≡ read_each read_task key_of None (place l.spot)
