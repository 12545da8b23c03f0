use Rattle.std.proofs.Common.{◌≡◌, ◌-◌, None}
use Rattle.rd_bencode.specs.Lists.{read_each_by, read_each}
use Rattle.rd_bencode.specs.Reader.{onto, place}
use Rattle.rd_bencode.specs.RecordReaders.{read_write, key_of, last_key}
use Rattle.rd_bencode.proofs.read.writes.entries.Given as goal

abbrev pub invariant-loop : goal.invariant-loop
invariant-loop l = onto l.all.items (read_each_by read_write key_of (l.end - l.counter) (last_key l.all.items)) (place l.here) ≡ read_each read_write key_of None (place l.spot)
