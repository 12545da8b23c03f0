use Rattle.std.proofs.Common.{◌≡◌, ◌-◌}
use Rattle.rd_bencode.specs.Reader.{onto, place}
use Rattle.rd_bencode.specs.RecordReaders.{read_so_many}
use Rattle.rd_bencode.proofs.read.digests.so_many.Given as goal

abbrev pub invariant-loop : goal.invariant-loop
invariant-loop l = onto l.all.items (read_so_many (l.count - l.counter)) (place l.here) ≡ read_so_many l.count (place l.spot)
