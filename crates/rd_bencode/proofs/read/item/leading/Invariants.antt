use Rattle.std.proofs.Common.{◌≡◌, drop}
use Rattle.rd_bencode.specs.Reader as spec
use Rattle.rd_bencode.proofs.read.item.leading.Given as goal

abbrev pub invariant-loop-byte : goal.invariant-loop-byte
invariant-loop-byte l = spec.leading l.n (drop l.byte-index l.bytes) ≡ spec.leading 0 l.bytes
