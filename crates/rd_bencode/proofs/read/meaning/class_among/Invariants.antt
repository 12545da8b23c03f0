use Rattle.std.proofs.Common.{◌≡◌, drop}
use Rattle.rd_bencode.specs.Meaning.{class_in}
use Rattle.rd_bencode.proofs.read.meaning.class_among.Given as goal

abbrev pub invariant-loop-class : goal.invariant-loop-class
invariant-loop-class l = class_in (drop l.class-index l.classes) l.bytes ≡ class_in l.classes l.bytes
