use Rattle.std.proofs.Common.{◌≡◌, ◌++◌, take, drop}
use Rattle.rd_bencode.specs.Front.{digits, behind_digits}
use Rattle.rd_bencode.proofs.form.split_digits.Given as goal

abbrev pub invariant-loop-i : goal.invariant-loop-i
invariant-loop-i l = record { digits : digits l.bytes ≡ take l.i l.bytes ++ digits (drop l.i l.bytes); behind : behind_digits l.bytes ≡ behind_digits (drop l.i l.bytes) }
