use Rattle.std.proofs.Common.{◌≡◌, ◌++◌, drop, string_bytes}
use Rattle.rd_value.specs.Repr.{hex_digits}
use Rattle.rd_value.proofs.repr.push_hex_digits.Given as goal

abbrev pub invariant-loop-byte : goal.invariant-loop-byte
invariant-loop-byte l = string_bytes l.out ++ hex_digits (drop l.byte-index l.bytes) ≡ string_bytes l.initial.out ++ hex_digits l.bytes
