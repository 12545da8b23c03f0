use Rattle.std.proofs.Common.{◌≡◌, ◌≤◌, drop}
use Rattle.rd_parse.specs.Terminal.{greatest, digits_from}
use Rattle.rd_parse.proofs.take.digits.Given as goal

abbrev pub invariant-loop-byte : goal.invariant-loop-byte
invariant-loop-byte l = (l.value ≤ greatest) × (digits_from l.value (drop l.byte-index l.byte-items) ≡ digits_from 0 l.fn.spelling)
