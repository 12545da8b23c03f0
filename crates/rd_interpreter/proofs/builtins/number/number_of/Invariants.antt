use Rattle.std.proofs.Common.{◌≡◌, ◌^◌, ◌<◌, drop}
use Rattle.std.specs.Option.{option_map}
use Rattle.rd_interpreter.specs.Number.{capped}
use Rattle.rd_interpreter.specs.Texts.{digits_from}
use Rattle.rd_interpreter.proofs.builtins.number.number_of.Given as goal

abbrev pub invariant-loop-byte : goal.invariant-loop-byte
invariant-loop-byte l = (option_map capped (digits_from l.number (drop l.byte-index l.bytes)) ≡ option_map capped (digits_from 0 l.bytes)) × (l.number < 2 ^ 64)
