use Rattle.std.proofs.Common.{◌≡◌, length}
use Rattle.rd_parse.specs.declared.terminal.Terminal.TheVariants as w
use Rattle.rd_parse.specs.Reader.{hits}
use Rattle.rd_parse.specs.Noting.{read_past}
use Rattle.rd_parse.specs.Terminal.{is}
use Rattle.rd_parse.specs.ModuleReading.{read_another_name}
use Rattle.rd_parse.proofs.import.other_names.Given as goal

abbrev pub invariant-loop-rest : goal.invariant-loop-rest
invariant-loop-rest l = read_past (hits (is w.Comma)) read_another_name l.rest ≡ read_past (hits (is w.Comma)) read_another_name l.fn.tokens

abbrev pub decreases-loop-rest : goal.decreases-loop-rest
decreases-loop-rest l = length l.rest
