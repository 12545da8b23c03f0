use Rattle.std.proofs.Common.{◌≡◌, length}
use Rattle.rd_parse.specs.declared.terminal.Terminal.TheVariants as w
use Rattle.rd_parse.specs.Reader.{hits}
use Rattle.rd_parse.specs.Noting.{read_past}
use Rattle.rd_parse.specs.Terminal.{is}
use Rattle.rd_parse.specs.StatementReading.{read_dotted_name}
use Rattle.rd_parse.proofs.annotation.dotted_names.Given as goal

abbrev pub invariant-loop-rest : goal.invariant-loop-rest
invariant-loop-rest l = read_past (hits (is w.Dot)) read_dotted_name l.rest ≡ read_past (hits (is w.Dot)) read_dotted_name l.fn.tokens

abbrev pub decreases-loop-rest : goal.decreases-loop-rest
decreases-loop-rest l = length l.rest
