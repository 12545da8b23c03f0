use Rattle.std.proofs.Common.{◌≡◌, length}
use Rattle.rd_parse.specs.declared.terminal.Terminal.TheVariants as w
use Rattle.rd_parse.specs.Reader.{hits, onto, read_many}
use Rattle.rd_parse.specs.Terminal.{is}
use Rattle.rd_parse.specs.Reading.{inner, read_and}
use Rattle.rd_parse.proofs.expression.nested.Inner.and_operands.Given as goal

abbrev pub invariant-loop-rest : goal.invariant-loop-rest
invariant-loop-rest g l = onto l.all.items (read_many (hits (is w.And)) (read_and l.depth (inner l.depth))) l.rest ≡ read_many (hits (is w.And)) (read_and l.depth (inner l.depth)) l.fn.tokens

abbrev pub decreases-loop-rest : goal.decreases-loop-rest
decreases-loop-rest g l = length l.rest
