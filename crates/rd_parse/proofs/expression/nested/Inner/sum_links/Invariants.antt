use Rattle.std.proofs.Common.{◌≡◌, length}
use Rattle.rd_parse.specs.Reader.{hits, onto, read_many}
use Rattle.rd_parse.specs.Expressions.{plus_of}
use Rattle.rd_parse.specs.Reading.{inner, read_plus}
use Rattle.rd_parse.proofs.expression.nested.Inner.sum_links.Given as goal

abbrev pub invariant-loop-rest : goal.invariant-loop-rest
invariant-loop-rest g l = onto l.all.items (read_many (hits plus_of) (read_plus l.depth (inner l.depth))) l.rest ≡ read_many (hits plus_of) (read_plus l.depth (inner l.depth)) l.fn.tokens

abbrev pub decreases-loop-rest : goal.decreases-loop-rest
decreases-loop-rest g l = length l.rest
