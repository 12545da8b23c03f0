use Rattle.std.proofs.Common.{◌≡◌, length}
use Rattle.rd_parse.specs.declared.terminal.Terminal.TheVariants as w
use Rattle.rd_parse.specs.Reader.{onto, read_more}
use Rattle.rd_parse.specs.Terminal.{among, is}
use Rattle.rd_parse.specs.Expressions.{begins_expression}
use Rattle.rd_parse.specs.Reading.{inner, read_pair}
use Rattle.rd_parse.proofs.expression.nested.Inner.pairs_behind.Given as goal

abbrev pub invariant-loop-behind : goal.invariant-loop-behind
invariant-loop-behind g l =
    onto l.all.items (read_more (is w.Comma) (among begins_expression) (read_pair l.depth (inner l.depth))) l.rest ≡ onto l.fn.all.items (read_more (is w.Comma) (among begins_expression) (read_pair l.depth (inner l.depth))) l.fn.tokens

abbrev pub decreases-loop-behind : goal.decreases-loop-behind
decreases-loop-behind g l = length l.rest
