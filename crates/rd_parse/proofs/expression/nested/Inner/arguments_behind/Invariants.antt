use Rattle.std.proofs.Common.{◌≡◌, length}
use Rattle.rd_parse.specs.Reader.{onto}
use Rattle.rd_parse.specs.Reading.{inner, read_arguments_behind}
use Rattle.rd_parse.proofs.expression.nested.Inner.arguments_behind.Given as goal

abbrev pub invariant-loop-begun : goal.invariant-loop-begun
invariant-loop-begun g l =
    onto l.all.items (read_arguments_behind l.depth (inner l.depth) l.keywords) l.rest ≡ onto l.fn.all.items (read_arguments_behind l.depth (inner l.depth) l.fn.keywords) l.fn.tokens

abbrev pub decreases-loop-begun : goal.decreases-loop-begun
decreases-loop-begun g l = length l.rest
