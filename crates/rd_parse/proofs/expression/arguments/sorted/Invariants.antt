use Rattle.std.proofs.Common.{◌≡◌}
use Rattle.rd_parse.specs.Expressions.{sorted}
use Rattle.rd_parse.proofs.Built.{with_left}
use Rattle.rd_parse.proofs.expression.arguments.sorted.Given as goal

abbrev pub invariant-loop-argument : goal.invariant-loop-argument
invariant-loop-argument l = with_left l.positional.items l.keywords.items l.argument-iterator.rest.items ≡ sorted l.fn.all.items
