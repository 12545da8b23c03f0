use Rattle.std.proofs.Common.{◌≡◌, ◌≤◌}
use Rattle.rd_parse.specs.Reading.{inner, read_parts}
use Rattle.rd_parse.proofs.expression.nested.Inner.parts.Given as goal

abbrev pub invariant-loop-rest : goal.invariant-loop-rest
invariant-loop-rest g l = (l.depth ≤ l.fn.depth) × (read_parts l.depth (inner l.depth) l.tree l.rest ≡ read_parts l.fn.depth (inner l.fn.depth) l.fn.receiver l.fn.tokens)

abbrev pub decreases-loop-rest : goal.decreases-loop-rest
decreases-loop-rest g l = l.depth
