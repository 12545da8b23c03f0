use Rattle.std.proofs.Common.{◌≡◌, length}
use Rattle.rd_parse.proofs.Past.{names_past}
use Rattle.rd_parse.proofs.import.names_behind.Given as goal

abbrev pub invariant-loop-behind : goal.invariant-loop-behind
invariant-loop-behind l = names_past l.rest ≡ names_past l.fn.tokens

abbrev pub decreases-loop-behind : goal.decreases-loop-behind
decreases-loop-behind l = length l.rest
