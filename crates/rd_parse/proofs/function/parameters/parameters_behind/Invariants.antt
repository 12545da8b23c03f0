use Rattle.std.proofs.Common.{◌≡◌, length}
use Rattle.rd_parse.specs.Reader.{onto}
use Rattle.rd_parse.specs.ModuleReading.{read_parameters_behind}
use Rattle.rd_parse.proofs.function.parameters.parameters_behind.Given as goal

abbrev pub invariant-loop-behind : goal.invariant-loop-behind
invariant-loop-behind l = onto l.all.items (read_parameters_behind l.depth l.needed) l.rest ≡ onto l.fn.all.items (read_parameters_behind l.depth l.fn.needed) l.fn.tokens

abbrev pub decreases-loop-behind : goal.decreases-loop-behind
decreases-loop-behind l = length l.rest
