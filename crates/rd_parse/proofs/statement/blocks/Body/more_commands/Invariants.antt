use Rattle.std.proofs.Common.{◌≡◌, length}
use Rattle.rd_parse.specs.StatementReading.{read_behind_colon, read_more_commands}
use Rattle.rd_parse.proofs.Blocks.{commands_onto}
use Rattle.rd_parse.proofs.statement.blocks.Body.more_commands.Given as goal

abbrev pub invariant-loop-rest : goal.invariant-loop-rest
invariant-loop-rest g l = commands_onto l.depth l.all.items l.rest ≡ read_more_commands l.depth (read_behind_colon l.depth) l.fn.first l.fn.tokens

abbrev pub decreases-loop-rest : goal.decreases-loop-rest
decreases-loop-rest g l = length l.rest
