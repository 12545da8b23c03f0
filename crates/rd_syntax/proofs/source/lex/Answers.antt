use Rattle.std.proofs.Common.{arith}
use Rattle.rd_syntax.proofs.Stops.{answers_found, answers_only, answers_line}
use Rattle.rd_syntax.proofs.source.lex.Goals as goal

pub returns-clause-found : goal.returns-clause-found
returns-clause-found c = answers_found c.read.result c.args.source.now (omega arith) c.read.ensures

pub returns-clause-only : goal.returns-clause-only
returns-clause-only c = answers_only c.read.result c.args.source.now c.read.ensures

pub returns-clause-line : goal.returns-clause-line
returns-clause-line c = answers_line c.read.result c.args.source.now c.read.ensures
