use Rattle.std.proofs.Common.{◌≡◌, ◌++◌}
use Rattle.rd_syntax.specs.Layout.{dedents}
use Rattle.rd_syntax.proofs.lexer.Lexer.close_blocks.Given as goal

abbrev pub invariant-loop-closed : goal.invariant-loop-closed
invariant-loop-closed l = l.self ≡ record l.fn.self { tokens = l.fn.self.tokens ++ dedents l._closed l.line l.fn.self.here }
