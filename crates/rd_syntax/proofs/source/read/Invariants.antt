use Rattle.std.proofs.Common.{◌≡◌, drop}
use Rattle.rd_syntax.specs.declared.lexer.Mode.TheVariants as m
use Rattle.rd_syntax.specs.Machine.{lexed, first_lexer}
use Rattle.rd_syntax.specs.Outcome.{IsAt}
use Rattle.rd_syntax.proofs.source.read.Given as goal

abbrev pub invariant-loop-byte : goal.invariant-loop-byte
invariant-loop-byte l = record {
  left : lexed l.mode l.lexer (drop l.byte-index l.source) ≡ lexed m.First first_lexer l.source;
  counts : IsAt l.byte-index l.mode l.lexer;
}
