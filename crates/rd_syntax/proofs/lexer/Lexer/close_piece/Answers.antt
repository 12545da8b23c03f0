use Rattle.std.proofs.Common.{subst}
use Rattle.rd_syntax.specs.declared.lexer.Mode.{Mode}
use Rattle.rd_syntax.specs.Outcome.{IsSound}
use Rattle.rd_syntax.proofs.Classes.{ascii}
use Rattle.rd_syntax.proofs.lexer.Lexer.close_piece.Goals as goal

pub end_sign-requires-clause-utf8 : goal.end_sign-requires-clause-utf8
end_sign-requires-clause-utf8 c = ascii c.in-Sign.first (subst (λ (mode : Mode). IsSound mode c.args.self.now) c.in-Sign.is c.requires.sound)
