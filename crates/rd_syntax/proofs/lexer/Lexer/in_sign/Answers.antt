use Rattle.std.proofs.Common.{sym, ◌∙◌}
use Rattle.rd_syntax.proofs.Classes.{ascii, two_ascii, double_low}
use Rattle.rd_syntax.proofs.lexer.Lexer.in_sign.Goals as goal

pub end_sign-requires-clause-utf8 : goal.end_sign-requires-clause-utf8
end_sign-requires-clause-utf8 c = two_ascii c.args.first c.args.byte c.requires.ascii (double_low c.args.first c.args.byte (sym c.is_double.ensures ∙ c.if-is_double.true))

pub end_sign-requires-2-clause-utf8 : goal.end_sign-requires-2-clause-utf8
end_sign-requires-2-clause-utf8 c = ascii c.args.first c.requires.ascii
