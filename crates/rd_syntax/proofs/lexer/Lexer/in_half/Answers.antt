use Rattle.std.proofs.Common.{◌≡◌, ◌<◌, ℕ, subst, sym, ◌∙◌}
use Rattle.rd_syntax.specs.Bytes.{other_half}
use Rattle.rd_syntax.proofs.Classes.{two_ascii, half_low}
use Rattle.rd_syntax.proofs.lexer.Lexer.in_half.Goals as goal

pub end_sign-requires-clause-utf8 : goal.end_sign-requires-clause-utf8
end_sign-requires-clause-utf8 c =
    let half : c.args.byte ≡ other_half c.args.first = c.if-byte-other_half.false ∙ c.other_half.ensures in
    two_ascii c.args.first c.args.byte c.requires.ascii (subst (λ (n : ℕ). n < 128) (sym half) (half_low c.args.first))
