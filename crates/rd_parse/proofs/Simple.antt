-- Statements without a block, as the functions of the parser read them.
use Rattle.std.proofs.Common.{◌≡◌, ℕ, zero, suc, ◌-◌, ◌<◌, Bool, ◌&&◌, List, [], ◌∷◌, refl, ap, arith}
use Rattle.std.specs.List.{list_all}
use Rattle.rd_syntax.specs.declared.token.Token.{Token}
use Rattle.rd_parse.specs.Reader.{read_below}
use Rattle.rd_parse.specs.Noting.{every}
use Rattle.rd_parse.specs.Expressions.{expression}
use Rattle.rd_parse.specs.Reading.{read_expression}
use Rattle.rd_parse.proofs.Loops.{Shrinks, shrinks_of}
use Rattle.rd_parse.proofs.Nested.{expression_lawful}

one_less : (n : ℕ) → n ≡ suc n - 1
one_less n = omega arith

pub below_by_one : (n : ℕ) (ts : List Token) → 0 < n → read_below read_expression n ts ≡ read_expression (n - 1) ts
below_by_one zero ts h = absurd (omega arith)
below_by_one (suc n) ts h = ap (λ k. read_expression k ts) (one_less n)

pub every_of_all : (s : Token → Bool) (ts : List Token) → list_all s ts ≡ every s ts
every_of_all s [] = refl
every_of_all s (t ∷ ts) = ap (λ b. s t && b) (every_of_all s ts)

pub expression_short : (n : ℕ) → Shrinks (read_expression n)
expression_short n = shrinks_of n expression read_expression _ _ (expression_lawful n)
