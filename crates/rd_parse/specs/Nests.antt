-- A function value that reads nested texts.
use Rattle.std.specs.Prelude.{ℕ, ◌<◌, Result, List}
use Rattle.std.specs.declared.alloc.Global.{Global}
use denote.Bor.{Bor}
use Rattle.rd_syntax.specs.declared.token.Token.{Token}
use Rattle.rd_parse.specs.declared.halt.Halt.{Halt}
use Rattle.rd_parse.specs.declared.expression.nested.Rule.{Rule}
use Rattle.rd_parse.specs.declared.expression.nested.Rule.TheVariants as rule
use Rattle.rd_parse.specs.Reader.{Reader}
use Rattle.rd_parse.specs.Gives.{Gives}
use Rattle.rd_parse.specs.Expressions.{Tree}
use Rattle.rd_parse.specs.Reading.{inner, read_conditional, read_disjunction, read_inversion, read_factor}

-- the reader of each rule
abbrev pub read_rule : Rule → ℕ → Reader Token Tree
read_rule rule.Expression n = read_conditional n (inner n)
read_rule rule.Disjunction n = read_disjunction n (inner n)
read_rule rule.Inversion n = read_inversion n (inner n)
read_rule rule.Factor n = read_factor n (inner n)

-- the function reads each rule, where fewer levels than these may be open
pub record Nests (depth : ℕ) (pre : Global → Rule → ℕ → Bor (List Token) → Type 0)
    (post : Global → Rule → ℕ → Bor (List Token) → Result (Tree × Bor (List Token)) Halt → Type 0) : Type 0 where
  pub callable : (alloc : Global) (r : Rule) (n : ℕ) (ts : Bor (List Token)) → n < depth → pre alloc r n ts
  pub reads : (alloc : Global) (r : Rule) (n : ℕ) (ts : Bor (List Token)) (x : Result (Tree × Bor (List Token)) Halt) → n < depth → post alloc r n ts x → Gives (λ y. (y.0, y.1.now)) x (read_rule r n ts.now)
