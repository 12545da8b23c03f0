-- A function value that reads what stands behind a colon.
use Rattle.std.specs.Prelude.{ℕ, ◌<◌, Result, List}
use Rattle.std.specs.declared.alloc.Global.{Global}
use denote.Bor.{Bor}
use Rattle.rd_syntax.specs.declared.token.Token.{Token}
use Rattle.rd_parse.specs.declared.halt.Halt.{Halt}
use Rattle.rd_parse.specs.Gives.{Gives}
use Rattle.rd_parse.specs.Statements.{Command}
use Rattle.rd_parse.specs.StatementReading.{read_behind_colon, read_commands}

-- the function reads the statements of a block, where fewer levels than these may be open
pub record ReadsBlocks (depth : ℕ) (pre : Global → ℕ → Bor (List Token) → Type 0)
    (post : Global → ℕ → Bor (List Token) → Result (List Command × Bor (List Token)) Halt → Type 0) : Type 0 where
  pub callable : (alloc : Global) (n : ℕ) (ts : Bor (List Token)) → n < depth → pre alloc n ts
  pub reads : (alloc : Global) (n : ℕ) (ts : Bor (List Token)) (x : Result (List Command × Bor (List Token)) Halt) → n < depth → post alloc n ts x → Gives (λ y. (y.0, y.1.now)) x (read_commands n (read_behind_colon n) ts.now)
