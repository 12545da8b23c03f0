-- Where the tokens of a source are refused.
use Rattle.std.specs.Prelude.{◌≡◌, ℕ, List, [], ◌∷◌, Err, ◌⊎◌}
use Rattle.rd_syntax.specs.declared.token.Token.{Token}
use Rattle.rd_parse.specs.Form.{StopsAt}
use Rattle.rd_parse.specs.Nesting.{TooDeep}
use Rattle.rd_parse.specs.Reader.{Deep}
use Rattle.rd_parse.specs.Modules.{module_form}
use Rattle.rd_parse.specs.ModuleReading.{read_module}

-- the line of the last token, and the first line where there is no token
abbrev pub last_line : List Token → ℕ
last_line [] = 1
last_line (t ∷ []) = t.line
last_line (t ∷ u ∷ ts) = last_line (u ∷ ts)

-- the line of the first of the tokens left, and that of the last of all where none is left
abbrev pub line_at : List Token → List Token → ℕ
line_at all [] = last_line all
line_at all (t ∷ left) = t.line

-- the first of the tokens left opens one level too many, and it is the first that does
pub record Sinks (tokens left : List Token) : Type 0 where
  pub reads : read_module 64 tokens ≡ Err (Deep left)
  pub deep : TooDeep module_form 64 tokens left

-- no token opens a level too many, and no module's tokens go on with the first of the tokens left
pub record Breaks (tokens left : List Token) : Type 0 where
  pub level : (deep : List Token) → Sinks tokens deep → ⊥
  pub stops : StopsAt module_form tokens left

-- the tokens are no module, and this is the line of the first that can't stand where it stands
pub record RefusedAt (tokens : List Token) (line : ℕ) : Type 0 where
  pub left : List Token
  pub refused : Sinks tokens left ⊎ Breaks tokens left
  pub at_line : line ≡ line_at tokens left
