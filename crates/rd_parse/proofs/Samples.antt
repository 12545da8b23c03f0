-- A token of each kind.
use Rattle.std.proofs.Common.{◌≡◌, ℕ, List, [], Some, refl, codes}
use Rattle.rd_syntax.specs.declared.token.TokenKind.{TokenKind}
use Rattle.rd_syntax.specs.declared.token.TokenKind.TheVariants as kind
use Rattle.rd_syntax.specs.declared.token.Token.{Token}
use Rattle.rd_parse.specs.declared.terminal.Terminal.{Terminal}
use Rattle.rd_parse.specs.declared.terminal.Terminal.TheVariants as w
use Rattle.rd_parse.specs.Terminal.{terminal, is}

abbrev pub sample : TokenKind → List ℕ → Token
sample k s = record { kind = k; text = s; span = record { start = 0; «end» = 0 }; line = 0 }

abbrev pub example : Terminal → Token
example w.Name = sample kind.Name (codes "path")
example w.Int = sample kind.Int []
example w.Text = sample kind.Text []
example w.Newline = sample kind.Newline []
example w.Indent = sample kind.Indent []
example w.Dedent = sample kind.Dedent []
example w.End = sample kind.End []
example w.And = sample kind.Reserved (codes "and")
example w.Def = sample kind.Reserved (codes "def")
example w.Elif = sample kind.Reserved (codes "elif")
example w.Else = sample kind.Reserved (codes "else")
example w.False = sample kind.Reserved (codes "False")
example w.For = sample kind.Reserved (codes "for")
example w.From = sample kind.Reserved (codes "from")
example w.If = sample kind.Reserved (codes "if")
example w.Import = sample kind.Reserved (codes "import")
example w.In = sample kind.Reserved (codes "in")
example w.Nothing = sample kind.Reserved (codes "None")
example w.Not = sample kind.Reserved (codes "not")
example w.Or = sample kind.Reserved (codes "or")
example w.Pass = sample kind.Reserved (codes "pass")
example w.Raise = sample kind.Reserved (codes "raise")
example w.Return = sample kind.Reserved (codes "return")
example w.True = sample kind.Reserved (codes "True")
example w.While = sample kind.Reserved (codes "while")
example w.At = sample kind.Sign (codes "@")
example w.LeftParen = sample kind.Sign (codes "(")
example w.RightParen = sample kind.Sign (codes ")")
example w.LeftSquare = sample kind.Sign (codes "[")
example w.RightSquare = sample kind.Sign (codes "]")
example w.LeftCurly = sample kind.Sign (codes "{")
example w.RightCurly = sample kind.Sign (codes "}")
example w.Comma = sample kind.Sign (codes ",")
example w.Colon = sample kind.Sign (codes ":")
example w.Dot = sample kind.Sign (codes ".")
example w.Bar = sample kind.Sign (codes "|")
example w.Arrow = sample kind.Sign (codes "->")
example w.Assign = sample kind.Sign (codes "=")
example w.AddAssign = sample kind.Sign (codes "+=")
example w.Plus = sample kind.Sign (codes "+")
example w.Minus = sample kind.Sign (codes "-")
example w.Star = sample kind.Sign (codes "*")
example w.Slashes = sample kind.Sign (codes "//")
example w.Percent = sample kind.Sign (codes "%")
example w.Equal = sample kind.Sign (codes "==")
example w.NotEqual = sample kind.Sign (codes "!=")
example w.Less = sample kind.Sign (codes "<")
example w.AtMost = sample kind.Sign (codes "<=")
example w.Greater = sample kind.Sign (codes ">")
example w.AtLeast = sample kind.Sign (codes ">=")
example w.Other = sample kind.Reserved []

pub example_is : (κ : Terminal) → is κ (example κ) ≡ Some tt
unfolding terminal
example_is w.Name = refl
example_is _ = refl
