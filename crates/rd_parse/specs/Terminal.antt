-- What a token is to the grammar.
use Rattle.std.specs.Option.{option_map}
use Rattle.std.specs.Prelude.{not, ℤ, pos, ℕ, ◌+◌, ◌*◌, ◌-◌, nat_le, List, [], ◌∷◌, codes, Option, Some, None, Bool, true, false, ◌&&◌, if◌then◌else◌}
use Rattle.std.specs.Str.{bytes_eq}
use denote.Enum.Bare.{sameb}
use Rattle.rd_syntax.specs.declared.token.TokenKind.{TokenKind}
use Rattle.rd_syntax.specs.declared.token.TokenKind.TheVariants as kind
use Rattle.rd_syntax.specs.declared.token.Token.{Token}
use Rattle.rd_parse.specs.declared.terminal.Terminal.{Terminal}
use Rattle.rd_parse.specs.declared.terminal.Terminal.TheVariants as w
use Rattle.rd_parse.specs.contracts.terminal.Terminal.{the_type}
use Rattle.rd_tree.specs.declared.tree.Name.{Name}

-- the reserved words that the grammar knows
abbrev pub word : List ℕ → Terminal
word s =
    if bytes_eq s (codes "and") then w.And
    else if bytes_eq s (codes "def") then w.Def
    else if bytes_eq s (codes "elif") then w.Elif
    else if bytes_eq s (codes "else") then w.Else
    else if bytes_eq s (codes "False") then w.False
    else if bytes_eq s (codes "for") then w.For
    else if bytes_eq s (codes "from") then w.From
    else if bytes_eq s (codes "if") then w.If
    else if bytes_eq s (codes "import") then w.Import
    else if bytes_eq s (codes "in") then w.In
    else if bytes_eq s (codes "None") then w.Nothing
    else if bytes_eq s (codes "not") then w.Not
    else if bytes_eq s (codes "or") then w.Or
    else if bytes_eq s (codes "pass") then w.Pass
    else if bytes_eq s (codes "raise") then w.Raise
    else if bytes_eq s (codes "return") then w.Return
    else if bytes_eq s (codes "True") then w.True
    else if bytes_eq s (codes "while") then w.While
    else w.Other

-- the signs
abbrev pub sign : List ℕ → Terminal
sign s =
    if bytes_eq s (codes "@") then w.At
    else if bytes_eq s (codes "(") then w.LeftParen
    else if bytes_eq s (codes ")") then w.RightParen
    else if bytes_eq s (codes "[") then w.LeftSquare
    else if bytes_eq s (codes "]") then w.RightSquare
    else if bytes_eq s (codes "{") then w.LeftCurly
    else if bytes_eq s (codes "}") then w.RightCurly
    else if bytes_eq s (codes ",") then w.Comma
    else if bytes_eq s (codes ":") then w.Colon
    else if bytes_eq s (codes ".") then w.Dot
    else if bytes_eq s (codes "|") then w.Bar
    else if bytes_eq s (codes "->") then w.Arrow
    else if bytes_eq s (codes "=") then w.Assign
    else if bytes_eq s (codes "+=") then w.AddAssign
    else if bytes_eq s (codes "+") then w.Plus
    else if bytes_eq s (codes "-") then w.Minus
    else if bytes_eq s (codes "*") then w.Star
    else if bytes_eq s (codes "//") then w.Slashes
    else if bytes_eq s (codes "%") then w.Percent
    else if bytes_eq s (codes "==") then w.Equal
    else if bytes_eq s (codes "!=") then w.NotEqual
    else if bytes_eq s (codes "<") then w.Less
    else if bytes_eq s (codes "<=") then w.AtMost
    else if bytes_eq s (codes ">") then w.Greater
    else if bytes_eq s (codes ">=") then w.AtLeast
    else w.Other

abbrev pub terminal_of : TokenKind → List ℕ → Terminal
terminal_of kind.Name s = w.Name
terminal_of kind.Int s = w.Int
terminal_of kind.Text s = w.Text
terminal_of kind.Reserved s = word s
terminal_of kind.Sign s = sign s
terminal_of kind.Newline s = w.Newline
terminal_of kind.Indent s = w.Indent
terminal_of kind.Dedent s = w.Dedent
terminal_of kind.End s = w.End

unfoldable pub terminal : Token → Terminal
terminal t = terminal_of t.kind t.text

-- ---- the sets of tokens that the grammar asks for

abbrev pub among : (Terminal → Bool) → Token → Bool
among s t = s (terminal t)

abbrev pub same : Terminal → Terminal → Bool
same w v = sameb the_type w v

abbrev pub flag : Bool → Option (Unit {0})
flag true = Some tt
flag false = None

-- this terminal
abbrev pub is : Terminal → Token → Option (Unit {0})
is w t = flag (same (terminal t) w)

-- ---- what a token carries

abbrev pub spelled : Terminal → List ℕ → Option (List ℕ)
spelled w.Name s = Some s
spelled _ s = None

-- the spelling of a name
abbrev pub word_of : Token → Option (List ℕ)
word_of t = spelled (terminal t) t.text

abbrev pub named : Terminal → List ℕ → ℕ → Option Name
named w.Name s line = Some (record { text = s; line = line })
named _ s line = None

-- a name with its line
abbrev pub name_of : Token → Option Name
name_of t = named (terminal t) t.text t.line

abbrev pub quoted : Terminal → List ℕ → Option (List ℕ)
quoted w.Text s = Some s
quoted _ s = None

-- the value of a text
abbrev pub text_of : Token → Option (List ℕ)
text_of t = quoted (terminal t) t.text

abbrev pub is_digit : ℕ → Bool
is_digit b = nat_le 48 b && nat_le b 57

-- the greatest number of a source
abbrev pub greatest : ℕ
greatest = 9223372036854775807

-- the number with one digit more, where it is none too great
abbrev pub with_digit : ℕ → ℕ → Option ℕ
with_digit value d = let next : ℕ = 10 * value + (d - 48) in if is_digit d && nat_le next greatest then Some next else None

abbrev pub digits_then : (ℕ → Option ℕ) → Option ℕ → Option ℕ
digits_then f None = None
digits_then f (Some value) = f value

-- the number that has these digits behind one that was read
abbrev pub digits_from : ℕ → List ℕ → Option ℕ
digits_from value [] = Some value
digits_from value (d ∷ ds) = digits_then (λ next. digits_from next ds) (with_digit value d)

abbrev pub counted : Terminal → List ℕ → Option ℤ
counted w.Int s = option_map pos (digits_from 0 s)
counted _ s = None

-- the value of a number
abbrev pub number_of : Token → Option ℤ
number_of t = counted (terminal t) t.text

abbrev pub spells : List ℕ → Terminal → List ℕ → Bool
spells wanted w.Name s = bytes_eq s wanted
spells wanted _ s = false

-- the name that is spelled so
abbrev pub this_word : List ℕ → Token → Option (Unit {0})
this_word wanted t = flag (spells wanted (terminal t) t.text)

abbrev pub is_bracket : Terminal → Bool
is_bracket w.LeftParen = true
is_bracket w.LeftSquare = true
is_bracket w.LeftCurly = true
is_bracket _ = false

-- a token that opens no bracket
abbrev pub plain : Token → Bool
plain t = not (is_bracket (terminal t))
