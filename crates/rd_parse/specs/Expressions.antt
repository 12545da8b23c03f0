-- The grammar of expressions: a relation of trees to the tokens that spell them. A number says how many levels may be open.
use Rattle.std.specs.Prelude.{ℕ, zero, suc, List, [], ◌∷◌, ◌++◌, Option, Some, None, Bool, true, false, codes}
use Rattle.rd_syntax.specs.declared.token.Token.{Token}
use Rattle.rd_value.specs.declared.value.FileValue.{FileValue}
use Rattle.rd_value.specs.declared.value.Datum.{Datum}
use Rattle.rd_value.specs.declared.value.Datum.TheVariants as value
use Rattle.rd_parse.specs.declared.terminal.Terminal.{Terminal}
use Rattle.rd_parse.specs.declared.terminal.Terminal.TheVariants as w
use Rattle.rd_tree.specs.declared.tree.Name.{Name}
use Rattle.rd_tree.specs.declared.tree.Operator.{Operator}
use Rattle.rd_tree.specs.declared.tree.Operator.TheVariants.{Add, Sub, Mul, FloorDiv, Mod}
use Rattle.rd_tree.specs.declared.tree.Comparison.{Comparison}
use Rattle.rd_tree.specs.declared.tree.Comparison.TheVariants.{Eq, Ne, Lt, Le, Gt, Ge, In, NotIn}
use Rattle.rd_tree.specs.declared.tree.Node.{Node}
use Rattle.rd_tree.specs.declared.tree.Node.TheVariants as node
use Rattle.rd_parse.specs.declared.expression.arguments.Given.{Given}
use Rattle.rd_parse.specs.declared.expression.arguments.Given.TheVariants as given
use Rattle.rd_parse.specs.declared.expression.build.Part.{Part}
use Rattle.rd_parse.specs.declared.expression.build.Part.TheVariants as part
use Rattle.rd_parse.specs.Form.{Form, ◌>>=◌, one, yields, either, many, never, opening, tail, more}
use Rattle.rd_parse.specs.Terminal.{terminal, is, word_of, name_of, text_of, number_of, this_word}

-- an expression of a module
abbrev pub Tree : Type 0
Tree = Node Name

-- ---- single tokens

abbrev pub plus_by : Terminal → Option Operator
plus_by w.Plus = Some Add
plus_by w.Minus = Some Sub
plus_by _ = None

-- `+` `-`
abbrev pub plus_of : Token → Option Operator
plus_of t = plus_by (terminal t)

abbrev pub times_by : Terminal → Option Operator
times_by w.Star = Some Mul
times_by w.Slashes = Some FloorDiv
times_by w.Percent = Some Mod
times_by _ = None

-- `*` `//` `%`
abbrev pub times_of : Token → Option Operator
times_of t = times_by (terminal t)

abbrev pub comparison_by : Terminal → Option Comparison
comparison_by w.Equal = Some Eq
comparison_by w.NotEqual = Some Ne
comparison_by w.Less = Some Lt
comparison_by w.AtMost = Some Le
comparison_by w.Greater = Some Gt
comparison_by w.AtLeast = Some Ge
comparison_by w.In = Some In
comparison_by _ = None

-- `==` `!=` `<` `<=` `>` `>=` `in`
abbrev pub comparison_of : Token → Option Comparison
comparison_of t = comparison_by (terminal t)

abbrev pub constant_by : Terminal → Option (Datum FileValue)
constant_by w.Nothing = Some value.Nothing
constant_by w.True = Some (value.Bool true)
constant_by w.False = Some (value.Bool false)
constant_by _ = None

-- `None` `True` `False`
abbrev pub constant_of : Token → Option (Datum FileValue)
constant_of t = constant_by (terminal t)

-- `path`
abbrev pub path_word : Token → Option (Unit {0})
path_word = this_word (codes "path")

-- the tokens that may begin an expression
abbrev pub begins_expression : Terminal → Bool
begins_expression w.Name = true
begins_expression w.Int = true
begins_expression w.Text = true
begins_expression w.Nothing = true
begins_expression w.True = true
begins_expression w.False = true
begins_expression w.LeftParen = true
begins_expression w.LeftSquare = true
begins_expression w.LeftCurly = true
begins_expression w.Minus = true
begins_expression w.Not = true
begins_expression _ = false

-- the tokens that may begin an argument, once keywords were begun or not
abbrev pub begins_argument : Bool → Terminal → Bool
begins_argument false κ = begins_expression κ
begins_argument true w.Name = true
begins_argument true _ = false

-- the tokens that may begin a part behind an atom
abbrev pub begins_part : Terminal → Bool
begins_part w.LeftSquare = true
begins_part w.Dot = true
begins_part _ = false

-- the tokens that may begin a comparison with a right side
abbrev pub begins_comparison : Terminal → Bool
begins_comparison w.Equal = true
begins_comparison w.NotEqual = true
begins_comparison w.Less = true
begins_comparison w.AtMost = true
begins_comparison w.Greater = true
begins_comparison w.AtLeast = true
begins_comparison w.In = true
begins_comparison w.Not = true
begins_comparison _ = false

-- ---- trees of parts

-- texts one behind the other
abbrev pub joined : List (List ℕ) → List ℕ
joined [] = []
joined (t ∷ ts) = t ++ joined ts

-- one operand alone, or a chain
abbrev pub chained : Tree → List (Operator × Tree) → Tree
chained first [] = first
chained first (l ∷ ls) = node.Chain first (l ∷ ls)

abbrev pub anded : Tree → List Tree → Tree
anded first [] = first
anded first (e ∷ es) = node.And (first ∷ e ∷ es)

abbrev pub ored : Tree → List Tree → Tree
ored first [] = first
ored first (e ∷ es) = node.Or (first ∷ e ∷ es)

-- whether keywords were begun
abbrev pub behind : Bool → Given → Bool
behind s (given.Positional e) = s
behind s (given.Keyword name e) = true

-- the arguments by position, and those by name
abbrev pub Arguments : Type 0
Arguments = List Tree × List (Name × Tree)

abbrev pub with_argument : Given → Arguments → Arguments
with_argument (given.Positional e) all = (e ∷ all.0, all.1)
with_argument (given.Keyword name e) all = (all.0, (name, e) ∷ all.1)

abbrev pub sorted : List Given → Arguments
sorted [] = ([], [])
sorted (a ∷ more) = with_argument a (sorted more)

abbrev pub called : Name → List Given → Tree
called name all = node.Call name (sorted all).0 (sorted all).1

-- the name of a comprehension and what it goes through, and the condition
abbrev pub Clause : Type 0
Clause = (Name × Tree) × List Tree

abbrev pub comp : Tree → Clause → Tree
comp e c = node.Comp e c.0.0 c.0.1 c.1

abbrev pub with_part : Tree → Part → Tree
with_part receiver (part.Index e) = node.Index receiver e
with_part receiver (part.Method name all) = node.Method receiver name all
with_part receiver part.Path = node.Path receiver

-- ---- the rules

-- INT
abbrev pub number : Form Token Tree
number = do z ← one number_of; yields (node.Lit (value.Int z))

-- { TEXT }, joined to what was read
abbrev pub more_texts : List ℕ → Form Token (List ℕ)
more_texts t = do more ← many (one text_of); yields (t ++ joined more)

-- TEXT more_texts
abbrev pub texts : Form Token (List ℕ)
texts = do t ← one text_of; more_texts t

-- texts
abbrev pub text_literal : Form Token Tree
text_literal = do t ← texts; yields (node.Lit (value.Text t))

-- `None` | `True` | `False`
abbrev pub constant : Form Token Tree
constant = do v ← one constant_of; yields (node.Lit v)

-- `not` `in`
abbrev pub not_in : Form Token Comparison
not_in = do u ← one (is w.Not); v ← one (is w.In); yields NotIn

-- `==` | `!=` | `<` | `<=` | `>` | `>=` | `in` | not_in
abbrev pub comparing : Form Token Comparison
comparing = either (one comparison_of) not_in

-- the forms of what stands one level further in
pub record Level : Type 1 where
  pub expression : Form Token Tree
  pub disjunction : Form Token Tree
  pub inversion : Form Token Tree
  pub factor : Form Token Tree
  pub parts : Tree → Form Token Tree

module _ (n : ℕ) (in_ : Level) where
  -- what was read, then { `,` expression } [`,`]
  abbrev pub more_expressions : Tree → Form Token (List Tree)
  more_expressions first = do more ← more (is w.Comma) in_.expression; yields (first ∷ more)

  -- expression more_expressions, or nothing
  abbrev pub expressions : Form Token (List Tree)
  expressions = either (do first ← in_.expression; more_expressions first) (yields [])

  -- NAME `=` expression
  abbrev pub keyword : Form Token Given
  keyword = do name ← one name_of; u ← one (is w.Assign); e ← in_.expression; yields (given.Keyword name e)

  -- expression
  abbrev pub positional : Form Token Given
  positional = do e ← in_.expression; yields (given.Positional e)

  -- an argument by name, or by position where no keyword was begun
  abbrev pub argument : Bool → Form Token Given
  argument false = either keyword positional
  argument true = keyword

  -- what was read, then { `,` argument } [`,`]
  abbrev pub more_arguments : Given → Form Token (List Given)
  more_arguments first = do more ← tail (is w.Comma) argument behind (behind false first); yields (first ∷ more)

  -- argument more_arguments, or nothing
  abbrev pub arguments : Form Token (List Given)
  arguments = either (do first ← argument false; more_arguments first) (yields [])

  -- `(` arguments `)`
  abbrev pub call : Form Token (List Given)
  call = do u ← opening (is w.LeftParen) n; all ← arguments; v ← one (is w.RightParen); yields all

  -- NAME [ call ]
  abbrev pub named : Form Token Tree
  named = do name ← one name_of; either (do all ← call; yields (called name all)) (yields (node.Name name))

  -- `(` expression `)`
  abbrev pub group : Form Token Tree
  group = do u ← opening (is w.LeftParen) n; e ← in_.expression; v ← one (is w.RightParen); yields e

  -- [ `if` disjunction ]
  abbrev pub condition : Form Token (List Tree)
  condition = either (do u ← one (is w.If); e ← in_.disjunction; yields (e ∷ [])) (yields [])

  -- `for` NAME `in` disjunction
  abbrev pub source : Form Token (Name × Tree)
  source = do u ← one (is w.For); name ← one name_of; v ← one (is w.In); e ← in_.disjunction; yields (name, e)

  -- source condition
  abbrev pub clause : Form Token Clause
  clause = do s ← source; c ← condition; yields (s, c)

  -- what was read with more_expressions
  abbrev pub list_of : Tree → Form Token Tree
  list_of first = do all ← more_expressions first; yields (node.List all)

  -- expression ( clause | list_of ), or nothing
  abbrev pub items : Form Token Tree
  items = either (do first ← in_.expression; either (do c ← clause; yields (comp first c)) (list_of first)) (yields (node.List []))

  -- `[` items `]`
  abbrev pub square : Form Token Tree
  square = do u ← opening (is w.LeftSquare) n; e ← items; v ← one (is w.RightSquare); yields e

  -- expression `:` expression
  abbrev pub pair : Form Token (Tree × Tree)
  pair = do key ← in_.expression; u ← one (is w.Colon); e ← in_.expression; yields (key, e)

  -- what was read, then { `,` pair } [`,`]
  abbrev pub more_pairs : Tree × Tree → Form Token (List (Tree × Tree))
  more_pairs first = do more ← more (is w.Comma) pair; yields (first ∷ more)

  -- pair more_pairs, or nothing
  abbrev pub pairs : Form Token (List (Tree × Tree))
  pairs = either (do first ← pair; more_pairs first) (yields [])

  -- `{` pairs `}`
  abbrev pub curly : Form Token Tree
  curly = do u ← opening (is w.LeftCurly) n; all ← pairs; v ← one (is w.RightCurly); yields (node.Dict all)

  -- named | number | text_literal | constant | group | square | curly
  abbrev pub atom : Form Token Tree
  atom = either named (either number (either text_literal (either constant (either group (either square curly)))))

  -- `[` expression `]`
  abbrev pub index : Form Token Part
  index = do u ← opening (is w.LeftSquare) n; e ← in_.expression; v ← one (is w.RightSquare); yields (part.Index e)

  -- `(` expressions `)`
  abbrev pub list_in_brackets : Form Token (List Tree)
  list_in_brackets = do u ← opening (is w.LeftParen) n; all ← expressions; v ← one (is w.RightParen); yields all

  -- NAME list_in_brackets
  abbrev pub method : Form Token Part
  method = do name ← one word_of; all ← list_in_brackets; yields (part.Method name all)

  -- `path`
  abbrev pub path : Form Token Part
  path = do u ← opening path_word n; yields part.Path

  -- `.` path, or `.` method
  abbrev pub dotted : Form Token Part
  dotted = do u ← one (is w.Dot); either path method

  -- index | dotted
  abbrev pub any_part : Form Token Part
  any_part = either index dotted

  -- { any_part }, where each finished one is a level that stays open
  abbrev pub parts : Tree → Form Token Tree
  parts receiver = either (do p ← any_part; in_.parts (with_part receiver p)) (yields receiver)

  -- atom parts
  abbrev pub postfix : Form Token Tree
  postfix = do first ← atom; parts first

  -- `-` factor
  abbrev pub negative : Form Token Tree
  negative = do u ← opening (is w.Minus) n; e ← in_.factor; yields (node.Neg e)

  -- negative | postfix
  abbrev pub factor : Form Token Tree
  factor = either negative postfix

  -- ( `*` | `//` | `%` ) factor
  abbrev pub times : Form Token (Operator × Tree)
  times = do operator ← one times_of; e ← factor; yields (operator, e)

  -- factor { times }
  abbrev pub term : Form Token Tree
  term = do first ← factor; more ← many times; yields (chained first more)

  -- ( `+` | `-` ) term
  abbrev pub plus : Form Token (Operator × Tree)
  plus = do operator ← one plus_of; e ← term; yields (operator, e)

  -- term { plus }
  abbrev pub sum : Form Token Tree
  sum = do first ← term; more ← many plus; yields (chained first more)

  -- comparing sum
  abbrev pub right_side : Form Token (Comparison × Tree)
  right_side = do operator ← comparing; right ← sum; yields (operator, right)

  -- sum [ right_side ]
  abbrev pub comparison : Form Token Tree
  comparison = do left ← sum; either (do r ← right_side; yields (node.Compare r.0 left r.1)) (yields left)

  -- `not` inversion
  abbrev pub negation : Form Token Tree
  negation = do u ← opening (is w.Not) n; e ← in_.inversion; yields (node.Not e)

  -- negation | comparison
  abbrev pub inversion : Form Token Tree
  inversion = either negation comparison

  -- `and` inversion
  abbrev pub and_operand : Form Token Tree
  and_operand = do u ← one (is w.And); inversion

  -- inversion { and_operand }
  abbrev pub conjunction : Form Token Tree
  conjunction = do first ← inversion; more ← many and_operand; yields (anded first more)

  -- `or` conjunction
  abbrev pub or_operand : Form Token Tree
  or_operand = do u ← one (is w.Or); conjunction

  -- conjunction { or_operand }
  abbrev pub disjunction : Form Token Tree
  disjunction = do first ← conjunction; more ← many or_operand; yields (ored first more)

  -- `if` disjunction `else` expression
  abbrev pub choice : Form Token (Tree × Tree)
  choice = do u ← one (is w.If); test ← disjunction; v ← opening (is w.Else) n; e ← in_.expression; yields (test, e)

  -- disjunction [ choice ]
  abbrev pub conditional : Form Token Tree
  conditional = do first ← disjunction; either (do c ← choice; yields (node.Cond c.0 first c.1)) (yields first)

-- the forms one level further in, where so many levels may be open
unfoldable pub level : ℕ → Level
level zero = record { expression = never; disjunction = never; inversion = never; factor = never; parts = λ receiver. never }
level (suc n) = record {
  expression = conditional n (level n);
  disjunction = disjunction n (level n);
  inversion = inversion n (level n);
  factor = factor n (level n);
  parts = parts n (level n);
}

-- an expression in which no more than so many levels are open
unfoldable pub expression : ℕ → Form Token Tree
expression n = conditional n (level n)
