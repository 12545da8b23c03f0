-- The grammar of statements. A number says how many levels may be open.
use Rattle.std.specs.Prelude.{ℕ, zero, suc, List, [], ◌∷◌, Option, Some, None, Bool, true, false}
use Rattle.rd_syntax.specs.declared.token.Token.{Token}
use Rattle.rd_parse.specs.declared.terminal.Terminal.{Terminal}
use Rattle.rd_parse.specs.declared.terminal.Terminal.TheVariants as w
use Rattle.rd_tree.specs.declared.tree.Name.{Name}
use Rattle.rd_tree.specs.declared.tree.Operator.TheVariants.{Add}
use Rattle.rd_tree.specs.declared.tree.Node.TheVariants as node
use Rattle.rd_tree.specs.declared.tree.Statement.{Statement}
use Rattle.rd_tree.specs.declared.tree.Statement.TheVariants as statement
use Rattle.rd_parse.specs.Form.{Form, ◌>>=◌, one, yields, either, many, never, opening, below}
use Rattle.rd_parse.specs.Noting.{noting}
use Rattle.rd_parse.specs.Reader.{hits}
use Rattle.rd_parse.specs.Terminal.{is, name_of, text_of}
use Rattle.rd_parse.specs.Expressions.{Tree, expression}

-- a statement of a module
abbrev pub Command : Type 0
Command = Statement Name

-- ---- annotations, of which nothing is kept

-- `.` NAME
abbrev pub dotted_name : Form Token (Unit {0})
dotted_name = do u ← one (is w.Dot); one (is w.Name)

-- NAME { `.` NAME }
abbrev pub long_name : Form Token (Unit {0})
long_name = do u ← one (is w.Name); more ← many dotted_name; yields tt

-- long_name | `None` | TEXT
abbrev pub kind : Form Token (Unit {0})
kind = either long_name (either (one (is w.Nothing)) (one (is w.Text)))

module _ (n : ℕ) (inside : Form Token (Unit {0})) where
  -- `,` annotation
  abbrev pub another : Form Token (Unit {0})
  another = do u ← one (is w.Comma); inside

  -- { `,` annotation }
  abbrev pub others : Form Token (Unit {0})
  others = do more ← many another; yields tt

  -- `[` annotation others `]`
  abbrev pub of_kinds : Form Token (Unit {0})
  of_kinds = do u ← opening (is w.LeftSquare) n; v ← inside; x ← others; y ← one (is w.RightSquare); yields tt

  -- kind [ of_kinds ]
  abbrev pub union_part : Form Token (Unit {0})
  union_part = do u ← kind; either of_kinds (yields tt)

  -- `|` union_part
  abbrev pub another_part : Form Token (Unit {0})
  another_part = do u ← one (is w.Bar); union_part

  -- union_part { `|` union_part }
  abbrev pub union : Form Token (Unit {0})
  union = do u ← union_part; more ← many another_part; yields tt

-- an annotation one level further in
unfoldable pub inner_annotation : ℕ → Form Token (Unit {0})
inner_annotation zero = never
inner_annotation (suc n) = union n (inner_annotation n)

unfoldable pub annotation : ℕ → Form Token (Unit {0})
annotation n = union n (inner_annotation n)

-- [ `:` annotation ]
unfoldable pub annotated : ℕ → Form Token (Unit {0})
annotated n = either (do u ← one (is w.Colon); annotation n) (yields tt)

-- ---- single statements

-- the tokens behind the name of an assignment
abbrev pub begins_assignment : Terminal → Bool
begins_assignment w.Colon = true
begins_assignment w.Assign = true
begins_assignment w.AddAssign = true
begins_assignment _ = false

-- the name with the value added
abbrev pub plus_value : Name → Tree → Tree
plus_value name e = node.Chain (node.Name name) ((Add, e) ∷ [])

-- an expression that stands alone, unless it is of texts alone
abbrev pub spoken : Bool × Tree → Option Command
spoken (true, e) = None
spoken (false, e) = Some (statement.Expr e)

-- `pass`
abbrev pub passing : Form Token (Option Command)
passing = do u ← one (is w.Pass); yields (Some statement.Pass)

module _ (n : ℕ) where
  -- `return` [ expression ]
  abbrev pub returning : Form Token (Option Command)
  returning = do u ← one (is w.Return); either (do e ← expression n; yields (Some (statement.Return (Some e)))) (yields (Some (statement.Return None)))

  -- `raise` NAME `(` expression `)`
  abbrev pub raising : Form Token (Option Command)
  raising = do u ← one (is w.Raise); class ← one name_of; v ← opening (is w.LeftParen) n; e ← below expression n; x ← one (is w.RightParen); yields (Some (statement.Raise class e))

  -- `+=` expression
  abbrev pub adding : Name → Form Token (Option Command)
  adding name = do u ← one (is w.AddAssign); e ← expression n; yields (Some (statement.Assign name (plus_value name e)))

  -- [ `:` annotation ] `=` expression
  abbrev pub giving : Name → Form Token (Option Command)
  giving name = do u ← annotated n; v ← one (is w.Assign); e ← expression n; yields (Some (statement.Assign name e))

  -- adding | giving
  abbrev pub assigned : Name → Form Token (Option Command)
  assigned name = either (adding name) (giving name)

  -- NAME assigned
  abbrev pub assignment : Form Token (Option Command)
  assignment = do name ← one name_of; assigned name

  -- expression
  abbrev pub speaking : Form Token (Option Command)
  speaking = do x ← noting (hits text_of) (expression n); yields (spoken x)

  -- assignment | speaking
  abbrev pub other : Form Token (Option Command)
  other = either assignment speaking

  -- returning | raising | passing | other
  abbrev pub simple : Form Token (Option Command)
  simple = either returning (either raising (either passing other))

  -- simple NEWLINE
  abbrev pub line : Form Token (Option Command)
  line = do s ← simple; u ← one (is w.Newline); yields s

-- ---- blocks

-- those that are there
abbrev pub kept : List (Option Command) → List Command
kept [] = []
kept (None ∷ more) = kept more
kept (Some s ∷ more) = s ∷ kept more

-- the tokens that may begin a statement
abbrev pub begins_statement : Terminal → Bool
begins_statement w.If = true
begins_statement w.For = true
begins_statement w.While = true
begins_statement w.Return = true
begins_statement w.Raise = true
begins_statement w.Pass = true
begins_statement w.Name = true
begins_statement w.Int = true
begins_statement w.Text = true
begins_statement w.Nothing = true
begins_statement w.True = true
begins_statement w.False = true
begins_statement w.LeftParen = true
begins_statement w.LeftSquare = true
begins_statement w.LeftCurly = true
begins_statement w.Minus = true
begins_statement w.Not = true
begins_statement _ = false

-- `body` is what stands behind the `:`, one level further in.
module _ (n : ℕ) (body : Form Token (List Command)) where
  -- `:` body
  abbrev pub block : Form Token (List Command)
  block = do u ← opening (is w.Colon) n; body

  -- expression block
  abbrev pub branch : Form Token (Tree × List Command)
  branch = do test ← expression n; all ← block; yields (test, all)

  -- `elif` branch
  abbrev pub another_branch : Form Token (Tree × List Command)
  another_branch = do u ← one (is w.Elif); branch

  -- [ `else` block ]
  abbrev pub otherwise : Form Token (List Command)
  otherwise = either (do u ← one (is w.Else); block) (yields [])

  -- what was read, then { another_branch }
  abbrev pub more_branches : Tree × List Command → Form Token (List (Tree × List Command))
  more_branches first = do more ← many another_branch; yields (first ∷ more)

  -- branch more_branches
  abbrev pub branches : Form Token (List (Tree × List Command))
  branches = do first ← branch; more_branches first

  -- `if` branches otherwise
  abbrev pub choice : Form Token (Option Command)
  choice = do u ← one (is w.If); all ← branches; other ← otherwise; yields (Some (statement.If all other))

  -- `for` NAME `in` expression block
  abbrev pub for_each : Form Token (Option Command)
  for_each = do u ← one (is w.For); name ← one name_of; v ← one (is w.In); iterable ← expression n; all ← block; yields (Some (statement.For name iterable all))

  -- `while` expression block
  abbrev pub while_true : Form Token (Option Command)
  while_true = do u ← one (is w.While); test ← expression n; all ← block; yields (Some (statement.While test all))

  -- choice | for_each | while_true | line
  abbrev pub command : Form Token (Option Command)
  command = either choice (either for_each (either while_true (line n)))

  -- what was read, then { command }
  abbrev pub more_commands : Option Command → Form Token (List Command)
  more_commands first = do more ← many command; yields (kept (first ∷ more))

  -- command more_commands
  abbrev pub some_commands : Form Token (List Command)
  some_commands = do first ← command; more_commands first

  -- NEWLINE INDENT some_commands DEDENT
  abbrev pub indented : Form Token (List Command)
  indented = do u ← one (is w.Newline); v ← one (is w.Indent); all ← some_commands; x ← one (is w.Dedent); yields all

  -- line
  abbrev pub alone : Form Token (List Command)
  alone = do s ← line n; yields (kept (s ∷ []))

  -- indented | alone
  abbrev pub commands : Form Token (List Command)
  commands = either indented alone

-- what stands behind a `:`, where so many levels could be open before it
unfoldable pub behind_colon : ℕ → Form Token (List Command)
behind_colon zero = never
behind_colon (suc n) = commands n (behind_colon n)

-- a block of a statement, where so many levels may be open
unfoldable pub a_block : ℕ → Form Token (List Command)
a_block n = block n (behind_colon n)
