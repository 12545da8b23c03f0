-- The grammar of functions and modules. A number says how many levels may be open.
use Rattle.std.specs.Prelude.{ℕ, List, [], ◌∷◌, Option, Some, None, Bool, true, false, ◌||◌, codes}
use Rattle.rd_syntax.specs.declared.token.Token.{Token}
use Rattle.rd_parse.specs.declared.terminal.Terminal.{Terminal}
use Rattle.rd_parse.specs.declared.terminal.Terminal.TheVariants as w
use Rattle.rd_tree.specs.declared.tree.Name.{Name}
use Rattle.rd_tree.specs.declared.tree.Parameter.{Parameter}
use Rattle.rd_tree.specs.declared.tree.TaskOption.{TaskOption}
use Rattle.rd_tree.specs.declared.tree.Function.{Function}
use Rattle.rd_tree.specs.declared.tree.Module.{Module}
use Rattle.rd_parse.specs.declared.module.build.Part.{Part}
use Rattle.rd_parse.specs.declared.module.build.Part.TheVariants.{Silent, Namespace, Defined}
use Rattle.rd_parse.specs.Form.{Form, ◌>>=◌, one, yields, either, many, opening, below, tail, more, IsText}
use Rattle.rd_parse.specs.Reader.{is_there}
use Rattle.rd_parse.specs.Terminal.{terminal, is, same, spells, name_of, this_word}
use Rattle.rd_parse.specs.Expressions.{texts}
use Rattle.rd_parse.specs.Literals.{literal, inner_literal}
use Rattle.rd_parse.specs.Statements.{Command, annotation, annotated, a_block}

-- ---- single tokens

abbrev pub line_if : Bool → ℕ → Option ℕ
line_if true line = Some line
line_if false line = None

-- the line of a token that is this terminal
abbrev pub line_of : Terminal → Token → Option ℕ
line_of κ t = line_if (same (terminal t) κ) t.line

-- the line of `redun_namespace`
abbrev pub namespace_of : Token → Option ℕ
namespace_of t = line_if (spells (codes "redun_namespace") (terminal t) t.text) t.line

-- `task`
abbrev pub task_word : Token → Option (Unit {0})
task_word = this_word (codes "task")

-- `redun`
abbrev pub redun_word : Token → Option (Unit {0})
redun_word = this_word (codes "redun")

-- ---- options

-- NAME `=` deep literal, inside a parenthesis
abbrev pub option : ℕ → Form Token TaskOption
option n = do name ← one name_of; u ← one (is w.Assign); v ← inner_literal n; yields (record { name = name; value = v })

-- { `,` option } [`,`], behind a first one
abbrev pub more_options : ℕ → TaskOption → Form Token (List TaskOption)
more_options n first = do more ← more (is w.Comma) (option n); yields (first ∷ more)

-- option more_options, or nothing
abbrev pub options : ℕ → Form Token (List TaskOption)
options n = either (do first ← option n; more_options n first) (yields [])

-- `(` options `)`
abbrev pub options_in_brackets : ℕ → Form Token (List TaskOption)
options_in_brackets n = do u ← opening (is w.LeftParen) n; all ← options n; v ← one (is w.RightParen); yields all

-- [ options_in_brackets ]
abbrev pub given_options : ℕ → Form Token (List TaskOption)
given_options n = either (options_in_brackets n) (yields [])

-- `@` `task` given_options NEWLINE
abbrev pub decorator : ℕ → Form Token (Option (List TaskOption))
decorator n = do u ← one (is w.At); v ← one task_word; all ← given_options n; x ← one (is w.Newline); yields (Some all)

-- decorator, or nothing
abbrev pub decorated : ℕ → Form Token (Option (List TaskOption))
decorated n = either (decorator n) (yields None)

-- ---- parameters

-- `=` literal, inside a parenthesis
abbrev pub with_default : ℕ → Name → Form Token Parameter
with_default n name = do u ← one (is w.Assign); v ← below literal n; yields (record { name = name; default = Some v })

-- a default, or none where no parameter before had one
abbrev pub default_for : ℕ → Name → Bool → Form Token Parameter
default_for n name false = either (with_default n name) (yields (record { name = name; default = None }))
default_for n name true = with_default n name

-- NAME [ `:` annotation ] [ `=` literal ], inside a parenthesis
abbrev pub parameter : ℕ → Bool → Form Token Parameter
parameter n s = do name ← one name_of; u ← below annotated n; default_for n name s

-- whether a default was given so far
abbrev pub defaulted : Bool → Parameter → Bool
defaulted s p = s || is_there p.default

-- { `,` parameter } [`,`]
abbrev pub parameters_behind : ℕ → Bool → Form Token (List Parameter)
parameters_behind n s = tail (is w.Comma) (parameter n) defaulted s

-- parameters_behind, behind a first one
abbrev pub more_parameters : ℕ → Parameter → Form Token (List Parameter)
more_parameters n first = do more ← parameters_behind n (defaulted false first); yields (first ∷ more)

-- parameter more_parameters, or nothing
abbrev pub parameters : ℕ → Form Token (List Parameter)
parameters n = either (do first ← parameter n false; more_parameters n first) (yields [])

-- `(` parameters `)`
abbrev pub parameters_in_brackets : ℕ → Form Token (List Parameter)
parameters_in_brackets n = do u ← opening (is w.LeftParen) n; all ← parameters n; v ← one (is w.RightParen); yields all

-- ---- functions

-- [ `->` annotation ]
abbrev pub returned : ℕ → Form Token (Unit {0})
returned n = either (do u ← one (is w.Arrow); annotation n) (yields tt)

-- a name with its parameters
abbrev pub Head : Type 0
Head = Name × List Parameter

abbrev pub at_line : Name → ℕ → Name
at_line name line = record { text = name.text; line = line }

-- `def` NAME parameters_in_brackets returned
abbrev pub head : ℕ → Form Token Head
head n = do line ← one (line_of w.Def); name ← one name_of; all ← parameters_in_brackets n; u ← returned n; yields (at_line name line, all)

abbrev pub function_of : Option (List TaskOption) → Head → List Command → Function
function_of task x body = record { name = x.0; task = task; parameters = x.1; body = body }

-- decorated head block
abbrev pub function : ℕ → Form Token Function
function n = do task ← decorated n; x ← head n; body ← a_block n; yields (function_of task x body)

-- ---- imports

-- `.` NAME
abbrev pub part_of_path : Form Token (Unit {0})
part_of_path = do u ← one (is w.Dot); one (is w.Name)

-- { part_of_path }
abbrev pub path : Form Token (Unit {0})
path = do more ← many part_of_path; yields tt

-- `,` NAME
abbrev pub another_name : Form Token (Unit {0})
another_name = do u ← one (is w.Comma); one (is w.Name)

-- NAME { `,` NAME }
abbrev pub names : Form Token (Unit {0})
names = do u ← one (is w.Name); more ← many another_name; yields tt

-- { `,` NAME } [`,`]
abbrev pub names_behind : Form Token (Unit {0})
names_behind = do more ← more (is w.Comma) (one (is w.Name)); yields tt

-- `(` NAME names_behind `)`
abbrev pub names_in : ℕ → Form Token (Unit {0})
names_in n = do u ← opening (is w.LeftParen) n; v ← one (is w.Name); x ← names_behind; one (is w.RightParen)

-- `from` `redun` path `import` ( names | names_in ) NEWLINE
abbrev pub import_line : ℕ → Form Token (Unit {0})
import_line n = do
  u ← one (is w.From)
  v ← one redun_word
  p ← path
  x ← one (is w.Import)
  y ← either names (names_in n)
  one (is w.Newline)

-- ---- modules

-- import
abbrev pub imports : ℕ → Form Token Part
imports n = do u ← import_line n; yields Silent

-- TEXT { TEXT } NEWLINE
abbrev pub docstring : Form Token Part
docstring = do t ← texts; u ← one (is w.Newline); yields Silent

-- `redun_namespace` `=` TEXT { TEXT } NEWLINE
abbrev pub namespace : Form Token Part
namespace = do line ← one namespace_of; u ← one (is w.Assign); t ← texts; v ← one (is w.Newline); yields (Namespace (record { text = t; line = line }))

-- function
abbrev pub defines : ℕ → Form Token Part
defines n = do f ← function n; yields (Defined f)

-- docstring | import | namespace | function
abbrev pub part : ℕ → Form Token Part
part n = either docstring (either (imports n) (either namespace (defines n)))

abbrev pub namespaces_of : List Part → List Name
namespaces_of [] = []
namespaces_of (Silent ∷ more) = namespaces_of more
namespaces_of (Namespace name ∷ more) = name ∷ namespaces_of more
namespaces_of (Defined f ∷ more) = namespaces_of more

abbrev pub functions_of : List Part → List Function
functions_of [] = []
functions_of (Silent ∷ more) = functions_of more
functions_of (Namespace name ∷ more) = functions_of more
functions_of (Defined f ∷ more) = f ∷ functions_of more

abbrev pub module_of : List Part → Module
module_of parts = record { namespaces = namespaces_of parts; functions = functions_of parts }

-- the tokens that may begin a part of a module
abbrev pub begins_part : Terminal → Bool
begins_part w.Text = true
begins_part w.From = true
begins_part w.Name = true
begins_part w.At = true
begins_part w.Def = true
begins_part _ = false

-- { part } END
abbrev pub module_form : ℕ → Form Token Module
module_form n = do parts ← many (part n); u ← one (is w.End); yields (module_of parts)

-- the tokens spell the module, and no more than 64 levels are open anywhere in it
unfoldable pub IsModule : List Token → Module → Type 0
IsModule ts m = IsText module_form 64 m ts
