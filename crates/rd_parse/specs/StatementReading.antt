-- The readers of statements, in the steps in which the functions of the parser take them.
use Rattle.std.specs.Prelude.{ℕ, zero, suc, List, [], ◌∷◌, Option, Some, None, Bool}
use Rattle.rd_syntax.specs.declared.token.Token.{Token}
use Rattle.rd_parse.specs.declared.terminal.Terminal.TheVariants as w
use Rattle.rd_tree.specs.declared.tree.Name.{Name}
use Rattle.rd_tree.specs.declared.tree.Statement.TheVariants as statement
use Rattle.rd_parse.specs.Reader.{Reader, holds, hits, ◌>>=◌, pure, read_one, read_either, read_pick, read_many, read_opening, read_below, too_deep}
use Rattle.rd_parse.specs.Noting.{read_noting, read_past}
use Rattle.rd_parse.specs.Terminal.{is, among, name_of, text_of}
use Rattle.rd_parse.specs.Expressions.{Tree, begins_expression}
use Rattle.rd_parse.specs.Reading.{read_expression}
use Rattle.rd_parse.specs.Statements.{Command, begins_assignment, plus_value, spoken, kept, begins_statement}

-- ---- annotations

unfoldable pub read_dotted_name : Reader Token (Unit {0})
read_dotted_name = do u ← read_one (is w.Dot); read_one (is w.Name)

unfoldable pub read_long_name : Reader Token (Unit {0})
read_long_name = do u ← read_one (is w.Name); read_past (hits (is w.Dot)) read_dotted_name

unfoldable pub read_kind : Reader Token (Unit {0})
read_kind = read_either (hits (is w.Name)) read_long_name (read_either (hits (is w.Nothing)) (read_one (is w.Nothing)) (read_one (is w.Text)))

module _ (n : ℕ) (inside : Reader Token (Unit {0})) where
  unfoldable pub read_another : Reader Token (Unit {0})
  read_another = do u ← read_one (is w.Comma); inside

  unfoldable pub read_others : Reader Token (Unit {0})
  read_others = read_past (hits (is w.Comma)) read_another

  unfoldable pub read_of_kinds : Reader Token (Unit {0})
  read_of_kinds = do u ← read_opening (is w.LeftSquare) n; v ← inside; x ← read_others; y ← read_one (is w.RightSquare); pure tt

  unfoldable pub read_union_part : Reader Token (Unit {0})
  read_union_part = do u ← read_kind; read_either (hits (is w.LeftSquare)) read_of_kinds (pure tt)

  unfoldable pub read_another_part : Reader Token (Unit {0})
  read_another_part = do u ← read_one (is w.Bar); read_union_part

  unfoldable pub read_union : Reader Token (Unit {0})
  read_union = do u ← read_union_part; read_past (hits (is w.Bar)) read_another_part

unfoldable pub read_inner_annotation : ℕ → Reader Token (Unit {0})
read_inner_annotation zero = too_deep
read_inner_annotation (suc n) = read_union n (read_inner_annotation n)

abbrev pub read_annotation : ℕ → Reader Token (Unit {0})
read_annotation n = read_union n (read_inner_annotation n)

unfoldable pub read_annotated : ℕ → Reader Token (Unit {0})
read_annotated n = read_either (hits (is w.Colon)) (do u ← read_one (is w.Colon); read_annotation n) (pure tt)

-- ---- single statements

-- the token behind a name says that a value is given to it
abbrev pub assigns : Option Token → Bool
assigns t = holds (among begins_assignment) t

unfoldable pub read_passing : Reader Token (Option Command)
read_passing = do u ← read_one (is w.Pass); pure (Some statement.Pass)

module _ (n : ℕ) where
  unfoldable pub read_returning : Reader Token (Option Command)
  read_returning = do u ← read_one (is w.Return); read_either (among begins_expression) (do e ← read_expression n; pure (Some (statement.Return (Some e)))) (pure (Some (statement.Return None)))

  unfoldable pub read_raising : Reader Token (Option Command)
  read_raising = do u ← read_one (is w.Raise); class ← read_one name_of; v ← read_opening (is w.LeftParen) n; e ← read_below read_expression n; x ← read_one (is w.RightParen); pure (Some (statement.Raise class e))

  unfoldable pub read_adding : Name → Reader Token (Option Command)
  read_adding name = do u ← read_one (is w.AddAssign); e ← read_expression n; pure (Some (statement.Assign name (plus_value name e)))

  unfoldable pub read_giving : Name → Reader Token (Option Command)
  read_giving name = do u ← read_annotated n; v ← read_one (is w.Assign); e ← read_expression n; pure (Some (statement.Assign name e))

  unfoldable pub read_assigned : Name → Reader Token (Option Command)
  read_assigned name = read_either (hits (is w.AddAssign)) (read_adding name) (read_giving name)

  unfoldable pub read_assignment : Reader Token (Option Command)
  read_assignment = do name ← read_one name_of; read_assigned name

  unfoldable pub read_speaking : Reader Token (Option Command)
  read_speaking = do x ← read_noting (hits text_of) (read_expression n); pure (spoken x)

  unfoldable pub read_other : Reader Token (Option Command)
  read_other = read_pick (hits name_of) assigns read_assignment read_speaking

  unfoldable pub read_simple : Reader Token (Option Command)
  read_simple = read_either (hits (is w.Return)) read_returning (read_either (hits (is w.Raise)) read_raising (read_either (hits (is w.Pass)) read_passing read_other))

  unfoldable pub read_line : Reader Token (Option Command)
  read_line = do s ← read_simple; u ← read_one (is w.Newline); pure s

-- ---- blocks

module _ (n : ℕ) (body : Reader Token (List Command)) where
  unfoldable pub read_block : Reader Token (List Command)
  read_block = do u ← read_opening (is w.Colon) n; body

  unfoldable pub read_branch : Reader Token (Tree × List Command)
  read_branch = do test ← read_expression n; all ← read_block; pure (test, all)

  unfoldable pub read_another_branch : Reader Token (Tree × List Command)
  read_another_branch = do u ← read_one (is w.Elif); read_branch

  unfoldable pub read_otherwise : Reader Token (List Command)
  read_otherwise = read_either (hits (is w.Else)) (do u ← read_one (is w.Else); read_block) (pure [])

  unfoldable pub read_more_branches : Tree × List Command → Reader Token (List (Tree × List Command))
  read_more_branches first = do more ← read_many (hits (is w.Elif)) read_another_branch; pure (first ∷ more)

  unfoldable pub read_branches : Reader Token (List (Tree × List Command))
  read_branches = do first ← read_branch; read_more_branches first

  unfoldable pub read_choice : Reader Token (Option Command)
  read_choice = do u ← read_one (is w.If); all ← read_branches; other ← read_otherwise; pure (Some (statement.If all other))

  unfoldable pub read_for_each : Reader Token (Option Command)
  read_for_each = do u ← read_one (is w.For); name ← read_one name_of; v ← read_one (is w.In); iterable ← read_expression n; all ← read_block; pure (Some (statement.For name iterable all))

  unfoldable pub read_while_true : Reader Token (Option Command)
  read_while_true = do u ← read_one (is w.While); test ← read_expression n; all ← read_block; pure (Some (statement.While test all))

  unfoldable pub read_command : Reader Token (Option Command)
  read_command = read_either (hits (is w.If)) read_choice (read_either (hits (is w.For)) read_for_each (read_either (hits (is w.While)) read_while_true (read_line n)))

  unfoldable pub read_more_commands : Option Command → Reader Token (List Command)
  read_more_commands first = do more ← read_many (among begins_statement) read_command; pure (kept (first ∷ more))

  unfoldable pub read_some_commands : Reader Token (List Command)
  read_some_commands = do first ← read_command; read_more_commands first

  unfoldable pub read_indented : Reader Token (List Command)
  read_indented = do u ← read_one (is w.Newline); v ← read_one (is w.Indent); all ← read_some_commands; x ← read_one (is w.Dedent); pure all

  unfoldable pub read_alone : Reader Token (List Command)
  read_alone = do s ← read_line n; pure (kept (s ∷ []))

  unfoldable pub read_commands : Reader Token (List Command)
  read_commands = read_either (hits (is w.Newline)) read_indented read_alone

unfoldable pub read_behind_colon : ℕ → Reader Token (List Command)
read_behind_colon zero = too_deep
read_behind_colon (suc n) = read_commands n (read_behind_colon n)

abbrev pub read_a_block : ℕ → Reader Token (List Command)
read_a_block n = read_block n (read_behind_colon n)
