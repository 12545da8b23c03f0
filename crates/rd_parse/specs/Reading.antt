-- The readers of expressions, in the steps in which the functions of the parser take them.
use Rattle.std.specs.Prelude.{ℕ, zero, suc, List, [], ◌∷◌, ◌++◌, Option, Bool, true, false, not}
use Rattle.rd_syntax.specs.declared.token.Token.{Token}
use Rattle.rd_value.specs.declared.value.Datum.TheVariants as value
use Rattle.rd_parse.specs.declared.terminal.Terminal.TheVariants as w
use Rattle.rd_tree.specs.declared.tree.Name.{Name}
use Rattle.rd_tree.specs.declared.tree.Operator.{Operator}
use Rattle.rd_tree.specs.declared.tree.Comparison.{Comparison}
use Rattle.rd_tree.specs.declared.tree.Comparison.TheVariants.{NotIn}
use Rattle.rd_tree.specs.declared.tree.Node.TheVariants as node
use Rattle.rd_parse.specs.declared.expression.arguments.Given.{Given}
use Rattle.rd_parse.specs.declared.expression.arguments.Given.TheVariants as given
use Rattle.rd_parse.specs.declared.expression.build.Part.{Part}
use Rattle.rd_parse.specs.declared.expression.build.Part.TheVariants as part
use Rattle.rd_parse.specs.Reader.{Reader, holds, hits, ◌>>=◌, pure, read_one, read_either, read_pick, read_many, read_opening, read_more, read_tail, too_deep}
use Rattle.rd_parse.specs.Terminal.{is, among, word_of, name_of, text_of, number_of}
use Rattle.rd_parse.specs.Expressions.{Tree, path_word, plus_of, times_of, comparison_of, constant_of, begins_expression, begins_argument, begins_part, begins_comparison, joined, chained, anded, ored, behind, Clause, called, comp, with_part}

-- the readers of what stands one level further in
pub record Readers : Type 0 where
  pub expression : Reader Token Tree
  pub disjunction : Reader Token Tree
  pub inversion : Reader Token Tree
  pub factor : Reader Token Tree
  pub parts : Tree → Reader Token Tree

-- the token behind the first one isn't a parenthesis
abbrev pub no_call : Option Token → Bool
no_call t = not (holds (hits (is w.LeftParen)) t)

abbrev pub assigned : Option Token → Bool
assigned t = holds (hits (is w.Assign)) t

unfoldable pub read_number : Reader Token Tree
read_number = do z ← read_one number_of; pure (node.Lit (value.Int z))

unfoldable pub read_more_texts : List ℕ → Reader Token (List ℕ)
read_more_texts t = do more ← read_many (hits text_of) (read_one text_of); pure (t ++ joined more)

unfoldable pub read_texts : Reader Token (List ℕ)
read_texts = do t ← read_one text_of; read_more_texts t

unfoldable pub read_text_literal : Reader Token Tree
read_text_literal = do t ← read_texts; pure (node.Lit (value.Text t))

unfoldable pub read_constant : Reader Token Tree
read_constant = do v ← read_one constant_of; pure (node.Lit v)

unfoldable pub read_not_in : Reader Token Comparison
read_not_in = do u ← read_one (is w.Not); v ← read_one (is w.In); pure NotIn

unfoldable pub read_comparing : Reader Token Comparison
read_comparing = read_either (hits comparison_of) (read_one comparison_of) read_not_in

module _ (n : ℕ) (in_ : Readers) where
  unfoldable pub read_more_expressions : Tree → Reader Token (List Tree)
  read_more_expressions first = do more ← read_more (is w.Comma) (among begins_expression) in_.expression; pure (first ∷ more)

  unfoldable pub read_expressions : Reader Token (List Tree)
  read_expressions = read_either (among begins_expression) (do first ← in_.expression; read_more_expressions first) (pure [])

  unfoldable pub read_keyword : Reader Token Given
  read_keyword = do name ← read_one name_of; u ← read_one (is w.Assign); e ← in_.expression; pure (given.Keyword name e)

  unfoldable pub read_positional : Reader Token Given
  read_positional = do e ← in_.expression; pure (given.Positional e)

  unfoldable pub read_argument : Bool → Reader Token Given
  read_argument false = read_pick (hits name_of) assigned read_keyword read_positional
  read_argument true = read_keyword

  abbrev pub read_arguments_behind : Bool → Reader Token (List Given)
  read_arguments_behind s = read_tail (is w.Comma) (λ s. among (begins_argument s)) read_argument behind s

  unfoldable pub read_more_arguments : Given → Reader Token (List Given)
  read_more_arguments first = do more ← read_arguments_behind (behind false first); pure (first ∷ more)

  unfoldable pub read_arguments : Reader Token (List Given)
  read_arguments = read_either (among begins_expression) (do first ← read_argument false; read_more_arguments first) (pure [])

  unfoldable pub read_call : Reader Token (List Given)
  read_call = do u ← read_opening (is w.LeftParen) n; all ← read_arguments; v ← read_one (is w.RightParen); pure all

  unfoldable pub read_named : Reader Token Tree
  read_named = do name ← read_one name_of; read_either (hits (is w.LeftParen)) (do all ← read_call; pure (called name all)) (pure (node.Name name))

  unfoldable pub read_group : Reader Token Tree
  read_group = do u ← read_opening (is w.LeftParen) n; e ← in_.expression; v ← read_one (is w.RightParen); pure e

  unfoldable pub read_condition : Reader Token (List Tree)
  read_condition = read_either (hits (is w.If)) (do u ← read_one (is w.If); e ← in_.disjunction; pure (e ∷ [])) (pure [])

  unfoldable pub read_source : Reader Token (Name × Tree)
  read_source = do u ← read_one (is w.For); name ← read_one name_of; v ← read_one (is w.In); e ← in_.disjunction; pure (name, e)

  unfoldable pub read_clause : Reader Token Clause
  read_clause = do s ← read_source; c ← read_condition; pure (s, c)

  unfoldable pub read_list_of : Tree → Reader Token Tree
  read_list_of first = do all ← read_more_expressions first; pure (node.List all)

  unfoldable pub read_items : Reader Token Tree
  read_items = read_either (among begins_expression) (do first ← in_.expression; read_either (hits (is w.For)) (do c ← read_clause; pure (comp first c)) (read_list_of first)) (pure (node.List []))

  unfoldable pub read_square : Reader Token Tree
  read_square = do u ← read_opening (is w.LeftSquare) n; e ← read_items; v ← read_one (is w.RightSquare); pure e

  unfoldable pub read_pair : Reader Token (Tree × Tree)
  read_pair = do key ← in_.expression; u ← read_one (is w.Colon); e ← in_.expression; pure (key, e)

  unfoldable pub read_more_pairs : Tree × Tree → Reader Token (List (Tree × Tree))
  read_more_pairs first = do more ← read_more (is w.Comma) (among begins_expression) read_pair; pure (first ∷ more)

  unfoldable pub read_pairs : Reader Token (List (Tree × Tree))
  read_pairs = read_either (among begins_expression) (do first ← read_pair; read_more_pairs first) (pure [])

  unfoldable pub read_curly : Reader Token Tree
  read_curly = do u ← read_opening (is w.LeftCurly) n; all ← read_pairs; v ← read_one (is w.RightCurly); pure (node.Dict all)

  unfoldable pub read_atom : Reader Token Tree
  read_atom =
      read_either (hits name_of) read_named (read_either (hits (is w.Int)) read_number (read_either (hits text_of) read_text_literal (read_either (hits constant_of) read_constant (read_either (hits (is w.LeftParen)) read_group (read_either (hits (is w.LeftSquare)) read_square read_curly)))))

  unfoldable pub read_index : Reader Token Part
  read_index = do u ← read_opening (is w.LeftSquare) n; e ← in_.expression; v ← read_one (is w.RightSquare); pure (part.Index e)

  unfoldable pub read_list_in_brackets : Reader Token (List Tree)
  read_list_in_brackets = do u ← read_opening (is w.LeftParen) n; all ← read_expressions; v ← read_one (is w.RightParen); pure all

  unfoldable pub read_method : Reader Token Part
  read_method = do name ← read_one word_of; all ← read_list_in_brackets; pure (part.Method name all)

  unfoldable pub read_path : Reader Token Part
  read_path = do u ← read_opening path_word n; pure part.Path

  unfoldable pub read_dotted : Reader Token Part
  read_dotted = do u ← read_one (is w.Dot); read_pick (hits path_word) no_call read_path read_method

  unfoldable pub read_part : Reader Token Part
  read_part = read_either (hits (is w.LeftSquare)) read_index read_dotted

  unfoldable pub read_parts : Tree → Reader Token Tree
  read_parts receiver = read_either (among begins_part) (do p ← read_part; in_.parts (with_part receiver p)) (pure receiver)

  unfoldable pub read_postfix : Reader Token Tree
  read_postfix = do first ← read_atom; read_parts first

  unfoldable pub read_negative : Reader Token Tree
  read_negative = do u ← read_opening (is w.Minus) n; e ← in_.factor; pure (node.Neg e)

  unfoldable pub read_factor : Reader Token Tree
  read_factor = read_either (hits (is w.Minus)) read_negative read_postfix

  unfoldable pub read_times : Reader Token (Operator × Tree)
  read_times = do operator ← read_one times_of; e ← read_factor; pure (operator, e)

  unfoldable pub read_term : Reader Token Tree
  read_term = do first ← read_factor; more ← read_many (hits times_of) read_times; pure (chained first more)

  unfoldable pub read_plus : Reader Token (Operator × Tree)
  read_plus = do operator ← read_one plus_of; e ← read_term; pure (operator, e)

  unfoldable pub read_sum : Reader Token Tree
  read_sum = do first ← read_term; more ← read_many (hits plus_of) read_plus; pure (chained first more)

  unfoldable pub read_right_side : Reader Token (Comparison × Tree)
  read_right_side = do operator ← read_comparing; right ← read_sum; pure (operator, right)

  unfoldable pub read_comparison : Reader Token Tree
  read_comparison = do left ← read_sum; read_either (among begins_comparison) (do r ← read_right_side; pure (node.Compare r.0 left r.1)) (pure left)

  unfoldable pub read_negation : Reader Token Tree
  read_negation = do u ← read_opening (is w.Not) n; e ← in_.inversion; pure (node.Not e)

  unfoldable pub read_inversion : Reader Token Tree
  read_inversion = read_either (hits (is w.Not)) read_negation read_comparison

  unfoldable pub read_and : Reader Token Tree
  read_and = do u ← read_one (is w.And); read_inversion

  unfoldable pub read_conjunction : Reader Token Tree
  read_conjunction = do first ← read_inversion; more ← read_many (hits (is w.And)) read_and; pure (anded first more)

  unfoldable pub read_or : Reader Token Tree
  read_or = do u ← read_one (is w.Or); read_conjunction

  unfoldable pub read_disjunction : Reader Token Tree
  read_disjunction = do first ← read_conjunction; more ← read_many (hits (is w.Or)) read_or; pure (ored first more)

  unfoldable pub read_choice : Reader Token (Tree × Tree)
  read_choice = do u ← read_one (is w.If); test ← read_disjunction; v ← read_opening (is w.Else) n; e ← in_.expression; pure (test, e)

  unfoldable pub read_conditional : Reader Token Tree
  read_conditional = do first ← read_disjunction; read_either (hits (is w.If)) (do c ← read_choice; pure (node.Cond c.0 first c.1)) (pure first)

-- the readers one level further in, where so many levels may be open
unfoldable pub inner : ℕ → Readers
inner zero = record { expression = too_deep; disjunction = too_deep; inversion = too_deep; factor = too_deep; parts = λ receiver. too_deep }
inner (suc n) = record {
  expression = read_conditional n (inner n);
  disjunction = read_disjunction n (inner n);
  inversion = read_inversion n (inner n);
  factor = read_factor n (inner n);
  parts = read_parts n (inner n);
}

-- an expression in which no more than so many levels are open
abbrev pub read_expression : ℕ → Reader Token Tree
read_expression n = read_conditional n (inner n)
