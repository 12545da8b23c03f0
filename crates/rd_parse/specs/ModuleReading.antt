-- The readers of functions and modules, in the steps in which the functions of the parser take them.
use Rattle.std.specs.Prelude.{ℕ, List, [], ◌∷◌, Option, Some, None, Bool, true, false}
use Rattle.rd_syntax.specs.declared.token.Token.{Token}
use Rattle.rd_parse.specs.declared.terminal.Terminal.TheVariants as w
use Rattle.rd_tree.specs.declared.tree.Name.{Name}
use Rattle.rd_tree.specs.declared.tree.Parameter.{Parameter}
use Rattle.rd_tree.specs.declared.tree.TaskOption.{TaskOption}
use Rattle.rd_tree.specs.declared.tree.Function.{Function}
use Rattle.rd_tree.specs.declared.tree.Module.{Module}
use Rattle.rd_parse.specs.declared.module.build.Part.{Part}
use Rattle.rd_parse.specs.declared.module.build.Part.TheVariants.{Silent, Namespace, Defined}
use Rattle.rd_parse.specs.Reader.{read_made, Reader, hits, ◌>>=◌, pure, read_one, read_either, read_many, read_opening, read_below, read_more, read_tail}
use Rattle.rd_parse.specs.Noting.{read_past}
use Rattle.rd_parse.specs.Terminal.{is, among, name_of, text_of}
use Rattle.rd_parse.specs.Reading.{read_texts}
use Rattle.rd_parse.specs.LiteralReading.{read_literal, read_inner_literal}
use Rattle.rd_parse.specs.StatementReading.{read_annotation, read_annotated, read_a_block}
use Rattle.rd_parse.specs.Modules.{line_of, namespace_of, task_word, redun_word, defaulted, Head, at_line, function_of, module_of, begins_part}

-- ---- options

unfoldable pub read_option : ℕ → Reader Token TaskOption
read_option n = do name ← read_one name_of; u ← read_one (is w.Assign); v ← read_inner_literal n; pure (record { name = name; value = v })

unfoldable pub read_more_options : ℕ → TaskOption → Reader Token (List TaskOption)
read_more_options n first = do more ← read_more (is w.Comma) (hits (is w.Name)) (read_option n); pure (first ∷ more)

unfoldable pub read_options : ℕ → Reader Token (List TaskOption)
read_options n = read_either (hits (is w.Name)) (do first ← read_option n; read_more_options n first) (pure [])

unfoldable pub read_options_in_brackets : ℕ → Reader Token (List TaskOption)
read_options_in_brackets n = do u ← read_opening (is w.LeftParen) n; all ← read_options n; v ← read_one (is w.RightParen); pure all

unfoldable pub read_given_options : ℕ → Reader Token (List TaskOption)
read_given_options n = read_either (hits (is w.LeftParen)) (read_options_in_brackets n) (pure [])

unfoldable pub read_decorator : ℕ → Reader Token (Option (List TaskOption))
read_decorator n = do u ← read_one (is w.At); v ← read_one task_word; all ← read_given_options n; x ← read_one (is w.Newline); pure (Some all)

unfoldable pub read_decorated : ℕ → Reader Token (Option (List TaskOption))
read_decorated n = read_either (hits (is w.At)) (read_decorator n) (pure None)

-- ---- parameters

unfoldable pub read_with_default : ℕ → Name → Reader Token Parameter
read_with_default n name = do u ← read_one (is w.Assign); v ← read_below read_literal n; pure (record { name = name; default = Some v })

abbrev pub read_default_for : ℕ → Name → Bool → Reader Token Parameter
read_default_for n name false = read_either (hits (is w.Assign)) (read_with_default n name) (pure (record { name = name; default = None }))
read_default_for n name true = read_with_default n name

unfoldable pub read_parameter : ℕ → Bool → Reader Token Parameter
read_parameter n s = do name ← read_one name_of; u ← read_below read_annotated n; read_default_for n name s

abbrev pub read_parameters_behind : ℕ → Bool → Reader Token (List Parameter)
read_parameters_behind n s = read_tail (is w.Comma) (λ s. hits (is w.Name)) (read_parameter n) defaulted s

unfoldable pub read_more_parameters : ℕ → Parameter → Reader Token (List Parameter)
read_more_parameters n first = do more ← read_parameters_behind n (defaulted false first); pure (first ∷ more)

unfoldable pub read_parameters : ℕ → Reader Token (List Parameter)
read_parameters n = read_either (hits (is w.Name)) (do first ← read_parameter n false; read_more_parameters n first) (pure [])

unfoldable pub read_parameters_in_brackets : ℕ → Reader Token (List Parameter)
read_parameters_in_brackets n = do u ← read_opening (is w.LeftParen) n; all ← read_parameters n; v ← read_one (is w.RightParen); pure all

-- ---- functions

unfoldable pub read_returned : ℕ → Reader Token (Unit {0})
read_returned n = read_either (hits (is w.Arrow)) (do u ← read_one (is w.Arrow); read_annotation n) (pure tt)

unfoldable pub read_head : ℕ → Reader Token Head
read_head n = do line ← read_one (line_of w.Def); name ← read_one name_of; all ← read_parameters_in_brackets n; u ← read_returned n; pure (at_line name line, all)

unfoldable pub read_function : ℕ → Reader Token Function
read_function n = do task ← read_decorated n; x ← read_head n; body ← read_a_block n; pure (function_of task x body)

-- ---- imports

unfoldable pub read_part_of_path : Reader Token (Unit {0})
read_part_of_path = do u ← read_one (is w.Dot); read_one (is w.Name)

unfoldable pub read_path : Reader Token (Unit {0})
read_path = read_past (hits (is w.Dot)) read_part_of_path

unfoldable pub read_another_name : Reader Token (Unit {0})
read_another_name = do u ← read_one (is w.Comma); read_one (is w.Name)

unfoldable pub read_names : Reader Token (Unit {0})
read_names = do u ← read_one (is w.Name); read_past (hits (is w.Comma)) read_another_name

unfoldable pub read_names_behind : Reader Token (Unit {0})
read_names_behind = read_made (λ more. tt) (read_more (is w.Comma) (hits (is w.Name)) (read_one (is w.Name)))

unfoldable pub read_names_in : ℕ → Reader Token (Unit {0})
read_names_in n = do u ← read_opening (is w.LeftParen) n; v ← read_one (is w.Name); x ← read_names_behind; read_one (is w.RightParen)

unfoldable pub read_import_line : ℕ → Reader Token (Unit {0})
read_import_line n = do
  u ← read_one (is w.From)
  v ← read_one redun_word
  p ← read_path
  x ← read_one (is w.Import)
  y ← read_either (hits (is w.Name)) read_names (read_names_in n)
  read_one (is w.Newline)

-- ---- modules

unfoldable pub read_imports : ℕ → Reader Token Part
read_imports n = do u ← read_import_line n; pure Silent

unfoldable pub read_docstring : Reader Token Part
read_docstring = do t ← read_texts; u ← read_one (is w.Newline); pure Silent

unfoldable pub read_namespace : Reader Token Part
read_namespace = do line ← read_one namespace_of; u ← read_one (is w.Assign); t ← read_texts; v ← read_one (is w.Newline); pure (Namespace (record { text = t; line = line }))

unfoldable pub read_defines : ℕ → Reader Token Part
read_defines n = do f ← read_function n; pure (Defined f)

unfoldable pub read_part : ℕ → Reader Token Part
read_part n = read_either (hits text_of) read_docstring (read_either (hits (is w.From)) (read_imports n) (read_either (hits (is w.Name)) read_namespace (read_defines n)))

unfoldable pub read_module : ℕ → Reader Token Module
read_module n = do parts ← read_many (among begins_part) (read_part n); u ← read_one (is w.End); pure (module_of parts)
