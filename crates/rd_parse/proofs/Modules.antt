-- The rules of functions and modules are lawful.
use Rattle.std.proofs.Common.{◌≡◌, ℕ, zero, suc, Bool, true, false, not, List, [], ◌∷◌, None, Some, refl, codes, sym, ◌∙◌, inr}
use Rattle.rd_syntax.specs.declared.token.TokenKind.TheVariants as kind
use Rattle.rd_syntax.specs.declared.token.Token.{Token}
use Rattle.rd_parse.specs.declared.terminal.Terminal.{Terminal}
use Rattle.rd_value.specs.declared.value.Datum.TheVariants as value
use Rattle.rd_parse.specs.declared.terminal.Terminal.TheVariants as w
use Rattle.rd_tree.specs.declared.tree.Name.{Name}
use Rattle.rd_tree.specs.declared.tree.TaskOption.{TaskOption}
use Rattle.rd_tree.specs.declared.tree.Parameter.{Parameter}
use Rattle.rd_parse.specs.Form.{Form, one, below}
use Rattle.rd_parse.specs.Reader.{Reader, read_one, read_below, hits, is_there}
use Rattle.rd_parse.specs.Terminal.{terminal, among, is, same, flag, spells, name_of, text_of}
use Rattle.rd_parse.specs.Literals.{literal, inner_literal}
use Rattle.rd_parse.specs.LiteralReading.{read_literal, read_inner_literal}
use Rattle.rd_parse.specs.Statements.{annotation, annotated, a_block}
use Rattle.rd_parse.specs.StatementReading.{read_annotation, read_annotated, read_a_block}
use Rattle.rd_parse.specs.Modules as form
use Rattle.rd_parse.specs.declared.module.build.Part.TheVariants.{Silent, Namespace, Defined}
use Rattle.rd_parse.specs.Modules.{line_if, line_of, namespace_of, task_word, redun_word, defaulted, at_line, function_of, module_of, begins_part, module_form}
use Rattle.rd_parse.specs.ModuleReading as reader
use Rattle.rd_parse.specs.ModuleReading.{read_module}
use Rattle.rd_parse.proofs.Laws.{Grows, Lawful}
use Rattle.rd_parse.proofs.Depth.{below_grows, below_zero, below_suc}
use Rattle.rd_parse.proofs.Loops.{Shrinks, shrinks_of}
use Rattle.rd_parse.proofs.Dive.{Brief, Dives, below_dives}
use Rattle.rd_parse.proofs.Sets.{holds_one, holds_same, set}
use Rattle.rd_parse.proofs.Samples.{sample, example}
use Rattle.rd_parse.proofs.Steps.{Step, Inward, settled, one_further, opens_then, wide, carries, takes, makes, then, chooses, each, tests, commas, commas_by}
use Rattle.rd_parse.proofs.Expressions.{name_is, text_is, name_there, texts_step}
use Rattle.rd_parse.proofs.Literals.{literal_first, plain_first, literal_step, constant_there, inner_literal_laws, inner_some, no_literal, inner_literal_grows}
use Rattle.rd_parse.proofs.Statements.{part_first, annotation_more, annotation_lawful, annotation_dives, annotation_brief, annotation_plain, annotation_grows, annotated_step, block_lawful, block_dives, block_brief, block_plain, block_grows}

-- ---- single tokens

abbrev pub module_first : List Terminal
module_first = w.Text ∷ w.From ∷ w.Name ∷ w.At ∷ w.Def ∷ []

module_by : (κ : Terminal) → holds_one module_first κ ≡ begins_part κ
module_by w.Text = refl
module_by _ = refl

module_is : (t : Token) → set module_first t ≡ among begins_part t
unfolding set
module_is t = module_by (terminal t)

line_flag : (b : Bool) (line : ℕ) → is_there (line_if b line) ≡ is_there (flag b)
line_flag true line = refl
line_flag false line = refl

line_within : (κ : Terminal) (t : Token) → hits (line_of κ) t ≡ true → set (κ ∷ []) t ≡ true
unfolding set
line_within κ t h = holds_same (terminal t) κ (sym (line_flag (same (terminal t) κ) t.line) ∙ h)

spells_name : (word : List ℕ) (κ : Terminal) (s : List ℕ) → is_there (flag (spells word κ s)) ≡ true → holds_one (w.Name ∷ []) κ ≡ true
spells_name word w.Name s h = refl
spells_name word _ s h = h

task_within : (t : Token) → hits task_word t ≡ true → set (w.Name ∷ []) t ≡ true
unfolding set
task_within t h = spells_name (codes "task") (terminal t) t.text h

redun_within : (t : Token) → hits redun_word t ≡ true → set (w.Name ∷ []) t ≡ true
unfolding set
redun_within t h = spells_name (codes "redun") (terminal t) t.text h

namespace_within : (t : Token) → hits namespace_of t ≡ true → set (w.Name ∷ []) t ≡ true
unfolding set
namespace_within t h = spells_name (codes "redun_namespace") (terminal t) t.text (sym (line_flag (spells (codes "redun_namespace") (terminal t) t.text) t.line) ∙ h)

abbrev spelled : List ℕ → Token
spelled s = sample kind.Name s

task_there : task_word (spelled (codes "task")) ≡ Some tt
unfolding terminal
task_there = refl

redun_there : redun_word (spelled (codes "redun")) ≡ Some tt
unfolding terminal
redun_there = refl

namespace_there : namespace_of (spelled (codes "redun_namespace")) ≡ Some 0
unfolding terminal
namespace_there = refl

def_there : line_of w.Def (example w.Def) ≡ Some 0
unfolding terminal
def_there = refl

-- ---- what lies below

literal_law : (n : ℕ) → Lawful n literal read_literal (set plain_first) (set (w.Text ∷ [])) false
literal_law n = (literal_step (λ j. Unit {0}) n).rule.law (λ j. tt)

literal_dives : (n : ℕ) → Dives ⊥ n literal read_literal
literal_dives n = (literal_step (λ j. Unit {0}) n).dives (λ j. tt)

literal_grows : Grows literal
literal_grows n = (literal_step (λ j. Unit {0}) 0).rule.up n tt

annotated_law : (n : ℕ) → Lawful n annotated read_annotated (set (w.Colon ∷ [])) (set (w.Colon ∷ annotation_more)) true
annotated_law n = (annotated_step (λ j. Unit {0}) n).rule.law (λ j. tt)

annotated_dives : (n : ℕ) → Dives ⊥ n annotated read_annotated
annotated_dives n = (annotated_step (λ j. Unit {0}) n).dives (λ j. tt)

annotated_grows : Grows annotated
annotated_grows n = (annotated_step (λ j. Unit {0}) 0).rule.up n tt

below_literal : (n : ℕ) → Lawful n (below literal) (read_below read_literal) (set plain_first) (set (w.Text ∷ [])) false
below_literal zero = below_zero literal read_literal _ _ false (literal_law 0).some
below_literal (suc n) = below_suc n literal read_literal _ _ false (literal_law n)

below_annotated : (n : ℕ) → Lawful n (below annotated) (read_below read_annotated) (set (w.Colon ∷ [])) (set (w.Colon ∷ annotation_more)) true
below_annotated zero = below_zero annotated read_annotated _ _ true (annotated_law 0).some
below_annotated (suc n) = below_suc n annotated read_annotated _ _ true (annotated_law n)

-- what needs no level
nothing_alone : Brief (below literal)
nothing_alone = record { by_ = example w.Nothing ∷ []; value = value.Nothing; gives = λ k. inr (inr (inr (constant_there, refl))) }

none_annotated : (k : List Token) → annotated 0 tt k k
unfolding annotated
none_annotated k = inr (refl, refl)

not_annotated : Brief (below annotated)
not_annotated = record { by_ = []; value = tt; gives = none_annotated }

-- the forms hold by themselves
abbrev Free : ℕ → Type 0
Free j = Unit {0}

module _ (n : ℕ) where
  abbrev Of : {A : Type 0} → (ℕ → Form Token A) → (ℕ → Reader Token A) → List Terminal → List Terminal → Bool → Type 0
  Of P f = Step Free n P f

  abbrev Within : {A : Type 0} → (ℕ → Form Token A) → (ℕ → Reader Token A) → List Terminal → List Terminal → Bool → Type 0
  Within P f = Inward Free n P f

  a_name : Of (λ _. one name_of) (λ _. read_one name_of) (w.Name ∷ []) [] false
  a_name = carries Free n name_of (w.Name ∷ []) refl (example w.Name) _ name_there (λ t h. name_is t ∙ h)

  -- ---- options

  value_step : Within inner_literal read_inner_literal literal_first (w.Text ∷ []) false
  value_step = one_further n _ _ (λ j u. inner_literal_grows j) (inner_literal_laws n) inner_some no_literal

  pub option_step : Within form.option reader.read_option (w.Name ∷ []) (w.Text ∷ []) false
  unfolding reader.read_option
  option_step = then refl a_name (λ name. then refl (takes Free n w.Assign refl) (λ u. then refl value_step (λ v. makes Free n (record { name = name; value = v }))))

  more_options_step : (first : TaskOption) → Within (λ m. form.more_options m first) (λ m. reader.read_more_options m first) (w.Comma ∷ []) (w.Comma ∷ w.Name ∷ w.Text ∷ []) true
  unfolding reader.read_more_options
  more_options_step first = wide refl refl (then refl (commas (hits (is w.Name)) (tests w.Name) refl refl option_step) (λ more. makes Free n (first ∷ more)))

  options_step : Within form.options reader.read_options (w.Name ∷ []) (w.Name ∷ w.Comma ∷ w.Text ∷ []) true
  unfolding reader.read_options
  options_step = wide refl refl (chooses (hits (is w.Name)) (tests w.Name) refl (then refl option_step more_options_step) (makes Free n []))

  options_in_brackets_step : Of form.options_in_brackets reader.read_options_in_brackets (w.LeftParen ∷ []) [] false
  unfolding reader.read_options_in_brackets
  options_in_brackets_step = opens_then Free n w.LeftParen refl (λ u. then refl options_step (λ all. then refl (takes Free n w.RightParen refl) (λ v. makes Free n all)))

  given_options_step : Of form.given_options reader.read_given_options (w.LeftParen ∷ []) (w.LeftParen ∷ []) true
  unfolding reader.read_given_options
  given_options_step = wide refl refl (chooses (hits (is w.LeftParen)) (tests w.LeftParen) refl options_in_brackets_step (makes Free n []))

  decorator_step : Of form.decorator reader.read_decorator (w.At ∷ []) [] false
  unfolding reader.read_decorator
  decorator_step =
      then refl (takes Free n w.At refl) (λ u. then refl (carries Free n task_word (w.Name ∷ []) refl (spelled (codes "task")) tt task_there task_within)
      (λ v. then refl given_options_step (λ all. then refl (takes Free n w.Newline refl) (λ x. makes Free n (Some all)))))

  decorated_step : Of form.decorated reader.read_decorated (w.At ∷ []) (w.At ∷ []) true
  unfolding reader.read_decorated
  decorated_step = wide refl refl (chooses (hits (is w.At)) (tests w.At) refl decorator_step (makes Free n None))

  -- ---- parameters

  plain_step : Within (below literal) (read_below read_literal) plain_first (w.Text ∷ []) false
  plain_step = one_further n _ _ (λ j u. below_grows literal literal_grows j) (record { law = below_literal n; dives = below_dives literal read_literal nothing_alone literal_dives n }) nothing_alone (λ a ts rest h. h)

  annotation_step : Within (below annotated) (read_below read_annotated) (w.Colon ∷ []) (w.Colon ∷ annotation_more) true
  annotation_step = one_further n _ _ (λ j u. below_grows annotated annotated_grows j) (record { law = below_annotated n; dives = below_dives annotated read_annotated not_annotated annotated_dives n }) not_annotated (λ a ts rest h. h)

  with_default_step : (name : Name) → Within (λ m. form.with_default m name) (λ m. reader.read_with_default m name) (w.Assign ∷ []) (w.Text ∷ []) false
  unfolding reader.read_with_default
  with_default_step name = then refl (takes Free n w.Assign refl) (λ u. then refl plain_step (λ v. makes Free n (record { name = name; default = Some v })))

  -- Where a default must stand, the empty text is none.
  abbrev optional : Bool → Bool
  optional s = not s

  default_step : (name : Name) (s : Bool) → Within (λ m. form.default_for m name s) (λ m. reader.read_default_for m name s) (w.Assign ∷ []) (w.Assign ∷ w.Text ∷ []) (optional s)
  default_step name false = wide refl refl (chooses (hits (is w.Assign)) (tests w.Assign) refl (with_default_step name) (makes Free n (record { name = name; default = None })))
  default_step name true = wide refl refl (with_default_step name)

  abbrev parameter_more : List Terminal
  parameter_more = w.Assign ∷ w.Text ∷ w.Colon ∷ annotation_more

  pub parameter_step : (s : Bool) → Within (λ m. form.parameter m s) (λ m. reader.read_parameter m s) (w.Name ∷ []) parameter_more false
  unfolding reader.read_parameter
  parameter_step false = wide refl refl (then refl a_name (λ name. then refl annotation_step (λ u. default_step name false)))
  parameter_step true = wide refl refl (then refl a_name (λ name. then refl annotation_step (λ u. default_step name true)))

  abbrev parameters_more : List Terminal
  parameters_more = w.Comma ∷ w.Name ∷ parameter_more

  parameters_behind_step : (s : Bool) → Within (λ m. form.parameters_behind m s) (λ m. reader.read_parameters_behind m s) (w.Comma ∷ []) parameters_more true
  parameters_behind_step s = wide refl refl (commas_by (λ s. hits (is w.Name)) defaulted (w.Name ∷ []) (λ s. tests w.Name) (λ s. refl) refl parameter_step s)

  more_parameters_step : (first : Parameter) → Within (λ m. form.more_parameters m first) (λ m. reader.read_more_parameters m first) (w.Comma ∷ []) parameters_more true
  unfolding reader.read_more_parameters
  more_parameters_step first = then refl (parameters_behind_step (defaulted false first)) (λ more. makes Free n (first ∷ more))

  parameters_step : Within form.parameters reader.read_parameters (w.Name ∷ []) parameters_more true
  unfolding reader.read_parameters
  parameters_step = wide refl refl (chooses (hits (is w.Name)) (tests w.Name) refl (then refl (parameter_step false) more_parameters_step) (makes Free n []))

  parameters_in_brackets_step : Of form.parameters_in_brackets reader.read_parameters_in_brackets (w.LeftParen ∷ []) [] false
  unfolding reader.read_parameters_in_brackets
  parameters_in_brackets_step = opens_then Free n w.LeftParen refl (λ u. then refl parameters_step (λ all. then refl (takes Free n w.RightParen refl) (λ v. makes Free n all)))

  -- ---- functions

  kind_step : Of annotation read_annotation part_first annotation_more false
  kind_step = settled n _ _ annotation_grows (annotation_lawful n) (annotation_dives n) annotation_brief annotation_plain

  returned_step : Of form.returned reader.read_returned (w.Arrow ∷ []) (w.Arrow ∷ annotation_more) true
  unfolding reader.read_returned
  returned_step = wide refl refl (chooses (hits (is w.Arrow)) (tests w.Arrow) refl (then refl (takes Free n w.Arrow refl) (λ u. kind_step)) (makes Free n tt))

  head_step : Of form.head reader.read_head (w.Def ∷ []) (w.Arrow ∷ annotation_more) false
  unfolding reader.read_head
  head_step =
      wide refl refl (then refl (carries Free n (line_of w.Def) (w.Def ∷ []) refl (example w.Def) 0 def_there (line_within w.Def))
      (λ line. then refl a_name (λ name. then refl parameters_in_brackets_step (λ all. then refl returned_step (λ u. makes Free n (at_line name line, all))))))

  block_step : Of a_block read_a_block (w.Colon ∷ []) [] false
  block_step = settled n _ _ block_grows (block_lawful n) (block_dives n) block_brief block_plain

  function_step : Of form.function reader.read_function (w.At ∷ w.Def ∷ []) [] false
  unfolding reader.read_function
  function_step = wide refl refl (then refl decorated_step (λ task. then refl head_step (λ x. then refl block_step (λ body. makes Free n (function_of task x body)))))

  -- ---- imports

  pub part_of_path_step : Of (λ _. form.part_of_path) (λ _. reader.read_part_of_path) (w.Dot ∷ []) [] false
  unfolding reader.read_part_of_path
  part_of_path_step = then refl (takes Free n w.Dot refl) (λ u. takes Free n w.Name refl)

  path_step : Of (λ _. form.path) (λ _. reader.read_path) (w.Dot ∷ []) (w.Dot ∷ []) true
  unfolding reader.read_path
  path_step = then refl (each (hits (is w.Dot)) (tests w.Dot) refl part_of_path_step) (λ more. makes Free n tt)

  pub another_name_step : Of (λ _. form.another_name) (λ _. reader.read_another_name) (w.Comma ∷ []) [] false
  unfolding reader.read_another_name
  another_name_step = then refl (takes Free n w.Comma refl) (λ u. takes Free n w.Name refl)

  names_step : Of (λ _. form.names) (λ _. reader.read_names) (w.Name ∷ []) (w.Comma ∷ []) false
  unfolding reader.read_names
  names_step = then refl (takes Free n w.Name refl) (λ u. then refl (each (hits (is w.Comma)) (tests w.Comma) refl another_name_step) (λ more. makes Free n tt))

  names_behind_step : Of (λ _. form.names_behind) (λ _. reader.read_names_behind) (w.Comma ∷ []) (w.Comma ∷ w.Name ∷ []) true
  unfolding reader.read_names_behind
  names_behind_step = wide refl refl (then refl (commas (hits (is w.Name)) (tests w.Name) refl refl (takes Free n w.Name refl)) (λ more. makes Free n tt))

  names_in_step : Of form.names_in reader.read_names_in (w.LeftParen ∷ []) [] false
  unfolding reader.read_names_in
  names_in_step = opens_then Free n w.LeftParen refl (λ u. then refl (takes Free n w.Name refl) (λ v. then refl names_behind_step (λ x. takes Free n w.RightParen refl)))

  import_step : Of form.import_line reader.read_import_line (w.From ∷ []) [] false
  unfolding reader.read_import_line
  import_step =
      then refl (takes Free n w.From refl) (λ u. then refl (carries Free n redun_word (w.Name ∷ []) refl (spelled (codes "redun")) tt redun_there redun_within)
      (λ v. then refl path_step (λ p. then refl (takes Free n w.Import refl)
      (λ x. then refl (chooses (hits (is w.Name)) (tests w.Name) refl names_step names_in_step) (λ y. takes Free n w.Newline refl)))))

  -- ---- modules

  imports_step : Of form.imports reader.read_imports (w.From ∷ []) [] false
  unfolding reader.read_imports
  imports_step = then refl import_step (λ u. makes Free n Silent)

  docstring_step : Of (λ _. form.docstring) (λ _. reader.read_docstring) (w.Text ∷ []) [] false
  unfolding reader.read_docstring
  docstring_step = then refl (texts_step Free n) (λ t. then refl (takes Free n w.Newline refl) (λ u. makes Free n Silent))

  namespace_step : Of (λ _. form.namespace) (λ _. reader.read_namespace) (w.Name ∷ []) [] false
  unfolding reader.read_namespace
  namespace_step =
      then refl (carries Free n namespace_of (w.Name ∷ []) refl (spelled (codes "redun_namespace")) 0 namespace_there namespace_within)
      (λ line. then refl (takes Free n w.Assign refl) (λ u. then refl (texts_step Free n) (λ t. then refl (takes Free n w.Newline refl) (λ v. makes Free n (Namespace (record { text = t; line = line }))))))

  defines_step : Of form.defines reader.read_defines (w.At ∷ w.Def ∷ []) [] false
  unfolding reader.read_defines
  defines_step = then refl function_step (λ f. makes Free n (Defined f))

  pub part_step : Of form.part reader.read_part module_first [] false
  unfolding reader.read_part
  part_step = wide refl refl (chooses (hits text_of) text_is refl docstring_step (chooses (hits (is w.From)) (tests w.From) refl imports_step (chooses (hits (is w.Name)) (tests w.Name) refl namespace_step defines_step)))

  module_step : Of module_form read_module (w.End ∷ module_first) [] false
  unfolding read_module
  module_step = wide refl refl (then refl (each (among begins_part) module_is refl part_step) (λ parts. then refl (takes Free n w.End refl) (λ u. makes Free n (module_of parts))))

pub module_lawful : (n : ℕ) → Lawful n module_form read_module (set (w.End ∷ module_first)) (set []) false
module_lawful n = (module_step n).rule.law (λ j. tt)

pub module_dives : (n : ℕ) → Dives ⊥ n module_form read_module
module_dives n = (module_step n).dives (λ j. tt)

pub module_grows : Grows module_form
module_grows n = (module_step 0).rule.up n tt

-- ---- what is read again and again takes something

pub part_of_path_short : Shrinks reader.read_part_of_path
part_of_path_short = shrinks_of 0 (λ _. form.part_of_path) (λ _. reader.read_part_of_path) _ _ ((part_of_path_step 0).rule.law (λ j. tt))

pub another_name_short : Shrinks reader.read_another_name
another_name_short = shrinks_of 0 (λ _. form.another_name) (λ _. reader.read_another_name) _ _ ((another_name_step 0).rule.law (λ j. tt))

pub option_short : (n : ℕ) → Shrinks (reader.read_option n)
option_short n = shrinks_of n form.option reader.read_option _ _ ((option_step n).rule.law (λ j. tt))

pub parameter_short : (n : ℕ) (s : Bool) → Shrinks (reader.read_parameter n s)
parameter_short n s = shrinks_of n (λ m. form.parameter m s) (λ m. reader.read_parameter m s) _ _ ((parameter_step n s).rule.law (λ j. tt))

pub part_short : (n : ℕ) → Shrinks (reader.read_part n)
part_short n = shrinks_of n form.part reader.read_part _ _ ((part_step n).rule.law (λ j. tt))
