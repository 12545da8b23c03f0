-- Code comes to the same with other files.
use Rattle.std.proofs.Common.{◌≡◌, ℕ, List, [], ◌∷◌, map, Option, None, Some, refl, ap, ◌∙◌}
use Rattle.std.specs.List.{AllZip}
use Rattle.std.specs.Option.{option_map}
use Rattle.rd_value.specs.declared.value.FileValue.{FileValue}
use Rattle.rd_value.specs.declared.value.Datum.{Datum}
use Rattle.rd_value.specs.declared.signature.Parameter.{Parameter}
use Rattle.rd_value.specs.Erase.{with_files, with_files_expr, carried_expr}
use Rattle.rd_tree.specs.declared.tree.Statement.{Statement}
use Rattle.rd_code.specs.declared.named.Helper.{Helper}
use Rattle.rd_code.specs.declared.named.NamedUse.{NamedUse}
use Rattle.rd_interpreter.specs.Body.{literal}
use Rattle.rd_body.specs.Code.{parameter_with_literal, function_with, helper_with, meaning_of}
use Rattle.rd_body.specs.Erasure.{with_files_parameter, HasFilesOf}
use Rattle.rd_body.proofs.ErasedAnswers.{literal_put}
use Rattle.rd_body.proofs.ErasedBodies.{whole_with_files}

module _ {F G : Type 0} (h : F → G) where
  default_put : (o : Option (Datum FileValue)) → option_map (literal {F = G}) o ≡ option_map (with_files_expr h) (option_map literal o)
  default_put None = refl
  default_put (Some v) = ap Some (literal_put h v)

  parameters_put : (ps : List Parameter) → map (parameter_with_literal {F = G}) ps ≡ map (with_files_parameter h) (map parameter_with_literal ps)
  parameters_put [] = refl
  parameters_put (p ∷ ps) = ap (λ d. (p.name, d) ∷ map (parameter_with_literal {F = G}) ps) (default_put p.default) ∙ ap (λ qs. with_files_parameter h (parameter_with_literal p) ∷ qs) (parameters_put ps)

  module _ (helpers : List Helper) (uses : List NamedUse) where
    has_files : (ps : List Parameter) (block : List (Statement (List ℕ))) → HasFilesOf h (function_with helpers uses ps block) (function_with helpers uses ps block)
    has_files ps block = record { same = refl; spelling = refl; callee = refl; class_of = refl; parameters = parameters_put ps; block = refl }

    all_have_files : (hs : List Helper) → AllZip (HasFilesOf h) (map (helper_with helpers uses) hs) (map (helper_with helpers uses) hs)
    all_have_files [] = tt
    all_have_files (k ∷ hs) = (has_files k.parameters k.block, all_have_files hs)

    -- what code comes to on values with other files is what it comes to, with other files
    pub code_with_files : (file : G → FileValue) (ps : List Parameter) (block : List (Statement (List ℕ))) (args : List (Datum F))
        → meaning_of file helpers uses ps block (map (with_files h) args) ≡ carried_expr h (meaning_of (λ x. file (h x)) helpers uses ps block args)
    code_with_files file ps block args =
        whole_with_files h file (map (helper_with helpers uses) helpers) (map (helper_with helpers uses) helpers) (all_have_files helpers) (function_with helpers uses ps block) (function_with helpers uses ps block) (has_files ps block) args
