-- A module's functions come to the same with other files.
use Rattle.std.proofs.Common.{◌≡◌, ℕ, List, [], ◌∷◌, map, Option, None, Some, refl, ap, ◌∙◌}
use Rattle.std.specs.List.{AllZip}
use Rattle.std.specs.Option.{option_map}
use Rattle.rd_value.specs.declared.value.FileValue.{FileValue}
use Rattle.rd_value.specs.declared.value.Datum.{Datum, out-Datum}
use Rattle.rd_value.specs.Erase.{with_files, with_files_expr, with_files_default, carried_expr}
use Rattle.rd_tree.specs.declared.tree.Parameter.{Parameter}
use Rattle.rd_tree.specs.declared.tree.Function.{Function}
use Rattle.rd_tree.specs.declared.tree.Module.{Module}
use Rattle.rd_routine.specs.declared.routine.Callee.{Callee}
use Rattle.rd_interpreter.specs.Body.{literal}
use Rattle.rd_body.specs.Erasure.{with_files_parameter, HasFilesOf}
use Rattle.rd_registry.specs.Bodies.{parameter_with_literal, function_with, function_of, helpers_of, callee_of, literal_of, signature_of, body}
use Rattle.rd_body.proofs.ErasedAnswers.{literal_at_put, literal_put}
use Rattle.rd_body.proofs.ErasedBodies.{whole_with_files}

module _ {F G : Type 0} (h : F → G) where
  default_put : (o : Option (Datum FileValue)) → option_map (literal {F = G}) o ≡ option_map (with_files_expr h) (option_map literal o)
  default_put None = refl
  default_put (Some v) = ap Some (literal_put h v)

  parameters_put : (ps : List Parameter) → map (parameter_with_literal {F = G}) ps ≡ map (with_files_parameter h) (map parameter_with_literal ps)
  parameters_put [] = refl
  parameters_put (p ∷ ps) = ap (λ d. (p.name, d) ∷ map (parameter_with_literal {F = G}) ps) (default_put p.default) ∙ ap (λ qs. with_files_parameter h (parameter_with_literal p) ∷ qs) (parameters_put ps)

  module _ (called : List ℕ → Callee) where
    has_files : (f : Function) → HasFilesOf h (function_with called f) (function_with called f)
    has_files f = record { same = refl; spelling = refl; callee = refl; class_of = refl; parameters = parameters_put f.parameters; block = refl }

    all_have_files : (fs : List Function) → AllZip (HasFilesOf h) (map (function_with called) fs) (map (function_with called) fs)
    all_have_files [] = tt
    all_have_files (f ∷ fs) = (has_files f, all_have_files fs)

  -- what a function comes to on values with other files is what it comes to, with other files
  pub body_with_files : (file : G → FileValue) (m : Module) (f : Function) (args : List (Datum F)) → body file m f (map (with_files h) args) ≡ carried_expr h (body (λ x. file (h x)) m f args)
  body_with_files file m f args =
      whole_with_files h file (map (function_of m) (helpers_of m)) (map (function_of m) (helpers_of m)) (all_have_files (callee_of m) (helpers_of m)) (function_of m f) (function_of m f) (has_files (callee_of m) f) args

  kept_default : (o : Option (Datum FileValue)) → option_map (with_files h) (option_map literal_of o) ≡ option_map literal_of o
  kept_default None = refl
  kept_default (Some v) = ap Some (literal_at_put h (out-Datum FileValue v))

  kept_defaults : (ps : List Parameter) → map (with_files_default h) (map (λ p. (p.name.text, option_map literal_of p.default)) ps) ≡ map (λ p. (p.name.text, option_map literal_of p.default)) ps
  kept_defaults [] = refl
  kept_defaults (p ∷ ps) = ap (λ d. (p.name.text, d) ∷ map (with_files_default h) (map (λ p. (p.name.text, option_map literal_of p.default)) ps)) (kept_default p.default) ∙ ap (λ qs. (p.name.text, option_map literal_of p.default) ∷ qs) (kept_defaults ps)

  -- no default of a function holds a file
  pub signature_with_files : (f : Function) → map (with_files_default h) (signature_of f) ≡ signature_of f
  signature_with_files f = kept_defaults f.parameters
