-- What the code of a task means.
use Rattle.std.specs.Prelude.{ℕ, List, map, Option, Result}
use Rattle.std.specs.Option.{option_map}
use Rattle.std.specs.Str.{bytes_eq}
use Rattle.rd_value.specs.declared.value.ErrorValue.{ErrorValue}
use Rattle.rd_value.specs.declared.value.FileValue.{FileValue}
use Rattle.rd_value.specs.declared.value.Datum.{Datum}
use Rattle.rd_value.specs.declared.expr.Lazy.{Lazy}
use Rattle.rd_value.specs.declared.signature.Parameter.{Parameter}
use Rattle.rd_tree.specs.declared.tree.Statement.{Statement}
use Rattle.rd_code.specs.declared.named.Helper.{Helper}
use Rattle.rd_code.specs.declared.named.NamedUse.{NamedUse}
use Rattle.rd_code.specs.declared.code.TaskCode.{TaskCode}
use Rattle.rd_code.specs.Numbering.{word_in}
use Rattle.rd_interpreter.specs.Body.{Routine, literal, whole}

abbrev pub parameter_with_literal : {F : Type 0} → Parameter → List ℕ × Option (Lazy F)
parameter_with_literal p = (p.name, option_map literal p.default)

-- a function, whose names that aren't local are these
abbrev pub function_with : {F : Type 0} → List Helper → List NamedUse → List Parameter → List (Statement (List ℕ)) → Routine (List ℕ) F
function_with helpers uses ps block = record {
  same = bytes_eq;
  spelling = λ text. text;
  callee = λ text. (word_in helpers uses text).callee;
  class_of = λ text. (word_in helpers uses text).class;
  parameters = map parameter_with_literal ps;
  block = block;
}

abbrev pub helper_with : {F : Type 0} → List Helper → List NamedUse → Helper → Routine (List ℕ) F
helper_with helpers uses h = function_with helpers uses h.parameters h.block

-- what parts of a task's code come to as a body on its arguments
abbrev pub meaning_of : {F : Type 0} → (F → FileValue) → List Helper → List NamedUse → List Parameter → List (Statement (List ℕ)) → List (Datum F) → Result (Lazy F) ErrorValue
meaning_of file helpers uses ps block args = whole file (map (helper_with helpers uses) helpers) (function_with helpers uses ps block) args

-- what a task's code comes to as a body on its arguments
abbrev pub meaning : {F : Type 0} → (F → FileValue) → TaskCode → List (Datum F) → Result (Lazy F) ErrorValue
meaning file code args = meaning_of file code.helpers code.names code.signature.parameters code.body args
