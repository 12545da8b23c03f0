-- The functions of a module by their names.
use Rattle.std.specs.Prelude.{ℕ, List, [], ◌∷◌, if◌then◌else◌, Option, None, Some}
use Rattle.std.specs.Option.{option_map}
use Rattle.std.specs.Str.{bytes_eq}
use Rattle.indexmap.specs.IndexMap.{IndexMap, get}
use Rattle.rd_tree.specs.declared.tree.TaskOption.{TaskOption}
use Rattle.rd_tree.specs.declared.tree.Function.{Function}
use Rattle.rd_routine.specs.declared.routine.Callee.{Callee}
use Rattle.rd_code.specs.declared.named.Helper.{Helper}
use Rattle.rd_registry.specs.declared.functions.Found.{Found}
use Rattle.rd_registry.specs.Bodies.{callee_by, helpers_with, task_name_by}
use Rattle.rd_registry.specs.Codes.{helper_of}

-- its parts, where a function is a helper
abbrev pub helper_by : Option (List TaskOption) → Function → Option Helper
helper_by None f = Some (helper_of f)
helper_by (Some options) f = None

-- a function with so many helpers before it
abbrev pub found_of : Option (List ℕ) → ℕ → Function → Found
found_of space place f = record { callee = callee_by place (task_name_by space f.name.text f.task); helper = helper_by f.task f }

-- the first function of a name, where so many helpers stand before these functions
abbrev pub found_among : Option (List ℕ) → ℕ → List Function → List ℕ → Option Found
found_among space place [] text = None
found_among space place (f ∷ fs) text = if bytes_eq text f.name.text then Some (found_of space place f) else found_among space (helpers_with place f.task) fs text

abbrev pub callee_in : Option Found → Option Callee
callee_in o = option_map (λ found. found.callee) o

abbrev pub helper_at : Option Found → Option Helper
helper_at None = None
helper_at (Some found) = found.helper

-- the helper of a name
abbrev pub helper_in : {S : Type 0} → IndexMap (List ℕ) Found S → List ℕ → Option Helper
helper_in functions text = helper_at (get bytes_eq functions text)
