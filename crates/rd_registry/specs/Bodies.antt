-- A module's functions as bodies, over their own trees.
use Rattle.std.specs.Prelude.{ℕ, suc, Bool, true, false, List, [], ◌∷◌, map, filter, if◌then◌else◌, Option, None, Some, Result}
use Rattle.std.specs.Option.{option_map}
use Rattle.std.specs.Str.{bytes_eq}
use Rattle.rd_value.specs.declared.value.ErrorValue.{ErrorValue}
use Rattle.rd_value.specs.declared.value.FileValue.{FileValue}
use Rattle.rd_value.specs.declared.value.Datum.{Datum, out-Datum}
use Rattle.rd_value.specs.declared.expr.Lazy.{Lazy}
use Rattle.rd_tree.specs.declared.tree.Name.{Name}
use Rattle.rd_tree.specs.declared.tree.Parameter.{Parameter}
use Rattle.rd_tree.specs.declared.tree.TaskOption.{TaskOption}
use Rattle.rd_tree.specs.declared.tree.Function.{Function}
use Rattle.rd_tree.specs.declared.tree.Module.{Module}
use Rattle.rd_names.specs.Options.{full_name, first_space}
use Rattle.rd_routine.specs.declared.routine.Callee.{Callee}
use Rattle.rd_routine.specs.declared.routine.Callee.TheVariants as callee
use Rattle.rd_routine.specs.Callees.{known}
use Rattle.rd_code.specs.Known.{built_in, class_named}
use Rattle.rd_interpreter.specs.Body.{Routine, literal, literal_at, whole}

-- ---- functions of a module

abbrev pub is_helper_by : Option (List TaskOption) → Bool
is_helper_by None = true
is_helper_by (Some options) = false

-- a function that is no task
abbrev pub is_helper : Function → Bool
is_helper f = is_helper_by f.task

-- the functions that are no tasks, in their order
abbrev pub helpers_of : Module → List Function
helpers_of m = filter is_helper m.functions

-- the full name of a task
abbrev pub task_name_by : Option (List ℕ) → List ℕ → Option (List TaskOption) → Option (List ℕ)
task_name_by space own None = None
task_name_by space own (Some options) = Some (full_name space options own)

-- whether it is a task of this full name
abbrev pub is_named : List ℕ → Option (List ℕ) → Bool
is_named text None = false
is_named text (Some full) = bytes_eq text full

-- the first task of a full name
abbrev pub task_among : Option (List ℕ) → List Function → List ℕ → Option Function
task_among space [] text = None
task_among space (f ∷ fs) text = if is_named text (task_name_by space f.name.text f.task) then Some f else task_among space fs text

abbrev pub find_task : Module → List ℕ → Option Function
find_task m text = task_among (first_space m.namespaces) m.functions text

-- ---- what a name that is called stands for

-- a task by its full name, or a helper behind so many others
abbrev pub callee_by : ℕ → Option (List ℕ) → Callee
callee_by place None = callee.Helper place
callee_by place (Some full) = callee.Task full

-- so many helpers, and this function where it is one
abbrev pub helpers_with : ℕ → Option (List TaskOption) → ℕ
helpers_with place None = suc place
helpers_with place (Some options) = place

-- the first function of a name, where so many helpers stand before these functions
abbrev pub function_called : Option (List ℕ) → ℕ → List Function → List ℕ → Option Callee
function_called space place [] text = None
function_called space place (f ∷ fs) text =
    if bytes_eq text f.name.text then Some (callee_by place (task_name_by space f.name.text f.task)) else function_called space (helpers_with place f.task) fs text

-- a builtin, else a function
abbrev pub callee_or : Option Callee → Option Callee → Callee
callee_or (Some c) function = c
callee_or None function = known function

abbrev pub callee_of : Module → List ℕ → Callee
callee_of m text = callee_or (built_in text) (function_called (first_space m.namespaces) 0 m.functions text)

-- ---- functions as bodies

abbrev pub same_text : Name → Name → Bool
same_text x y = bytes_eq x.text y.text

abbrev pub parameter_with_literal : {F : Type 0} → Parameter → Name × Option (Lazy F)
parameter_with_literal p = (p.name, option_map literal p.default)

-- a function, where a name that is called stands for this
abbrev pub function_with : {F : Type 0} → (List ℕ → Callee) → Function → Routine Name F
function_with called f = record {
  same = same_text;
  spelling = λ x. x.text;
  callee = λ x. called x.text;
  class_of = λ x. class_named x.text;
  parameters = map parameter_with_literal f.parameters;
  block = f.body;
}

-- a module's function
abbrev pub function_of : {F : Type 0} → Module → Function → Routine Name F
function_of m f = function_with (callee_of m) f

-- what a module's function comes to as a body on its arguments
abbrev pub body : {F : Type 0} → (F → FileValue) → Module → Function → List (Datum F) → Result (Lazy F) ErrorValue
body file m f args = whole file (map (function_of m) (helpers_of m)) (function_of m f) args

-- the value of a literal
abbrev pub literal_of : {F : Type 0} → Datum FileValue → Datum F
literal_of v = literal_at (out-Datum FileValue v)

-- the parameters of a function, each with its default
abbrev pub signature_of : {F : Type 0} → Function → List (List ℕ × Option (Datum F))
signature_of f = map (λ p. (p.name.text, option_map literal_of p.default)) f.parameters
