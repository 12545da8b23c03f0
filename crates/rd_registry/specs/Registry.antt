-- What a registry has of a module.
use Rattle.std.specs.Prelude.{◌≡◌, ℕ, ◌<◌, List, map, Option, None, Some, slice_get}
use Rattle.std.specs.Arc.{arc_value}
use Rattle.std.specs.Option.{option_map}
use Rattle.std.specs.Str.{bytes_eq}
use Rattle.indexmap.specs.IndexMap.{IndexMap, get, index_map_len, values}
use Rattle.rd_value.specs.declared.value.FileValue.{FileValue}
use Rattle.rd_value.specs.declared.value.Datum.{Datum}
use Rattle.rd_tree.specs.declared.tree.Function.{Function}
use Rattle.rd_tree.specs.declared.tree.Module.{Module}
use Rattle.rd_names.specs.Options.{first_space}
use Rattle.rd_routine.specs.declared.routine.Callee.{Callee}
use Rattle.rd_code.specs.declared.named.Helper.{Helper}
use Rattle.rd_code.specs.declared.code.TaskCode.{TaskCode}
use Rattle.rd_registry.specs.declared.registry.Registry.{Registry}
use Rattle.rd_registry.specs.declared.task.Task.{Task}
use Rattle.rd_registry.specs.declared.task.TaskId.{TaskId}
use Rattle.rd_interpreter.specs.Running.{own}
use Rattle.rd_body.specs.Code.{meaning}
use Rattle.rd_body.specs.Jobs.{outcome}
use Rattle.rd_registry.specs.Bodies.{body, find_task, task_name_by}
use Rattle.rd_registry.specs.Codes.{block_of, parameter_of, signature_of}
use Rattle.rd_registry.specs.Functions.{callee_in, found_among, helper_at}
use Rattle.rd_registry.specs.Home.{IsAtHome}
use Rattle.rd_registry.specs.Resolved.{HasParts, Resolves}

-- the code of a function as a task, whose names are resolved
pub record IsMade (helpers : List ℕ → Option Helper) (callees : List ℕ → Option Callee) (space : Option (List ℕ)) (f : Function) (code : TaskCode) : Type 0 where
  pub named : task_name_by space f.name.text f.task ≡ Some code.full_name
  pub parts : HasParts code.full_name (signature_of f) (block_of f.body) code
  pub resolves : Resolves helpers callees code

-- the code of this function, or nothing where there is none
abbrev pub Coded : (List ℕ → Option Helper) → (List ℕ → Option Callee) → Option (List ℕ) → Option Function → Option TaskCode → Type 0
Coded helpers callees space None None = Unit {0}
Coded helpers callees space (Some f) (Some code) = IsMade helpers callees space f code
Coded helpers callees space f code = ⊥

abbrev pub code_at : Task → TaskCode
code_at task = arc_value task.code

abbrev pub code_in : {S : Type 0} → IndexMap (List ℕ) Task S → List ℕ → Option TaskCode
code_in tasks text = option_map code_at (get bytes_eq tasks text)

-- the helpers of a module, and what its functions are to those that call them, by their names
abbrev pub helpers_in : Module → List ℕ → Option Helper
helpers_in m text = helper_at (found_among (first_space m.namespaces) 0 m.functions text)

abbrev pub callees_in : Module → List ℕ → Option Callee
callees_in m text = callee_in (found_among (first_space m.namespaces) 0 m.functions text)

-- The code of a module's task: it has the function's parts, its names are resolved, it means what the function means over the module's own tree, and what it gives is at home in the module.
pub record IsCodeOf (m : Module) (f : Function) (code : TaskCode) : Type 0 where
  pub full_name : task_name_by (first_space m.namespaces) f.name.text f.task ≡ Some code.full_name
  pub parameters : code.signature.parameters ≡ map parameter_of f.parameters
  pub block : code.body ≡ block_of f.body
  pub resolves : Resolves (helpers_in m) (callees_in m) code
  pub means : (args : List (Datum FileValue)) → meaning own code args ≡ body own m f args
  pub at_home : (args : List (Datum FileValue)) → IsAtHome m (outcome code args)

abbrev pub CodedOf : Module → Option Function → Option TaskCode → Type 0
CodedOf m None None = Unit {0}
CodedOf m (Some f) (Some code) = IsCodeOf m f code
CodedOf m f code = ⊥

-- The first function of each name, and the code of the first task of each full name.
pub record Registers (m : Module) (r : Registry) : Type 0 where
  pub functions : (text : List ℕ) → get bytes_eq r.functions text ≡ found_among (first_space m.namespaces) 0 m.functions text
  pub tasks : (text : List ℕ) → CodedOf m (find_task m text) (code_in r.tasks text)

-- the registry gave this number
abbrev pub HasTask : Registry → TaskId → Type 0
HasTask r task = task.0 < index_map_len r.tasks

-- the code of the task of a number
abbrev pub code_of : Registry → TaskId → Option TaskCode
code_of r task = option_map code_at (slice_get (values r.tasks) task.0)

-- The number is that of the module's task of this full name.
pub record IsTaskOf (m : Module) (r : Registry) (full_name : List ℕ) (task : TaskId) : Type 0 where
  pub function : Function
  pub found : find_task m full_name ≡ Some function
  pub code : TaskCode
  pub named : code.full_name ≡ full_name
  pub coded : code_of r task ≡ Some code
  pub is : IsCodeOf m function code
