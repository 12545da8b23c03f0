-- The structures of a module's tasks.
use Rattle.std.specs.Prelude.{◌≡◌, ℕ, List, map, Some, All}
use Rattle.rd_value.specs.Lawful.{IsLawful}
use Rattle.rd_tree.specs.declared.tree.Function.{Function}
use Rattle.rd_tree.specs.declared.tree.Module.{Module}
use Rattle.rd_names.specs.Options.{first_space}
use Rattle.rd_code.specs.declared.named.Helper.{Helper}
use Rattle.rd_code.specs.declared.named.NamedUse.{NamedUse}
use Rattle.rd_structure.specs.Structure.{structure}
use Rattle.rd_structure.specs.Values.{values_in_code}
use Rattle.rd_registry.specs.Bodies.{task_name_by}
use Rattle.rd_registry.specs.Codes.{block_of, parameter_of}
use Rattle.rd_registry.specs.Registry.{callees_in, helpers_in}
use Rattle.rd_registry.specs.Resolved.{AreResolved}

-- These bytes are the structure of a module's function as a task: its full name, its parameters with their defaults, its block, the helpers that it reaches, and what each name is that isn't local there.
pub record HasStructure (m : Module) (f : Function) (bytes : List ℕ) : Type 0 where
  pub full_name : List ℕ
  pub helpers : List Helper
  pub names : List NamedUse
  pub named : task_name_by (first_space m.namespaces) f.name.text f.task ≡ Some full_name
  pub resolved : AreResolved (helpers_in m) (callees_in m) (block_of f.body) helpers names
  pub is : bytes ≡ structure full_name (map parameter_of f.parameters) (block_of f.body) helpers names

-- The values in a function and in helpers are such as a program can hold.
abbrev pub AreLawful : Function → List Helper → Type 0
AreLawful f helpers = All IsLawful (values_in_code (map parameter_of f.parameters) (block_of f.body) helpers)
