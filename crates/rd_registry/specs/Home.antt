-- What is at home in a module: it names tasks of the module alone.
use Rattle.std.specs.Prelude.{◌≡◌, ℕ, true, List, is_some}
use Rattle.rd_tree.specs.declared.tree.Module.{Module}
use Rattle.rd_body.specs.declared.job.Reduction.{Reduction}
use Rattle.rd_body.specs.Home.{IsHomeReduction}
use Rattle.rd_registry.specs.Bodies.{find_task}

-- the module has a task of this full name
abbrev pub HasTaskNamed : Module → List ℕ → Type 0
HasTaskNamed m full_name = is_some (find_task m full_name) ≡ true

-- All tasks that a reduction's expression names are the module's.
abbrev pub IsAtHome : Module → Reduction → Type 0
IsAtHome m = IsHomeReduction (HasTaskNamed m)
