use Rattle.std.proofs.Common.{ℕ, List, take}
use Rattle.std.specs.Prelude.{option_copied}
use Rattle.rd_registry.specs.Bodies.{task_among}
use Rattle.rd_registry.specs.Registry.{Coded, code_in}
use Rattle.rd_registry.specs.Resolved.{callees_by, helpers_by}
use Rattle.rd_registry.proofs.registry.registering.tasks_of.Given as goal

abbrev pub invariant-loop-function : goal.invariant-loop-function
invariant-loop-function l = (text : List ℕ) → Coded (helpers_by l.functions) (callees_by l.functions) (option_copied l.space) (task_among (option_copied l.space) (take l.function-index l.all) text) (code_in l.tasks text)
