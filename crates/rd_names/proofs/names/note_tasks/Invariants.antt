use Rattle.std.proofs.Common.{◌≡◌, ◌++◌, [], drop}
use Rattle.std.specs.Prelude.{option_copied}
use Rattle.rd_names.specs.Names.{doubles, task_names}
use Rattle.rd_names.proofs.names.note_tasks.Given as goal

abbrev pub invariant-loop-function : goal.invariant-loop-function
invariant-loop-function l = l.all.items ++ doubles l.seen.keys (task_names (option_copied l.space) (drop l.function-index l.functions)) ≡ l.fn.all.items ++ doubles [] (task_names (option_copied l.space) l.functions)
