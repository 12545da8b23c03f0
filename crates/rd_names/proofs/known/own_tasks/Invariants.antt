use Rattle.std.proofs.Common.{◌≡◌, [], drop}
use Rattle.rd_names.specs.Names.{with_names, own_tasks}
use Rattle.rd_names.proofs.known.own_tasks.Given as goal

abbrev pub invariant-loop-function : goal.invariant-loop-function
invariant-loop-function l = with_names l.tasks.keys (own_tasks (drop l.function-index l.functions)) ≡ with_names [] (own_tasks l.functions)
