use Rattle.std.proofs.Common.{◌≡◌, ◌++◌, drop, map}
use Rattle.rd_names.specs.Uses.{joined}
use Rattle.rd_names.specs.Names.{taken_refusals}
use Rattle.rd_names.proofs.names.judge_taken.Given as goal

abbrev pub invariant-loop-function : goal.invariant-loop-function
invariant-loop-function l = l.all.items ++ joined (map taken_refusals (drop l.function-index l.functions)) ≡ l.fn.all.items ++ joined (map taken_refusals l.functions)
