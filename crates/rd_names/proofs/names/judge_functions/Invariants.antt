use Rattle.std.proofs.Common.{◌≡◌, ◌++◌, drop, map}
use Rattle.rd_names.specs.Uses.{joined}
use Rattle.rd_names.specs.Names.{told_by, function_refusals}
use Rattle.rd_names.proofs.names.judge_functions.Given as goal

abbrev pub invariant-loop-function : goal.invariant-loop-function
invariant-loop-function l = l.all.items ++ joined (map (function_refusals (told_by l.known)) (drop l.function-index l.functions)) ≡ l.fn.all.items ++ joined (map (function_refusals (told_by l.known)) l.functions)
