use Rattle.std.proofs.Common.{◌≡◌, ◌++◌, [], drop}
use Rattle.rd_names.specs.Names.{doubles, with_names, texts, function_names}
use Rattle.rd_names.proofs.names.note_functions.Given as goal

abbrev pub invariant-loop-function : goal.invariant-loop-function
invariant-loop-function l = (with_names l.seen.keys (texts (function_names (drop l.function-index l.functions))) ≡ with_names [] (texts (function_names l.functions))) × (l.all.items ++ doubles l.seen.keys (function_names (drop l.function-index l.functions)) ≡ l.fn.all.items ++ doubles [] (function_names l.functions))
