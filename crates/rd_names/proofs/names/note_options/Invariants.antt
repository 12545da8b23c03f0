use Rattle.std.proofs.Common.{◌≡◌, ◌++◌, [], drop}
use Rattle.rd_names.specs.Names.{doubles, option_names}
use Rattle.rd_names.proofs.names.note_options.Given as goal

abbrev pub invariant-loop-option : goal.invariant-loop-option
invariant-loop-option l = l.all.items ++ doubles l.seen.keys (option_names (drop l.option-index l.options)) ≡ l.fn.all.items ++ doubles [] (option_names l.options)
