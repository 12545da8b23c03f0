use Rattle.std.proofs.Common.{◌≡◌, ◌++◌, drop, map}
use Rattle.rd_names.specs.Uses.{joined}
use Rattle.rd_names.specs.Names.{option_refusals}
use Rattle.rd_names.proofs.names.judge_options.Given as goal

abbrev pub invariant-loop-option : goal.invariant-loop-option
invariant-loop-option l = l.all.items ++ joined (map option_refusals (drop l.option-index l.options)) ≡ l.fn.all.items ++ joined (map option_refusals l.options)
