use Rattle.std.proofs.Common.{◌≡◌, ◌++◌, drop}
use Rattle.std.specs.Option.{option_map}
use Rattle.rd_value.specs.Make.{values_of}
use Rattle.rd_interpreter.proofs.methods.settled.Given as goal

abbrev pub invariant-loop-expression : goal.invariant-loop-expression
invariant-loop-expression l = option_map (λ rest. l.values ++ rest) (values_of (drop l.expression-index l.expressions)) ≡ values_of l.expressions
