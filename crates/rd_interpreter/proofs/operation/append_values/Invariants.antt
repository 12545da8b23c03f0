use Rattle.std.proofs.Common.{◌≡◌, ◌++◌, map, drop}
use Rattle.rd_value.specs.declared.expr.Lazy.TheVariants as lazy
use Rattle.rd_interpreter.proofs.operation.append_values.Given as goal

abbrev pub invariant-loop-item : goal.invariant-loop-item
invariant-loop-item l = l.all ++ map lazy.Val (drop l.item-index l.items) ≡ l.initial.all ++ map lazy.Val l.items
