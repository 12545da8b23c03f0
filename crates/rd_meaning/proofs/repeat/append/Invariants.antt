use Rattle.std.proofs.Common.{◌≡◌, ◌++◌, drop}
use Rattle.rd_meaning.proofs.repeat.append.Given as goal

abbrev pub invariant-loop-item : goal.invariant-loop-item
invariant-loop-item l = l.all.items ++ drop l.item-index l.items ≡ l.initial.all.items ++ l.items
