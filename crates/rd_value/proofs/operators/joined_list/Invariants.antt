use Rattle.std.proofs.Common.{◌≡◌, ◌++◌, take}
use Rattle.rd_value.proofs.operators.joined_list.Given as goal

abbrev pub invariant-loop-item : goal.invariant-loop-item
invariant-loop-item l = l.joined ≡ l.a ++ take l.item-index l.item-items
