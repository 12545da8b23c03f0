use Rattle.std.proofs.Common.{◌≡◌, ◌++◌, drop, map, length}
use Rattle.rd_interpreter.specs.Binding.{spelled_in, slot_of, in_order}
use Rattle.rd_interpreter.proofs.binding.positioned.Given as goal

abbrev pub invariant-loop-parameter : goal.invariant-loop-parameter
invariant-loop-parameter l = map slot_of l.all.items ++ in_order (length l.all.items) (map (spelled_in l.words) (drop l.parameter-index l.parameters)) l.positional ≡ in_order 0 (map (spelled_in l.words) l.parameters) l.positional
