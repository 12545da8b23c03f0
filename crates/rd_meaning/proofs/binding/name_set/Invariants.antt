use Rattle.std.proofs.Common.{◌≡◌, take}
use Rattle.rd_meaning.specs.Binding.{names_of}
use Rattle.rd_meaning.proofs.binding.name_set.Given as goal

abbrev pub invariant-loop-slot : goal.invariant-loop-slot
invariant-loop-slot l = l.names.keys ≡ names_of (take l.slot-index l.slots)
