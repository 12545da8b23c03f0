use Rattle.std.proofs.Common.{◌≡◌, drop, map}
use Rattle.rd_value.specs.Bind.{with_keywords}
use Rattle.rd_meaning.specs.Binding.{slot_of, names_of}
use Rattle.rd_meaning.proofs.binding.fill_all.Given as goal

abbrev pub invariant-loop-name : goal.invariant-loop-name
invariant-loop-name l = record {
  kept : names_of l.slots ≡ names_of l.initial.slots;
  left : with_keywords (drop l.name-index l.keywords) (map slot_of l.slots) ≡ with_keywords l.keywords (map slot_of l.initial.slots);
}
