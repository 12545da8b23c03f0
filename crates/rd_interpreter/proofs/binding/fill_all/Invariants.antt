use Rattle.std.proofs.Common.{◌≡◌, drop, map}
use Rattle.rd_value.specs.Bind.{with_keywords}
use Rattle.rd_interpreter.specs.Binding.{slot_of, names_of}
use Rattle.rd_interpreter.proofs.binding.fill_all.Given as goal

abbrev pub invariant-loop-name : goal.invariant-loop-name
invariant-loop-name l = record {
  kept : names_of l.arguments ≡ names_of l.initial.arguments;
  left : with_keywords (drop l.name-index l.keywords) (map slot_of l.arguments) ≡ with_keywords l.keywords (map slot_of l.initial.arguments);
}
