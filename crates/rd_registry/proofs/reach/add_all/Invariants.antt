use Rattle.std.proofs.Common.{◌≡◌, drop}
use Rattle.rd_names.specs.Names.{with_names}
use Rattle.rd_registry.proofs.reach.add_all.Given as goal

abbrev pub invariant-loop-text : goal.invariant-loop-text
invariant-loop-text l = with_names l.names.keys (drop l.text-index l.texts) ≡ with_names l.fn.names.keys l.texts
