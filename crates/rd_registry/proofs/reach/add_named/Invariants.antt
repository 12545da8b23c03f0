use Rattle.std.proofs.Common.{◌≡◌, drop, filter}
use Rattle.rd_names.specs.Names.{with_names}
use Rattle.rd_registry.specs.Functions.{helper_in}
use Rattle.rd_registry.specs.Reach.{names_helper}
use Rattle.rd_registry.proofs.reach.add_named.Given as goal

abbrev pub invariant-loop-text : goal.invariant-loop-text
invariant-loop-text l = with_names l.names.keys (filter (names_helper (helper_in l.functions)) (drop l.text-index l.texts)) ≡ with_names l.fn.names.keys (filter (names_helper (helper_in l.functions)) l.texts)
