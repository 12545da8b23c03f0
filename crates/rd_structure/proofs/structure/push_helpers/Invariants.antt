use Rattle.std.proofs.Common.{◌≡◌, ◌++◌, drop, map}
use Rattle.rd_value.specs.Canon.{joined}
use Rattle.rd_structure.specs.Structure.{helper_bytes}
use Rattle.rd_structure.proofs.structure.push_helpers.Given as goal

abbrev pub invariant-loop-helper : goal.invariant-loop-helper
invariant-loop-helper l = l.out.items ++ joined (map helper_bytes (drop l.helper-index l.helpers)) ≡ (l.initial.out.items ++ joined (map helper_bytes l.helpers))
