use Rattle.std.proofs.Common.{◌≡◌, ◌++◌, drop, map}
use Rattle.rd_value.specs.Canon.{joined}
use Rattle.rd_structure.specs.Structure.{use_bytes}
use Rattle.rd_structure.proofs.structure.push_uses.Given as goal

abbrev pub invariant-loop-named : goal.invariant-loop-named
invariant-loop-named l = l.out.items ++ joined (map use_bytes (drop l.named-index l.names)) ≡ (l.initial.out.items ++ joined (map use_bytes l.names))
