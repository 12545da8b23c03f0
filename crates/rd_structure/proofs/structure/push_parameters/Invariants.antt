use Rattle.std.proofs.Common.{◌≡◌, ◌++◌, drop, map}
use Rattle.rd_value.specs.Canon.{joined}
use Rattle.rd_structure.specs.Structure.{parameter_bytes}
use Rattle.rd_structure.proofs.structure.push_parameters.Given as goal

abbrev pub invariant-loop-parameter : goal.invariant-loop-parameter
invariant-loop-parameter l = l.out.items ++ joined (map parameter_bytes (drop l.parameter-index l.parameters)) ≡ (l.initial.out.items ++ joined (map parameter_bytes l.parameters))
