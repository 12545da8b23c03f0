use Rattle.std.proofs.Common.{◌≡◌, map, take}
use Rattle.rd_registry.specs.Codes.{parameter_of}
use Rattle.rd_registry.proofs.tree.parameters_of.Given as goal

abbrev pub invariant-loop-parameter : goal.invariant-loop-parameter
invariant-loop-parameter l = l.all.items ≡ map parameter_of (take l.parameter-index l.parameters)
