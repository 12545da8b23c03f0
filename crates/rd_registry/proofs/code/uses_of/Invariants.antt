use Rattle.std.proofs.Common.{◌≡◌, map, take}
use Rattle.rd_registry.specs.Codes.{use_with}
use Rattle.rd_registry.specs.Resolved.{callees_by}
use Rattle.rd_registry.proofs.code.uses_of.Given as goal

abbrev pub invariant-loop-name : goal.invariant-loop-name
invariant-loop-name l = l.uses.items ≡ map (use_with (callees_by l.functions)) (take l.name-index l.names)
