use Rattle.std.proofs.Common.{◌≡◌, ◌++◌, drop}
use Rattle.rd_registry.specs.Functions.{helper_in}
use Rattle.rd_registry.specs.Resolved.{helpers_at}
use Rattle.rd_registry.proofs.code.helpers_of.Given as goal

abbrev pub invariant-loop-name : goal.invariant-loop-name
invariant-loop-name l = l.helpers.items ++ helpers_at (helper_in l.functions) (drop l.name-index l.names) ≡ helpers_at (helper_in l.functions) l.names
