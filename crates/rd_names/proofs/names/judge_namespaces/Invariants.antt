use Rattle.std.proofs.Common.{◌≡◌, ◌++◌, drop, map}
use Rattle.rd_names.specs.Uses.{joined}
use Rattle.rd_names.specs.Names.{namespace_refusals}
use Rattle.rd_names.proofs.names.judge_namespaces.Given as goal

abbrev pub invariant-loop-name : goal.invariant-loop-name
invariant-loop-name l = l.all.items ++ joined (map namespace_refusals (drop l.name-index l.namespaces)) ≡ l.fn.all.items ++ joined (map namespace_refusals l.namespaces)
