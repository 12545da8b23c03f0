use Rattle.std.proofs.Common.{◌≡◌, ◌++◌, drop, map}
use Rattle.rd_names.specs.declared.refusal.Broken.TheVariants as b
use Rattle.rd_names.specs.Names.{at}
use Rattle.rd_names.proofs.names.refuse_seconds.Given as goal

abbrev pub invariant-loop-name : goal.invariant-loop-name
invariant-loop-name l = l.all.items ++ map (at b.DoubleName) (drop l.name-index l.namespaces) ≡ l.fn.all.items ++ map (at b.DoubleName) l.namespaces
