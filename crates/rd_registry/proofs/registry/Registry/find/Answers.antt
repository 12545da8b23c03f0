use Rattle.std.proofs.Common.{sym}
use Rattle.rd_registry.proofs.Registered.{numbered}
use Rattle.rd_registry.proofs.registry.Registry.find.Goals as goal

pub returns-clause-found : goal.returns-clause-found
returns-clause-found c = λ m u. numbered m c.args.self.now c.args.full_name.now _ c.in_ok-place.ensures.value u (sym c.in_ok-place.ensures.found)
