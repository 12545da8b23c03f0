use Rattle.std.proofs.Common.{sym}
use Rattle.rd_registry.proofs.Registered.{no_function, no_task, found_by}
use Rattle.rd_registry.proofs.registry.Registry.find_function.Goals as goal

pub returns-in_err-full_name-clause-found : goal.returns-in_err-full_name-clause-found
returns-in_err-full_name-clause-found c = λ m u. rw c.from_residual.ensures (no_function m c.args.self.now c.args.name.now u (sym c.in_err-full_name.ensures.value))

pub returns-in-Task-clause-found : goal.returns-in-Task-clause-found
returns-in-Task-clause-found c = λ m u. found_by m c.args.self.now c.args.name.now u c.in_ok-full_name.field-0.now c.in-Task.full_name (sym c.in_ok-full_name.ensures.value) c.in-Task.is c.find.result (c.find.ensures.found m u)

pub returns-in_default : goal.returns-in_default
returns-in_default c = record { given = tt; found = λ m u. no_task m c.args.self.now c.args.name.now u c.in_ok-full_name.field-0.now (sym c.in_ok-full_name.ensures.value) c.in_default.not-Task }
