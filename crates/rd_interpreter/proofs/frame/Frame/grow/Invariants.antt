use Rattle.std.proofs.Common.{◌≡◌, suc, ◌-◌, length}
use Rattle.rd_interpreter.specs.Running.{local}
use Rattle.rd_interpreter.proofs.frame.Frame.grow.Given as goal

abbrev pub invariant-loop-self : goal.invariant-loop-self
invariant-loop-self l = (local l.self.locals.items ≡ local l.initial.self.locals.items) × (l.self.left ≡ l.initial.self.left)

abbrev pub decreases-loop-self : goal.decreases-loop-self
decreases-loop-self l = suc l.slot - length l.self.locals.items
