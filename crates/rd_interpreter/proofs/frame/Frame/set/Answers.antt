use Rattle.std.proofs.Common.{ap, ◌∙◌}
use Rattle.rd_interpreter.specs.Running.{state, with_local}
use Rattle.rd_interpreter.proofs.Locals.{local_set, both_parts}
use Rattle.rd_interpreter.proofs.frame.Frame.set.Goals as goal

pub returns-clause-set : goal.returns-clause-set
unfolding state
returns-clause-set c =
    rw c.replace.ensures.after
    (both_parts _ _ _ _ (local_set c.grow.new.self.locals.items c.args.slot c.args.value c.in_ok-grow.ensures.room ∙ ap (λ names. with_local names c.args.slot c.args.value) c.in_ok-grow.ensures.names) c.in_ok-grow.ensures.left)
