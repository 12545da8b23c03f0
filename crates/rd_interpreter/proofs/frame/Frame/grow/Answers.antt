use Rattle.std.proofs.Common.{ap, ◌∙◌}
use Rattle.rd_interpreter.specs.Running.{local}
use Rattle.rd_interpreter.proofs.Locals.{local_grown}
use Rattle.rd_interpreter.proofs.frame.Frame.grow.Goals as goal

pub loop-self-preserved : goal.loop-self-preserved
loop-self-preserved c = (ap local c.in_ok-push.ensures.items ∙ local_grown c.loop-self.self.locals.items ∙ c.loop-self.invariant.0, c.loop-self.invariant.1)
