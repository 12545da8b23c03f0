use Rattle.std.proofs.Common.{sym, subst}
use Rattle.rd_interpreter.specs.Running.{Answers}
use Rattle.rd_interpreter.proofs.Arguments.{bound_by}
use Rattle.rd_interpreter.proofs.binding.arguments.Goals as goal

pub returns : goal.returns
returns c =
    subst (λ a. Answers c.bound.result a) (sym (bound_by c.args.routine.now c.args.positional c.args.keywords)) (rw (c.as_slice.ensures, c.as_slice-2.ensures) at c.bound.ensures)
