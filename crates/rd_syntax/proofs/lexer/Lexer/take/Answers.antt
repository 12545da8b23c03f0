use Rattle.rd_syntax.proofs.Bounds.{step_further}
use Rattle.rd_syntax.proofs.lexer.Lexer.take.Goals as goal

pub returns-clause-further : goal.returns-clause-further
returns-clause-further c = λ n h. rw c.next-behind.ensures (step_further n c.args.mode c.args.self.now c.args.byte c.in_ok-next.next c.step.new.self c.in_ok-next.ensures h)
