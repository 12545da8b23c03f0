use Rattle.rd_top.proofs.Parts.{take_value}
use Rattle.rd_top.proofs.evaluate.with_value.Goals as goal

pub returns-in_ok-push-in-Value : goal.returns-in_ok-push-in-Value
returns-in_ok-push-in-Value c = λ more. take_value (λ v. v) c.args.gathered c.args.outcome c.in-Value.value c.in-All.values _ more c.in-All.is c.in-Value.is c.in_ok-push-in-Value.ensures.ok
