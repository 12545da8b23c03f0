use Rattle.std.proofs.Common.{[], ◌∷◌, ◌++◌, ap, ◌∙◌}
use Rattle.rd_top.proofs.Parts.{take_value}
use Rattle.rd_top.proofs.evaluate.with_pair.Goals as goal

pub returns-in_ok-push-in-Value : goal.returns-in_ok-push-in-Value
returns-in_ok-push-in-Value g c =
    λ more. take_value (λ v. (c.args.key.now, v)) c.args.gathered c.args.outcome c.in-Value.value c.in-All.pairs _ more c.in-All.is c.in-Value.is
    (c.in_ok-push-in-Value.ensures.ok ∙ ap (λ k. c.in-All.pairs ++ (k, c.in-Value.value) ∷ []) c.in_ok-copy-in-Value.ensures)
