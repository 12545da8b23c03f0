use Rattle.std.proofs.Common.{sym, subst}
use Rattle.std.specs.Arc.{arc_value}
use Rattle.rd_body.specs.Home.{IsHomeReduction, IsKeptReduction, IsTaskIn}
use Rattle.rd_body.proofs.HomeCodes.{outcome_home, outcome_within}
use Rattle.rd_body.proofs.job.Finished.reduction.Goals as goal

pub returns-clause-at_home : goal.returns-clause-at_home
returns-clause-at_home c =
    let code = arc_value c.args.self.now.job.code in
    subst (IsHomeReduction (IsTaskIn code.names)) (sym c.args.self.now.right) (outcome_home (IsTaskIn code.names) code (λ t u. u) c.args.self.now.job.args)

pub returns-clause-within : goal.returns-clause-within
returns-clause-within c = subst IsKeptReduction (sym c.args.self.now.right) (outcome_within (arc_value c.args.self.now.job.code) c.args.self.now.job.args)
