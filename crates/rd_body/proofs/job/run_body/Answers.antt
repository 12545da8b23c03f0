use Rattle.std.specs.Arc.{arc_value}
use Rattle.rd_body.proofs.Outcomes.{outcome_of}
use Rattle.rd_body.proofs.job.run_body.Goals as goal

pub invariant_of-result : goal.invariant_of-result
invariant_of-result c = record {
  right =
      outcome_of (arc_value c.args.job.code) c.deref-code.result.now c.args.job.args c.as_slice.result.now c.routines.result.now c.routine.result.now c.in_ok-reduced.reduced c.in_ok-reduction.reduction
      c.deref-code.ensures c.routines.ensures c.routine.ensures c.as_slice.ensures c.in_ok-reduced.ensures c.in_ok-reduction.ensures;
}
