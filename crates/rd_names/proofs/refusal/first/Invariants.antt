use Rattle.std.proofs.Common.{◌≡◌, None, drop}
use Rattle.rd_names.specs.Refusals.{soonest}
use Rattle.rd_names.proofs.refusal.first.Given as goal

abbrev pub invariant-loop-refusal : goal.invariant-loop-refusal
invariant-loop-refusal l = soonest l.found (drop l.refusal-index l.refusals) ≡ soonest None l.refusals
