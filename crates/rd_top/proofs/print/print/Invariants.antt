use Rattle.std.proofs.Common.{◌≡◌, ◌≤◌, ◌-◌, length, take}
use Rattle.rd_base.specs.Sink.{added}
use Rattle.rd_top.proofs.print.print.Given as goal

abbrev pub invariant-loop-done : goal.invariant-loop-done
invariant-loop-done g l =
    (l.done ≤ length l.bytes) × (g.S.Sink.written l.out ≡ added (g.S.Sink.written l.initial.out) (take l.done l.bytes)) × (g.S.Sink.faults l.initial.out ≤ g.S.Sink.faults l.out)

abbrev pub decreases-loop-done : goal.decreases-loop-done
decreases-loop-done g l = length l.bytes - l.done
