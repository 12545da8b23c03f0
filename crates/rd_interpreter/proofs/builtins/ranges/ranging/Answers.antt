use Rattle.std.proofs.Common.{◌+◌, ◌-◌, rules, arith, FitsSigned, w64, to_z-of_z}
use Rattle.rd_value.specs.declared.value.FileValue.{FileValue}
use Rattle.rd_interpreter.proofs.Ranges.{one_more}
use Rattle.rd_interpreter.proofs.builtins.ranges.ranging.Goals as goal

pub loop-preserved : goal.loop-preserved
loop-preserved c =
    let f : FitsSigned w64 c.loop.number = search rules in
    let r : FitsSigned w64 c.saturating_add-number.result = search rules in
    simp (to_z-of_z r, to_z-of_z c.ranges.first, to_z-of_z c.ranges.end, to_z-of_z c.ranges.step)
    (one_more {F = FileValue} c.loop.number c.args.end c.args.step c.saturating_add-number.result (c.args.count - c.loop.counter) (c.args.count - (c.loop.counter + 1)) c.loop.values c.push.new.self _ f c.ranges.end c.requires.steps
    (simp (c.loop.number-is, to_z-of_z c.ranges.step) at c.saturating_add-number.ensures)
    (omega (arith, c.loop-test.true))
    (simp c.loop.number-is at c.in_ok-push.ensures.ok)
    (simp (c.loop.number-is, to_z-of_z c.ranges.first, to_z-of_z c.ranges.end, to_z-of_z c.ranges.step) at c.loop.invariant))
