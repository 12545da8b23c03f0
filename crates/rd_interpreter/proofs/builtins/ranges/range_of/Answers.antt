use Rattle.std.proofs.Common.{◌≡◌, ◌≢◌, ◌<◌, ap, pos, rules, arith, ◌∙◌, to_z-of_z}
use Rattle.rd_value.specs.Limits.{max_size}
use Rattle.rd_value.specs.Operators.{value_limit}
use Rattle.rd_interpreter.specs.Builtins.{range_length, ranging}
use Rattle.rd_interpreter.specs.Running.{state}
use Rattle.rd_interpreter.proofs.Ranges.{too_many, is_made, raised}
use Rattle.rd_interpreter.proofs.builtins.ranges.range_of.Goals as goal

pub returns-then-from-count-clause-gives : goal.returns-then-from-count-clause-gives
returns-then-from-count-clause-gives c =
    let n : c.args.step ≢ pos 0 = search rules in
    let e : c.range_length-count.result ≡ range_length c.args.first c.args.end c.args.step = simp (to_z-of_z c.ranges.first, to_z-of_z c.ranges.end, to_z-of_z c.ranges.step) at c.range_length-count.ensures in
    let more : max_size < range_length c.args.first c.args.end c.args.step = omega (arith, e, c.if-from-count.true, c.from.ensures) in
    raised c.value_limit.result value_limit (state c.args.frame.now) _ c.value_limit.ensures (too_many c.args.first c.args.end c.args.step (state c.args.frame.now) n more)

pub returns-clause-gives : goal.returns-clause-gives
returns-clause-gives c =
    let n : c.args.step ≢ pos 0 = search rules in
    let e : c.range_length-count.result ≡ range_length c.args.first c.args.end c.args.step = simp (to_z-of_z c.ranges.first, to_z-of_z c.ranges.end, to_z-of_z c.ranges.step) at c.range_length-count.ensures in
    let v : c.in_ok-values.values ≡ ranging c.range_length-count.result c.args.first c.args.step = simp (to_z-of_z c.ranges.first, to_z-of_z c.ranges.step) at c.in_ok-values.ensures in
    rw (is_made c.args.first c.args.end c.args.step (state c.args.frame.now) n c.in_ok-values.values (v ∙ ap (λ x. ranging x c.args.first c.args.step) e)) c.made.ensures.gives
