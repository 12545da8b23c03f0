use Rattle.std.proofs.Common.{rules, ◌≡◌, ◌<◌, ◌*◌, length, Err, ap, sym, ◌∙◌, arith}
use Rattle.rd_value.specs.Limits.{max_size}
use Rattle.rd_value.specs.Operators.{times}
use Rattle.rd_meaning.proofs.Repeating.{limited_text}
use Rattle.rd_meaning.proofs.repeat.repeated_text.Goals as goal

pub returns-then-saturating_mul : goal.returns-then-saturating_mul
returns-then-saturating_mul c =
    let k = c.times-times.result in
    let is : k ≡ times c.in-Some.count = search (rules, c.times-times.ensures) in
    let far : max_size < length c.args.text.now * k = omega (arith, c.saturating_mul.ensures, c.if-saturating_mul.true) in
    rw c.in-Some.is (ap Err c.in_ok-value_limit.ensures ∙ sym (limited_text (λ f. f) c.args.text.now c.in-Some.count k is far))
