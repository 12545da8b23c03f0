use Rattle.std.proofs.Common.{rules, ◌≡◌, ◌≤◌, ◌<◌, ◌*◌, length, map, Err, ap, sym, ◌∙◌, arith}
use Rattle.rd_value.specs.Canon.{canon, joined}
use Rattle.rd_value.specs.Limits.{max_size}
use Rattle.rd_value.specs.Operators.{times}
use Rattle.rd_meaning.proofs.Repeating.{limited_list}
use Rattle.rd_meaning.proofs.repeat.repeated_list.Goals as goal

pub returns-then-saturating_mul : goal.returns-then-saturating_mul
returns-then-saturating_mul c =
    let k = c.times-times.result in
    let s = c.in_ok-items_size.field-0 in
    let is : k ≡ times c.in-Some.count = search (rules, c.times-times.ensures) in
    let small : s ≤ length (joined (map (canon (λ f. f)) c.args.items.now)) = omega (arith, c.in_ok-items_size.ensures) in
    let far : max_size < s * k = omega (arith, c.saturating_mul.ensures, c.if-saturating_mul.true) in
    rw c.in-Some.is (ap Err c.in_ok-value_limit.ensures ∙ sym (limited_list (λ f. f) c.args.items.now c.in-Some.count k s is small far))
