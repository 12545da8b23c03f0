use Rattle.std.proofs.Common.{rules, ◌≡◌, ◌<◌, ◌*◌, ◌++◌, length, ap, sym, ◌∙◌, arith}
use Rattle.std.proofs.Math.Nat.{mul_comm}
use borrow.Author.Tests.{tests}
use Rattle.rd_value.specs.Limits.{max_size}
use Rattle.rd_meaning.proofs.Repeating.{nothing_repeated, repeat_more, repeated_length}
use Rattle.rd_interpreter.proofs.operation.repeated.Goals as goal

pub returns-then-is_empty-clause-fits : goal.returns-then-is_empty-clause-fits
returns-then-is_empty-clause-fits c =
    let none : length c.args.items.now ≡ 0 = search (rules, tests, c.is_empty.ensures, c.if-is_empty.true) in
    c.new.ensures ∙ sym (nothing_repeated c.args.times c.args.items.now none)

pub returns-then-saturating_mul-clause-many : goal.returns-then-saturating_mul-clause-many
returns-then-saturating_mul-clause-many c =
    let far : max_size < length c.args.items.now * c.args.times = omega (arith, c.saturating_mul.ensures, c.if-saturating_mul.true) in
    let turned = mul_comm (length c.args.items.now) c.args.times in
    omega (arith, far, turned, repeated_length c.args.times c.args.items.now)

pub loop-preserved : goal.loop-preserved
loop-preserved c = c.in_ok-append_exprs.ensures ∙ ap (λ xs. xs ++ c.args.items.now) c.loop.invariant ∙ repeat_more c.loop.counter c.args.items.now
