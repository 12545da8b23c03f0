use Rattle.std.proofs.Common.{rules, ◌≡◌, neg_ℤ, true, false, refl}
use Rattle.rd_parse.specs.Terminal.{number_of}
use Rattle.rd_parse.specs.Literals.{new_number}
use Rattle.rd_parse.specs.LiteralReading.{read_negative_key}
use Rattle.rd_parse.proofs.Keys.{number_told, only_taken, only_refused}
use Rattle.rd_parse.proofs.literal.negative_key.Goals as goal

pub returns-then-not-branch-clause-gives : goal.returns-then-not-branch-clause-gives
unfolding read_negative_key
returns-then-not-branch-clause-gives c =
    let old : new_number c.args.keys.now.keys (neg_ℤ c.in_ok-value.value) ≡ false = number_told c.args.keys.now.keys (neg_ℤ c.in_ok-value.value) _ _ _ c.in_ok-insert.ensures.added c.if-not-branch.true (search rules) in
    rw (c.in_ok-digits.ensures.gives, only_refused (λ z. new_number c.args.keys.now.keys (neg_ℤ z)) number_of c.in_ok-digits.digits.now c.in_ok-value.rest.now c.in_ok-value.value c.in_ok-value.ensures old) refl

pub returns-clause-gives : goal.returns-clause-gives
unfolding read_negative_key
returns-clause-gives c =
    let new : new_number c.args.keys.now.keys (neg_ℤ c.in_ok-value.value) ≡ true = number_told c.args.keys.now.keys (neg_ℤ c.in_ok-value.value) _ _ _ c.in_ok-insert.ensures.added c.if-not-branch.false (search rules) in
    rw (c.in_ok-digits.ensures.gives, only_taken (λ z. new_number c.args.keys.now.keys (neg_ℤ z)) number_of c.in_ok-digits.digits.now c.in_ok-value.rest.now c.in_ok-value.value c.in_ok-value.ensures new) (search rules)
