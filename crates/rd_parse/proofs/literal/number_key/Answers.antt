use Rattle.std.proofs.Common.{rules, ◌≡◌, true, false, refl}
use Rattle.rd_parse.specs.Terminal.{number_of}
use Rattle.rd_parse.specs.Literals.{new_number}
use Rattle.rd_parse.specs.LiteralReading.{read_number_key}
use Rattle.rd_parse.proofs.Keys.{number_told, only_taken, only_refused}
use Rattle.rd_parse.proofs.literal.number_key.Goals as goal

pub returns-then-not-branch-clause-gives : goal.returns-then-not-branch-clause-gives
unfolding read_number_key
returns-then-not-branch-clause-gives c =
    let old : new_number c.args.keys.now.keys c.in_ok-value.value ≡ false = number_told c.args.keys.now.keys c.in_ok-value.value _ _ _ c.in_ok-insert.ensures.added c.if-not-branch.true (search rules) in
    rw (only_refused (new_number c.args.keys.now.keys) number_of c.args.tokens.now c.in_ok-value.rest.now c.in_ok-value.value c.in_ok-value.ensures old) refl

pub returns-clause-gives : goal.returns-clause-gives
unfolding read_number_key
returns-clause-gives c =
    let new : new_number c.args.keys.now.keys c.in_ok-value.value ≡ true = number_told c.args.keys.now.keys c.in_ok-value.value _ _ _ c.in_ok-insert.ensures.added c.if-not-branch.false (search rules) in
    rw (only_taken (new_number c.args.keys.now.keys) number_of c.args.tokens.now c.in_ok-value.rest.now c.in_ok-value.value c.in_ok-value.ensures new) (search rules)
