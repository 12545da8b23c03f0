use Rattle.std.proofs.Common.{rules, ◌≡◌, true, false, refl}
use Rattle.rd_bencode.specs.Values.{new_number, read_number_key}
use Rattle.rd_bencode.proofs.Keys.{number_told}
use Rattle.rd_bencode.proofs.read.value.number_key.Goals as goal

pub returns-then-not-branch-clause-gives : goal.returns-then-not-branch-clause-gives
unfolding read_number_key
returns-then-not-branch-clause-gives c =
    let old : new_number c.args.keys.now.keys c.in_ok-n.n ≡ false = number_told c.args.keys.now.keys c.in_ok-n.n _ _ _ c.in_ok-insert.ensures.added c.if-not-branch.true (search rules) in
    rw (c.in_ok-n.ensures, old) refl

pub returns-clause-gives : goal.returns-clause-gives
unfolding read_number_key
returns-clause-gives c =
    let new : new_number c.args.keys.now.keys c.in_ok-n.n ≡ true = number_told c.args.keys.now.keys c.in_ok-n.n _ _ _ c.in_ok-insert.ensures.added c.if-not-branch.false (search rules) in
    rw (c.in_ok-n.ensures, new) (search rules)
