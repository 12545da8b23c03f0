use Rattle.std.proofs.Common.{rules, ◌≡◌, true, false, refl}
use Rattle.rd_bencode.specs.Values.{new_text, read_text_key}
use Rattle.rd_bencode.proofs.Keys.{text_told}
use Rattle.rd_bencode.proofs.read.value.text_key.Goals as goal

pub returns-then-not-branch-clause-gives : goal.returns-then-not-branch-clause-gives
unfolding read_text_key
returns-then-not-branch-clause-gives c =
    let old : new_text c.args.keys.now.keys c.in_ok-text.text ≡ false = text_told c.args.keys.now.keys c.in_ok-text.text _ _ _ c.in_ok-insert.ensures.added c.if-not-branch.true (search rules) in
    rw (c.in_ok-text.ensures, old) refl

pub returns-clause-gives : goal.returns-clause-gives
unfolding read_text_key
returns-clause-gives c =
    let new : new_text c.args.keys.now.keys c.in_ok-text.text ≡ true = text_told c.args.keys.now.keys c.in_ok-text.text _ _ _ c.in_ok-insert.ensures.added c.if-not-branch.false (search rules) in
    rw (c.in_ok-text.ensures, new) refl
