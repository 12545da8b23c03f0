use Rattle.rd_bencode.proofs.Closing.{whole_item, no_whole_item}
use Rattle.rd_bencode.proofs.form.is_item.Goals as goal

pub returns-in-Some : goal.returns-in-Some
returns-in-Some c = rw c.is_empty.ensures (whole_item c.args.spelling c.args.bytes.now c.in-Some.rest.now c.in-Some.ensures.found c.in-Some.ensures.only)

pub returns-in-None : goal.returns-in-None
returns-in-None c = (λ h. absurd cc, λ i. absurd (no_whole_item c.args.spelling c.args.bytes.now c.in-None.ensures.only i))
