use Rattle.rd_bencode.specs.Whole.{value_of}
use Rattle.rd_bencode.proofs.Whole.{value_found, value_only, told_ok, told_halt, never_both}
use Rattle.rd_bencode.proofs.read.value.read_value.Goals as goal

pub returns-in-Ok-clause-found : goal.returns-in-Ok-clause-found
returns-in-Ok-clause-found c = (value_found c.args.bytes.now c.in-Ok.value c.in-Ok.ensures).0

pub returns-in-Ok-clause-within : goal.returns-in-Ok-clause-within
returns-in-Ok-clause-within c = let f = value_found c.args.bytes.now c.in-Ok.value c.in-Ok.ensures in (f.1, f.2)

pub returns-in-Ok-clause-only : goal.returns-in-Ok-clause-only
returns-in-Ok-clause-only c = λ v proper within is. told_ok (value_of c.args.bytes.now) c.in-Ok.value v c.in-Ok.ensures (value_only c.args.bytes.now v proper within is)

pub returns-in-Err-Refused-clause-only : goal.returns-in-Err-Refused-clause-only
returns-in-Err-Refused-clause-only c = λ v proper within is.
    told_halt (value_of c.args.bytes.now) c.in-Err-Refused.field-0 _ c.refusal.result v c.in-Err-Refused.field-0-is c.in-Err-Refused.ensures (never_both (value_of c.args.bytes.now) c.in-Err-Refused.left.now v) (value_only c.args.bytes.now v proper within is)
