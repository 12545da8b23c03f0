use Rattle.std.proofs.Common.{sym, ◌∙◌}
use Rattle.rd_bencode.proofs.Frames.{framed_found, blob_only, not_item}
use Rattle.rd_bencode.proofs.form.unwrap_kind.Goals as goal

pub returns-in_err-kind-clause-only : goal.returns-in_err-kind-clause-only
returns-in_err-kind-clause-only c = rw c.from_residual.ensures (λ k s b. c.in_err-kind.ensures ∙ blob_only c.args.bytes.now k s b)

pub returns-then-is_item-clause-found : goal.returns-then-is_item-clause-found
returns-then-is_item-clause-found c = (framed_found c.args.bytes.now (c.in_ok-kind.kind, c.in_ok-kind.structure.now) (sym c.in_ok-kind.ensures), c.is_item.ensures.0 c.if-is_item.true)

pub returns-then-is_item-clause-only : goal.returns-then-is_item-clause-only
returns-then-is_item-clause-only c = λ k s b. c.in_ok-kind.ensures ∙ blob_only c.args.bytes.now k s b

pub returns-else-is_item-clause-only : goal.returns-else-is_item-clause-only
returns-else-is_item-clause-only c =
    λ k s b. absurd (not_item c.args.bytes.now c.in_ok-kind.kind k c.in_ok-kind.structure.now s c.in_ok-kind.ensures (λ i. let t = c.is_item.ensures.1 i in let f = c.if-is_item.false in cc) b)
