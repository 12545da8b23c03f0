use Rattle.std.proofs.Common.{ℕ, ◌≤◌, List, take, drop, length, ap, subst, ◌∙◌, arith}
use Rattle.std.proofs.lemmas.List.{take_rest, length-drop}
use Rattle.rd_base.specs.Sink.{added}
use Rattle.rd_top.proofs.Pieces.{added_more}
use Rattle.rd_top.proofs.print.print.Goals as goal

pub loop-done-preserved : goal.loop-done-preserved
loop-done-preserved g c =
    let bytes = c.as_bytes-bytes.result.now in
    let done = c.loop-done.done in
    let n = c.in_ok-done.field-0 in
    let kept = c.loop-done.invariant in
    let rest = take_rest bytes done in
    let within : n ≤ length (drop done bytes) = subst (λ (xs : List ℕ). n ≤ length xs) rest c.in_ok-done.ensures.front.within in (
      omega (arith, within, kept.0, length-drop done bytes),
      c.in_ok-done.ensures.ok ∙ ap (λ xs. added (g.S.Sink.written c.loop-done.out) (take n xs)) rest ∙ ap (λ o. added o (take n (drop done bytes))) kept.1 ∙ added_more (g.S.Sink.written c.args.out.now) done n bytes,
      omega (arith, kept.2, c.write.ensures.never_falls),
    )
