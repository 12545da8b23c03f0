use Rattle.rd_interpreter.proofs.Drafts.{replaced_turn, replaced_last}
use Rattle.rd_interpreter.proofs.texts.replaced.Goals as goal

pub loop-piece-preserved : goal.loop-piece-preserved
loop-piece-preserved c = replaced_turn _ _ _ _ _ _ _ _ _ c.requires c.loop-piece.invariant.0 c.in-Some.ensures.cases c.in_ok-push.ensures c.in_ok-push-2.ensures c.loop-piece.invariant.1

pub returns : goal.returns
returns c = replaced_last _ _ _ _ _ _ c.in_default.ensures.cases c.in_ok-push-3.ensures c.loop-piece.invariant.1
