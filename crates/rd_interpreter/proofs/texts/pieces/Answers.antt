use Rattle.rd_value.specs.declared.value.Datum.TheVariants as value
use Rattle.rd_interpreter.proofs.TextPieces.{pieces_turn, pieces_last}
use Rattle.rd_interpreter.proofs.texts.pieces.Goals as goal

pub loop-piece-preserved : goal.loop-piece-preserved
loop-piece-preserved c = pieces_turn value.Text _ _ _ _ _ _ _ c.requires c.loop-piece.invariant.0 c.in-Some.ensures.cases c.in_ok-push_text.ensures c.loop-piece.invariant.1

pub returns : goal.returns
returns c = pieces_last value.Text _ _ _ _ _ c.in_default.ensures.cases c.in_ok-push_text-2.ensures c.loop-piece.invariant.1
