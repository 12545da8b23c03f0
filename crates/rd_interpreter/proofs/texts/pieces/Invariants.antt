use Rattle.std.proofs.Common.{◌≡◌, ◌++◌, length, map}
use denote.Text.{Utf8}
use denote.Shadow.{shadow}
use Rattle.rd_value.specs.declared.value.Datum.TheVariants as value
use Rattle.rd_interpreter.specs.Texts as spec
use Rattle.rd_interpreter.proofs.texts.pieces.Given as goal

abbrev pub invariant-loop-piece : goal.invariant-loop-piece
invariant-loop-piece l = shadow (Utf8 l.rest) × (l.pieces ++ map value.Text (spec.pieces l.separator l.rest) ≡ map value.Text (spec.pieces l.separator l.text))

abbrev pub decreases-loop-piece : goal.decreases-loop-piece
decreases-loop-piece l = length l.rest
