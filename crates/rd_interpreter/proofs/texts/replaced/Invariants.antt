use Rattle.std.proofs.Common.{◌≡◌, [], length, Some}
use denote.Text.{Utf8}
use denote.Shadow.{shadow}
use Rattle.rd_interpreter.specs.Draft.{added}
use Rattle.rd_interpreter.specs.Texts.{replaced}
use Rattle.rd_interpreter.proofs.texts.replaced.Given as goal

abbrev pub invariant-loop-piece : goal.invariant-loop-piece
invariant-loop-piece l = shadow (Utf8 l.rest) × (added l.draft (replaced l.old l.new l.rest) ≡ added (Some []) (replaced l.old l.new l.text))

abbrev pub decreases-loop-piece : goal.decreases-loop-piece
decreases-loop-piece l = length l.rest
