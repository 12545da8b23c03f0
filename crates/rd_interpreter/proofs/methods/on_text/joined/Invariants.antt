use Rattle.std.proofs.Common.{◌≡◌, [], length, Some}
use denote.Text.{Utf8}
use denote.Shadow.{shadow}
use Rattle.rd_interpreter.specs.Methods.{led}
use Rattle.rd_interpreter.specs.Turns.{left}
use Rattle.rd_interpreter.proofs.methods.on_text.joined.Given as goal

abbrev pub invariant-loop-draft : goal.invariant-loop-draft
invariant-loop-draft l = shadow (Utf8 l.between) × (led l.between l.separator l.draft (left l.texts) ≡ led [] l.separator (Some []) (left l.initial.texts))

abbrev pub decreases-loop-draft : goal.decreases-loop-draft
decreases-loop-draft l = length (left l.texts)
