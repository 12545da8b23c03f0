use Rattle.std.proofs.Common.{◌≡◌, [], length, map, Some}
use denote.Text.{Utf8}
use denote.Shadow.{shadow}
use Rattle.rd_interpreter.specs.Builtins.{str}
use Rattle.rd_interpreter.specs.Draft.{all_added}
use Rattle.rd_interpreter.specs.Running.{own}
use Rattle.rd_interpreter.specs.Texts.{filled}
use Rattle.rd_interpreter.proofs.template.filled.Given as goal

abbrev pub invariant-loop-draft : goal.invariant-loop-draft
invariant-loop-draft l = shadow (Utf8 l.rest) × (all_added l.draft (filled l.rest (map (str own) l.left)) ≡ all_added (Some []) (filled l.template (map (str own) l.values)))

abbrev pub decreases-loop-draft : goal.decreases-loop-draft
decreases-loop-draft l = length l.rest
