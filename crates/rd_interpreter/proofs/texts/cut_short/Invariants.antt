use Rattle.std.proofs.Common.{◌≡◌, length, reverse}
use denote.Text.{Utf8}
use denote.Shadow.{shadow}
use Rattle.rd_interpreter.specs.Texts as spec
use Rattle.rd_interpreter.proofs.texts.cut_short.Given as goal

abbrev pub invariant-loop-rest : goal.invariant-loop-rest
invariant-loop-rest l = shadow (Utf8 l.rest) × (spec.skipped spec.is_space (reverse l.rest) ≡ spec.skipped spec.is_space (reverse l.text))

abbrev pub decreases-loop-rest : goal.decreases-loop-rest
decreases-loop-rest l = length l.rest
