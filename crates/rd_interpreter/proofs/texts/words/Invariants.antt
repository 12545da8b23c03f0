use Rattle.std.proofs.Common.{length, ◌-◌, ◌≡◌, ◌++◌, ◌≤◌, map, drop, slice_range, IsCharBoundary}
use Rattle.rd_value.specs.declared.value.Datum.TheVariants as value
use Rattle.rd_interpreter.specs.Texts as spec
use Rattle.rd_interpreter.proofs.texts.words.Given as goal

abbrev pub invariant-loop-place : goal.invariant-loop-place
invariant-loop-place l =
    (l.begun ≤ l.place) × (l.place ≤ length l.text) × IsCharBoundary l.text l.begun
    × (l.words ++ map value.Text (spec.words_from (slice_range l.text l.begun l.place) (drop l.place l.text)) ≡ map value.Text (spec.words l.text))

abbrev pub decreases-loop-place : goal.decreases-loop-place
decreases-loop-place l = length l.text - l.place
