use Rattle.std.proofs.Common.{◌≡◌, ℕ, ◌<◌, ◌≤◌, ◌-◌, false, length, slice_index}
use Rattle.rd_interpreter.specs.Texts.{is_brace}
use Rattle.rd_interpreter.proofs.template.first_brace.Given as goal

abbrev pub invariant-loop-place : goal.invariant-loop-place
invariant-loop-place l = (l.place ≤ length l.text) × ((i : ℕ) → i < l.place → is_brace (slice_index l.text i) ≡ false)

abbrev pub decreases-loop-place : goal.decreases-loop-place
decreases-loop-place l = length l.text - l.place
