use Rattle.std.proofs.Common.{◌≡◌, ◌≤◌, ℕ, List, drop}
use Rattle.std.specs.Option.{option_or}
use Rattle.std.specs.Str.{bytes_eq}
use Rattle.indexmap.specs.IndexMap.{get}
use Rattle.rd_code.specs.Numbering.{place_among}
use Rattle.rd_code.proofs.numbering.places.Given as goal

abbrev pub invariant-loop-helper : goal.invariant-loop-helper
invariant-loop-helper l = (l.place ≤ l.helper-index) × ((text : List ℕ) → option_or (get bytes_eq l.places text) (place_among l.place (drop l.helper-index l.helpers) text) ≡ place_among 0 l.helpers text)
