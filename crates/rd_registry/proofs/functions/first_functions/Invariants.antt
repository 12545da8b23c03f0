use Rattle.std.proofs.Common.{◌≡◌, ◌≤◌, ℕ, List, drop}
use Rattle.std.specs.Option.{option_or, option_copied}
use Rattle.std.specs.Str.{bytes_eq}
use Rattle.indexmap.specs.IndexMap.{get}
use Rattle.rd_registry.specs.Functions.{found_among}
use Rattle.rd_registry.proofs.functions.first_functions.Given as goal

abbrev pub invariant-loop-function : goal.invariant-loop-function
invariant-loop-function l = (l.helpers ≤ l.function-index) × (
    (text : List ℕ) → option_or (get bytes_eq l.all text) (found_among (option_copied l.space) l.helpers (drop l.function-index l.functions) text) ≡ found_among (option_copied l.space) 0 l.functions text
    )
