-- What is written to a sink.
use Rattle.std.specs.Prelude.{ℕ, ◌<◌, ◌≤◌, Bool, if◌then◌else◌, min, List, ◌++◌, length}
use Rattle.std.specs.declared.option.Option.{Option}
use Rattle.std.specs.Option.{option_map}
use Rattle.rd_base.specs.Faults.{Planned}

-- what a sink tells once these bytes were added; one that tells nothing goes on so
abbrev pub added : Option (List ℕ) → List ℕ → Option (List ℕ)
added told bytes = option_map (λ before. before ++ bytes) told

-- so many bytes of a piece: none past its end, and at least one of a piece that has one
pub record IsFront (piece : List ℕ) (n : ℕ) : Type 0 where
  pub within : n ≤ length piece
  pub some : 0 < length piece → 0 < n

-- a sink in memory
pub record Kept : Type 0 where
  pub bytes : List ℕ
  -- whether each write takes one byte
  pub narrow : Bool
  pub faults : Planned

-- how many bytes of a piece one write takes
abbrev pub taken : Bool → List ℕ → ℕ
taken narrow piece = if narrow then min 1 (length piece) else length piece
