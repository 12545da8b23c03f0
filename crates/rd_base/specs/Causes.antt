-- When an object of the outside may answer a fault.
use Rattle.std.specs.Prelude.{◌≡◌, ℕ, ◌<◌, ◌-◌, ◌^◌, ◌⊎◌}

-- the last number that a count of faults reaches
abbrev pub last_count : ℕ
last_count = 2 ^ 64 - 1

-- the count of faults rose in a call, or stands at the end of its type
abbrev pub Rose : ℕ → ℕ → Type 0
Rose old new = (old < new) ⊎ (new ≡ last_count)
