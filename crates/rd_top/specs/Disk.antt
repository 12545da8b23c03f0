-- What a read finds.
use Rattle.std.specs.Prelude.{◌≡◌, ℕ, List, length, nat_le, if◌then◌else◌, IfOk, IfSome, None, Some}
use Rattle.std.specs.declared.option.Option.{Option}
use Rattle.std.specs.declared.result.Result.{Result}
use Rattle.std.specs.FinMap.{get}
use Rattle.rd_top.specs.Files.{Files}
use Rattle.rd_top.specs.declared.disk.Found.{Found}
use Rattle.rd_top.specs.declared.disk.Found.TheVariants.{Absent, Long, Bytes}
use Rattle.rd_top.specs.declared.disk.DiskError.{DiskError}

-- the greatest number of bytes of a file that is read
abbrev pub longest : ℕ
longest = 16777216

-- what stands at a path is found whole, unless it is longer
abbrev pub found : Option (List ℕ) → Found
found None = Absent
found (Some bytes) = if nat_le (length bytes) longest then Bytes bytes else Long

abbrev pub found_at : Files → List ℕ → Found
found_at files path = found (get files path)

-- where the disk tells its files, a read that does not fail finds what they have at the path
abbrev pub Finds : Option Files → List ℕ → Result Found DiskError → Type 0
Finds told path result = IfOk result (λ f. IfSome told (λ files. f ≡ found_at files path))
