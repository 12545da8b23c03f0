-- The files of a disk.
use Rattle.std.specs.Prelude.{ℕ, List, refl}
use Rattle.std.specs.Ordering.{nat_cmp}
use Rattle.std.specs.Cmp.Lexicographic.{slice_cmp}
use Rattle.std.specs.FinMap.{FinMap, code, from_entries}
use Rattle.std.specs.Coded.{Coded, code_by, coded×, coded_ℕ, coded_list}
use Rattle.rd_base.specs.Faults.{Planned}

-- from the bytes of a path to those of the file there
abbrev pub Files : Type 0
Files = FinMap (slice_cmp nat_cmp) (List ℕ)

-- the files that these entries make
abbrev pub files_of : List (List ℕ × List ℕ) → Files
files_of entries = from_entries entries

-- a disk in memory
pub record Kept : Type 0 where
  pub files : Files
  pub faults : Planned

abbrev pub coded_files : Coded Files
coded_files = code (coded_list coded_ℕ) (coded_list coded_ℕ)

-- planned faults, stored as the tuple of their fields
abbrev pub coded_planned : Coded Planned
coded_planned =
    code_by (ℕ × (List ℕ × ℕ)) (coded× coded_ℕ (coded× (coded_list coded_ℕ) coded_ℕ)) (λ p. (p.calls, (p.failing, p.count))) (λ t. record { calls = t.0; failing = t.1.0; count = t.1.1 }) (λ _. refl)

abbrev pub coded_kept : Coded Kept
coded_kept = code_by (Files × Planned) (coded× coded_files coded_planned) (λ k. (k.files, k.faults)) (λ p. record { files = p.0; faults = p.1 }) (λ _. refl)
