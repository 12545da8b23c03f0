-- The faults of an object in memory: those that it is to have, and those that it counted.
use Rattle.std.specs.Prelude.{ℕ, ◌+◌, min, Bool, ◌==◌, if◌then◌else◌, List, [], ◌∷◌, ◌++◌}
use Rattle.std.specs.List.{list_any}
use Rattle.rd_base.specs.Causes.{last_count}

pub record Planned : Type 0 where
  -- how many calls there were
  pub calls : ℕ
  -- the numbers of the calls that are to fail, the first call being 1
  pub failing : List ℕ
  -- how many faults there were
  pub count : ℕ

abbrev pub none_planned : Planned
none_planned = record { calls = 0; failing = []; count = 0 }

-- one more, where the type has one
abbrev pub one_more : ℕ → ℕ
one_more n = min (n + 1) last_count

-- with a fault more
abbrev pub with_fault : Planned → Planned
with_fault p = record p { count = one_more p.count }

-- whether the next call is to fail
abbrev pub fails_next : Planned → Bool
fails_next p = list_any (λ n. n == one_more p.calls) p.failing

-- with a call more
abbrev pub with_call : Planned → Planned
with_call p = record p { calls = one_more p.calls }

-- with a call more, and its fault where it is to fail
abbrev pub after_call : Planned → Planned
after_call p = if fails_next p then with_fault (with_call p) else with_call p

-- with a call more that is to fail
abbrev pub failing_at : Planned → ℕ → Planned
failing_at p number = record p { failing = p.failing ++ number ∷ [] }
