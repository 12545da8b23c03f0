-- What a module is refused for.
use Rattle.std.specs.Prelude.{◌≡◌, ◌⊎◌, ◌<◌, ℕ, Bool, ◌||◌, ◌&&◌, if◌then◌else◌, List, [], ◌∷◌, Option, None, Some, nat_lt, nat_eq}
use Rattle.std.specs.List.{All, Contains}
use Rattle.rd_names.specs.declared.refusal.Broken.{Broken}
use Rattle.rd_names.specs.declared.refusal.Broken.TheVariants as b
use Rattle.rd_names.specs.declared.refusal.Refusal.{Refusal}
use Rattle.rd_names.specs.declared.refusal.RegisterError.{RegisterError}
use Rattle.rd_names.specs.declared.refusal.RegisterError.TheVariants as e

-- the place of a rule on one line
abbrev pub rank : Broken → ℕ
rank b.DoubleName = 0
rank b.BadOption = 1
rank b.UnknownName = 2

-- one refusal comes before another
abbrev pub Before : Refusal → Refusal → Type 0
Before r s = (r.line < s.line) ⊎ ((r.line ≡ s.line) × (rank r.rule < rank s.rule))

-- the refusal that is answered: none of the list comes before it
abbrev pub IsFirst : Refusal → List Refusal → Type 0
IsFirst r rs = Contains rs r × All (λ s. ¬ Before s r) rs

-- the answer for a refusal
abbrev pub error : Refusal → RegisterError
error r = error_of r.rule r.line where
  error_of : Broken → ℕ → RegisterError
  error_of b.DoubleName line = e.DoubleName line
  error_of b.BadOption line = e.BadOption line
  error_of b.UnknownName line = e.UnknownName line

-- the refusal that an answer tells, which want of memory doesn't
abbrev pub told : RegisterError → Option Refusal
told (e.UnknownName line) = Some (record { rule = b.UnknownName; line = line })
told (e.DoubleName line) = Some (record { rule = b.DoubleName; line = line })
told (e.BadOption line) = Some (record { rule = b.BadOption; line = line })
told e.OutOfMemory = None

-- ---- as a test

abbrev pub is_before : Refusal → Refusal → Bool
is_before r s = nat_lt r.line s.line || (nat_eq r.line s.line && nat_lt (rank r.rule) (rank s.rule))

-- the first of what was found and another
abbrev pub sooner : Option Refusal → Refusal → Option Refusal
sooner None r = Some r
sooner (Some f) r = if is_before r f then Some r else Some f

-- the first of what was found and a list
abbrev pub soonest : Option Refusal → List Refusal → Option Refusal
soonest found [] = found
soonest found (r ∷ rs) = soonest (sooner found r) rs
