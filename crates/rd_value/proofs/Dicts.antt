-- Dicts whose keys are Int or Text, each once.
use Rattle.std.proofs.Common.{ℕ, List, [], arith}
use Rattle.std.specs.List.{IsDistinct}
use Rattle.rd_value.specs.declared.value.FileValue.{FileValue}
use Rattle.rd_value.specs.declared.value.Datum.{Datum}
use Rattle.rd_value.specs.Make.{IsDict}

pub empty_dict : {F V : Type 0} (file : F → FileValue) → IsDict file {V = V} []
unfolding IsDistinct
empty_dict file = record { keys = λ k d h. absurd (omega (arith, h)); once = tt }
