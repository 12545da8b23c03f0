use Rattle.std.proofs.Common.{◌≡◌, ◌++◌, drop}
use Rattle.std.specs.Option.{option_map}
use Rattle.rd_value.specs.Make.{values_of}
use Rattle.rd_value.proofs.make.values_of.Given as goal

abbrev pub invariant-loop-part : goal.invariant-loop-part
invariant-loop-part l = option_map (λ rest. l.values ++ rest) (values_of (drop l.part-index l.parts)) ≡ values_of l.parts
