use Rattle.std.proofs.Common.{◌≡◌, ◌++◌, drop}
use Rattle.std.specs.Option.{option_map}
use Rattle.rd_value.specs.Make.{pairs_of}
use Rattle.rd_value.proofs.make.pairs_of.Given as goal

abbrev pub invariant-loop-key : goal.invariant-loop-key
invariant-loop-key l = option_map (λ rest. l.pairs ++ rest) (pairs_of (drop l.key-index l.parts)) ≡ pairs_of l.parts
