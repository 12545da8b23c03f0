use Rattle.std.proofs.Common.{◌-◌, length}
use Rattle.std.specs.Map.{keys_of}
use Rattle.rd_registry.specs.Functions.{helper_in}
use Rattle.rd_registry.proofs.Reaching.{Reaching}
use Rattle.rd_registry.proofs.reach.reached.Given as goal

abbrev pub invariant-loop-place : goal.invariant-loop-place
invariant-loop-place l = Reaching (helper_in l.functions) l.block l.names.keys l.place

-- there are no more names than functions
abbrev pub decreases-loop-place : goal.decreases-loop-place
decreases-loop-place l = length (keys_of l.functions.entries) - l.place
