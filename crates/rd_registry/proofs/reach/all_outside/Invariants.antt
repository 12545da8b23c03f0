use Rattle.std.proofs.Common.{◌≡◌, [], ◌++◌, drop, map}
use Rattle.rd_names.specs.Names.{with_names}
use Rattle.rd_names.specs.Uses.{joined}
use Rattle.rd_registry.specs.Codes.{outside}
use Rattle.rd_registry.proofs.reach.all_outside.Given as goal

abbrev pub invariant-loop-helper : goal.invariant-loop-helper
invariant-loop-helper l = with_names l.names.keys (joined (map (λ h. outside h.block) (drop l.helper-index l.helpers))) ≡ with_names [] (outside l.block ++ joined (map (λ h. outside h.block) l.helpers))
