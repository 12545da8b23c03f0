use Rattle.std.proofs.Common.{◌≡◌, ◌++◌, drop}
use Rattle.rd_registry.specs.Codes.{outside_of}
use Rattle.rd_registry.proofs.reach.outside_of.Given as goal

abbrev pub invariant-loop-mention : goal.invariant-loop-mention
invariant-loop-mention l = l.texts.items ++ outside_of (drop l.mention-index l.mentions) ≡ outside_of l.mentions
