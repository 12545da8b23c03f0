use Rattle.std.proofs.Common.{◌≡◌, take}
use Rattle.rd_interpreter.specs.Binding.{names_of}
use Rattle.rd_interpreter.proofs.binding.name_set.Given as goal

abbrev pub invariant-loop-argument : goal.invariant-loop-argument
invariant-loop-argument l = l.names.keys ≡ names_of (take l.argument-index l.arguments)
