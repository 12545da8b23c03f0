use Rattle.std.proofs.Common.{◌≡◌, ◌++◌, length, drop, map}
use Rattle.std.specs.Str.{chars}
use Rattle.rd_value.specs.Operators.{character}
use Rattle.rd_interpreter.proofs.builtins.items.characters.Given as goal

abbrev pub invariant-loop-c : goal.invariant-loop-c
invariant-loop-c l = l.all ++ map character (drop (length l.yielded) (chars l.text)) ≡ map character (chars l.text)
