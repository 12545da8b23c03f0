use Rattle.std.proofs.Common.{◌≡◌, ◌++◌, length, drop, string_bytes}
use Rattle.std.specs.Str.{chars}
use Rattle.rd_value.specs.Repr.{escaped_all}
use Rattle.rd_value.proofs.repr.push_quoted.Given as goal

abbrev pub invariant-loop-c : goal.invariant-loop-c
invariant-loop-c l = string_bytes l.out ++ escaped_all l.quote (drop (length l.yielded) (chars l.text)) ≡ string_bytes l.initial.out ++ escaped_all l.quote (chars l.text)
