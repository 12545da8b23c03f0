use Rattle.std.proofs.Common.{◌≡◌, take}
use Rattle.std.specs.List.{IsDistinct}
use Rattle.std.specs.Str.{bytes_eq}
use Rattle.rd_top.specs.Command.{names_of}
use Rattle.rd_top.proofs.command.arguments.are_distinct.Given as goal

abbrev pub invariant-loop-name : goal.invariant-loop-name
invariant-loop-name l = (l.names.keys ≡ take l.name-index (names_of l.arguments)) × IsDistinct bytes_eq l.names.keys
