use Rattle.std.proofs.Common.{map, take, string_bytes}
use Rattle.std.specs.List.{AllZip}
use Rattle.rd_top.specs.Command.{IsArgument}
use Rattle.rd_top.proofs.command.arguments.each.Given as goal

abbrev pub invariant-loop-word : goal.invariant-loop-word
invariant-loop-word l = AllZip IsArgument (take l.word-index (map string_bytes l.words)) l.all
