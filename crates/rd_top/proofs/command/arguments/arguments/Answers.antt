use Rattle.std.proofs.Common.{map, string_bytes}
use Rattle.rd_top.proofs.Given.{not_given}
use Rattle.rd_top.proofs.command.arguments.arguments.Goals as goal

pub returns-else-branch : goal.returns-else-branch
returns-else-branch c = λ given h.
    let zip = rw c.in-Some.is at c.in_ok-all.ensures in
    not_given (map string_bytes c.args.words.now) c.in-Some.all given c.as_slice.result.now c.in_ok-are_distinct.field-0 zip c.as_slice.ensures c.in_ok-are_distinct.ensures c.if-branch.false h
