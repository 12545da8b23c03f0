use Rattle.std.proofs.Common.{rules, ◌≡◌, length, sym, ◌∙◌}
use borrow.Author.Tests.{tests}
use Rattle.rd_meaning.proofs.Repeating.{nothing_repeated}
use Rattle.rd_meaning.proofs.repeat.repeated.Goals as goal

pub returns-then-is_empty : goal.returns-then-is_empty
returns-then-is_empty c =
    let none : length c.args.items.now ≡ 0 = search (rules, tests, c.is_empty.ensures, c.if-is_empty.true) in
    c.new.ensures ∙ sym (nothing_repeated c.args.times c.args.items.now none)
