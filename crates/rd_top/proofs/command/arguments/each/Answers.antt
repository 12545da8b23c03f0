use Rattle.std.proofs.Common.{◌<◌, ◌≤◌, length, string_bytes, arith}
use Rattle.rd_top.proofs.Given.{one_word, no_word, all_words}
use Rattle.rd_top.proofs.command.arguments.each.Goals as goal

pub returns-in-None : goal.returns-in-None
returns-in-None c =
    let lt : c.loop-word.word-index < length c.args.words.now = omega arith in
    let none = rw c.in-None.is at c.in_ok-argument.ensures in
    no_word string_bytes c.args.words.now c.loop-word.word-index c.word-item.result c.as_str.result.now lt c.word-item.is c.as_str.ensures.value none

pub loop-word-preserved : goal.loop-word-preserved
loop-word-preserved c =
    let lt : c.loop-word.word-index < length c.args.words.now = omega arith in
    let is = rw c.in-Some.is at c.in_ok-argument.ensures in
    rw c.in_ok-push-in-Some.ensures.ok
    (one_word string_bytes c.args.words.now c.loop-word.word-index c.word-item.result c.as_str.result.now lt c.word-item.is c.as_str.ensures.value c.loop-word.all c.in-Some.argument c.loop-word.invariant is)

pub returns : goal.returns
returns c =
    let le : length c.args.words.now ≤ c.loop-word.word-index = omega arith in
    all_words string_bytes c.args.words.now c.loop-word.word-index c.loop-word.all le c.loop-word.invariant
