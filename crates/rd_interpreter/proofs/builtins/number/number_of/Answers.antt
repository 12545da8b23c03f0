use Rattle.std.proofs.Common.{◌+◌, ◌∙◌, sym, drop, rules}
use Rattle.std.proofs.lemmas.List.{drop_more}
use Rattle.rd_value.proofs.Walks.{none_left}
use Rattle.rd_interpreter.proofs.Numbers.{one_digit, all_digits}
use Rattle.rd_interpreter.proofs.builtins.number.number_of.Goals as goal

pub loop-byte-preserved : goal.loop-byte-preserved
loop-byte-preserved c =
    (one_digit (drop c.loop-byte.byte-index c.args.bytes.now) (drop (c.loop-byte.byte-index + 1) c.args.bytes.now) _ c.in-Some.more c.loop-byte.number _ _ (drop_more c.args.bytes.now c.loop-byte.byte-index 0 (search rules)) (sym c.digit.ensures ∙ c.in-Some.is) (search rules) c.loop-byte.invariant.0, search rules)

pub returns : goal.returns
returns c =
    all_digits (drop c.loop-byte.byte-index c.args.bytes.now) c.loop-byte.number _ (none_left c.args.bytes.now c.loop-byte.byte-index c.loop-byte-test.false) c.loop-byte.invariant.1 c.loop-byte.invariant.0
