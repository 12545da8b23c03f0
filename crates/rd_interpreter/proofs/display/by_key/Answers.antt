use Rattle.std.proofs.Common.{◌+◌, [], drop}
use Rattle.rd_value.proofs.Walks.{item_first}
use Rattle.rd_value.proofs.Deciding.{value_same, value_decides}
use Rattle.rd_interpreter.specs.Body.{with_pairs}
use Rattle.rd_interpreter.specs.Running.{own}
use Rattle.rd_interpreter.proofs.Displays.{goes_on}
use Rattle.rd_interpreter.proofs.display.by_key.Goals as goal

pub loop-shown-preserved : goal.loop-shown-preserved
loop-shown-preserved c =
    let i = c.loop-shown.shown-index in
    let pairs = c.args.pairs.now in
    let p = c.loop-shown-item.result in
    let first = item_first pairs i p c.loop-shown-test.true c.loop-shown-item.is in
    goes_on value_same value_decides (drop i pairs) (drop (i + 1) pairs) (p.0, c.in_ok-copy.field-0) c.loop-shown.entries.entries (with_pairs own pairs []) (rw c.in_ok-copy.ensures first) c.loop-shown.invariant
    c.insert.new.self.entries c.in_ok-key.key c.in_ok-key.ensures.answer c.in_ok-key.ensures.kind c.in_ok-insert.ensures.entries
