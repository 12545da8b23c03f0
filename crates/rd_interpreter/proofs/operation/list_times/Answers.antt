use Rattle.std.proofs.Common.{rules, ◌≡◌, ◌<◌, length}
use Rattle.std.specs.List.{repeat}
use Rattle.rd_value.specs.Limits.{max_size}
use Rattle.rd_value.specs.Operators.{value_limit, times}
use Rattle.rd_interpreter.specs.Running.{state}
use Rattle.rd_interpreter.proofs.Operating.{too_many_items, raised_gives}
use Rattle.rd_interpreter.proofs.operation.list_times.Goals as goal

pub returns-in-None-clause-gives : goal.returns-in-None-clause-gives
returns-in-None-clause-gives c =
    let is : c.times.result ≡ times c.args.count = search (rules, c.times.ensures) in
    let many : max_size < length (repeat c.times.result c.args.items.now) = search rules in
    raised_gives c.value_limit.result value_limit (state c.args.frame.now) _ c.value_limit.ensures
    (too_many_items c.args.items.now c.args.count c.times.result (state c.args.frame.now) is many)
