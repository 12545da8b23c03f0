use Rattle.std.proofs.Common.{◌<◌, length, arith}
use Rattle.rd_names.specs.Names.{with_names, own_task}
use Rattle.rd_names.proofs.NameSets.{with_both}
use Rattle.rd_names.proofs.Walking.{goes_on}
use Rattle.rd_names.proofs.known.own_tasks.Goals as goal

pub loop-function-preserved : goal.loop-function-preserved
loop-function-preserved c =
    let lt : c.loop-function.function-index < length c.args.functions.now = omega arith in
    goes_on with_names with_both own_task c.args.functions.now c.loop-function.function-index c.function-item.result c.loop-function.tasks.keys c.add_own_task.new.tasks.keys _ lt c.function-item.is c.in_ok-add_own_task.ensures c.loop-function.invariant
