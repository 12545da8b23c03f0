use Rattle.std.proofs.Common.{◌<◌, length, arith}
use Rattle.std.specs.Prelude.{option_copied}
use Rattle.rd_names.proofs.Doubles.{tasks_on}
use Rattle.rd_names.proofs.names.note_tasks.Goals as goal

pub loop-function-preserved : goal.loop-function-preserved
loop-function-preserved c =
    let lt : c.loop-function.function-index < length c.args.functions.now = omega arith in
    tasks_on (option_copied c.args.space) c.args.functions.now c.loop-function.function-index c.function-item.result c.loop-function.seen.keys c.note_task.new.seen.keys c.loop-function.all.items c.note_task.new.all.items _ lt c.function-item.is
    c.in_ok-note_task.ensures.seen c.in_ok-note_task.ensures.all c.loop-function.invariant
