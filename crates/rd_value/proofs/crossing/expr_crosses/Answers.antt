use Rattle.rd_value.proofs.Threads.{crossings}
use Rattle.rd_value.proofs.crossing.expr_crosses.Goals as goal

pub wants_crossing-requires-send-T : goal.wants_crossing-requires-send-T
wants_crossing-requires-send-T c κs = search crossings depth 20

pub wants_crossing-requires-sync-T : goal.wants_crossing-requires-sync-T
wants_crossing-requires-sync-T c κs = search crossings depth 20
