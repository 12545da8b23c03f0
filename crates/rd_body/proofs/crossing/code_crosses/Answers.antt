use Rattle.rd_body.proofs.Threads.{codes}
use Rattle.rd_body.proofs.crossing.code_crosses.Goals as goal

pub wants_crossing-requires-send-T : goal.wants_crossing-requires-send-T
wants_crossing-requires-send-T c κs = search codes depth 20

pub wants_crossing-requires-sync-T : goal.wants_crossing-requires-sync-T
wants_crossing-requires-sync-T c κs = search codes depth 20
