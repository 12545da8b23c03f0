use denote.Param.Send.{sendable}
use Rattle.rd_body.proofs.Threads.{finished_send}
use Rattle.rd_body.proofs.crossing.finished_is_sent.Goals as goal

pub wants_sending-requires-send-T : goal.wants_sending-requires-send-T
wants_sending-requires-send-T c κs = search (finished_send, sendable) depth 20
