use denote.Param.Send.{sendable}
use Rattle.rd_body.proofs.Threads.{job_send}
use Rattle.rd_body.proofs.crossing.job_is_sent.Goals as goal

pub wants_sending-requires-send-T : goal.wants_sending-requires-send-T
wants_sending-requires-send-T c κs = search (job_send, sendable) depth 20
