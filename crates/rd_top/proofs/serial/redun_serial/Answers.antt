use Rattle.std.proofs.Common.{List, ℕ, map, string_bytes, subst}
use Rattle.rd_base.specs.Causes.{Rose}
use Rattle.rd_top.specs.Answered.{Written, Answered}
use Rattle.rd_top.proofs.Answering.{printed, complete, same_disk}
use Rattle.rd_top.proofs.serial.redun_serial.Goals as goal

-- what was printed, as the text that was written
answered : (g : _) (c : goal.After-drop-line g) → Answered (map string_bytes c.args.words.now) (g.D.Disk.files c.args.disk.now) c.end.result (g.S.Sink.written c.args.out.now) (g.S.Sink.written c.end.new.out)
answered g c = (
  c.in-Ok.status,
  _,
  c.in-Ok.ensures.answered,
  subst (λ (text : List ℕ). Written c.in-Ok.status text c.end.result (g.S.Sink.written c.args.out.now) (g.S.Sink.written c.end.new.out)) c.as_str.ensures.value c.end.ensures.written,
)

pub returns-in-Ok-clause-printed_is_fresh : goal.returns-in-Ok-clause-printed_is_fresh
returns-in-Ok-clause-printed_is_fresh g c = printed _ _ _ _ c.end.result (answered g c)

pub returns-in-Ok-clause-complete : goal.returns-in-Ok-clause-complete
returns-in-Ok-clause-complete g c =
    complete _ _ _ _ (Rose (g.D.Disk.faults c.args.disk.now) (g.D.Disk.faults c.answer.new.disk)) (Rose (g.S.Sink.faults c.args.out.now) (g.S.Sink.faults c.end.new.out)) c.end.result
    (λ is. c.in-Ok.ensures.cause (same_disk c.in-Ok.status c.end.result c.as_str.result.now (g.S.Sink.written c.args.out.now) (g.S.Sink.written c.end.new.out) c.end.ensures.written is)) (λ is. c.end.ensures.cause is c.in-Ok.ensures.never_output) (answered g c)
