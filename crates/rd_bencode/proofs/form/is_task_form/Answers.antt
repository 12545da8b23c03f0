use Rattle.rd_bencode.proofs.Frames.{no_name}
use Rattle.rd_bencode.proofs.form.is_task_form.Goals as goal

pub returns-in-None : goal.returns-in-None
returns-in-None c = (λ h. absurd cc, λ t. absurd (no_name c.args.structure.now c.in-None.ensures.only t))
