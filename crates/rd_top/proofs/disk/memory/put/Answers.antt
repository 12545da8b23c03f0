use Rattle.rd_top.proofs.Paths.{put_path}
use Rattle.rd_top.proofs.disk.memory.put.Goals as goal

pub returns-clause-ok : goal.returns-clause-ok
returns-clause-ok c = rw (← c.in_ok-path.ensures, ← c.in_ok-bytes.ensures) (put_path c.args.contents.now.entries c.insert.new.self.entries _ _ c.in_ok-insert.ensures.updates.0)
