use Rattle.rd_structure.proofs.Layers.{bytes_if}
use Rattle.rd_structure.proofs.statement.+statements.Goals as goal

pub push_statement-returns-in-If : goal.push_statement-returns-in-If
push_statement-returns-in-If t c = rw (c.in-If.is, bytes_if, ← c.as_slice-in-If.ensures, ← c.as_slice-in-If-2.ensures) c.push_if.ensures
