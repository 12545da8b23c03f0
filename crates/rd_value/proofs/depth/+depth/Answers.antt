use Rattle.std.proofs.Common.{arith}
use Rattle.rd_value.proofs.Layers.{depth_dict}
use Rattle.rd_value.proofs.depth.+depth.Goals as goal

pub Value::depth-returns-in-Dict : goal.Value::depth-returns-in-Dict
Value::depth-returns-in-Dict t c = rw (c.in-Dict.is, depth_dict, ← c.as_slice-in-Dict.ensures) (omega arith)
