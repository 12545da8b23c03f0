use Rattle.rd_structure.proofs.FreeStructures.{structures_apart}
use Rattle.rd_structure.proofs.laws.one_structure.Goals as goal

pub returns : goal.returns
returns c = record { parts = structures_apart }
