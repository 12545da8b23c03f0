use Rattle.rd_registry.proofs.Structures.{has_structure, one_structure}
use Rattle.rd_registry.proofs.laws.one_structure.Goals as goal

pub returns : goal.returns
returns c = record { is = has_structure; one = one_structure }
