use Rattle.rd_value.specs.Model.{file_of}
use Rattle.rd_interpreter.specs.Running.{own}
use Rattle.rd_registry.proofs.Structures.{same_bodies, same_signatures}
use Rattle.rd_registry.proofs.laws.equal_structures_mean_the_same.Goals as goal

pub returns : goal.returns
returns c = record {
  signatures = same_signatures;
  bodies = λ m n f g s u lawful small v. same_bodies m n f g s u lawful small v own;
  model_bodies = λ m n f g s u lawful small v. same_bodies m n f g s u lawful small v file_of;
}
