use Rattle.rd_value.specs.Model.{file_of}
use Rattle.rd_registry.proofs.Deeper.{same_answer, same_events}
use Rattle.rd_registry.proofs.laws.deeper_is_the_same.Goals as goal

pub returns : goal.returns
returns c = record { answer = λ m e n k l h. same_answer file_of m n k l e h; events = λ m e n k l h. same_events file_of m n k l e h }
