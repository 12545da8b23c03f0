use Rattle.rd_value.specs.Model.{file_of}
use Rattle.rd_registry.proofs.Footprint.{same_answers, same_traces}
use Rattle.rd_registry.proofs.laws.footprint_is_enough.Goals as goal

pub returns : goal.returns
returns c = record { answer = λ m n k e h. same_answers file_of m n k e h; events = λ m n k e h. same_traces file_of m n k e h }
