use Rattle.rd_value.specs.Model.{file_of}
use Rattle.rd_interpreter.specs.Running.{own}
use Rattle.rd_body.proofs.ErasedBodies.{whole_with_files}
use Rattle.rd_body.proofs.laws.bodies_agree.Goals as goal

pub returns : goal.returns
returns g c = whole_with_files file_of own
