use Rattle.rd_value.specs.Model.{file_of}
use Rattle.rd_interpreter.specs.Running.{own}
use Rattle.rd_body.proofs.ErasedCodes.{code_with_files}
use Rattle.rd_body.proofs.laws.codes_agree.Goals as goal

pub returns : goal.returns
returns c code = code_with_files file_of code.helpers code.names own code.signature.parameters code.body
