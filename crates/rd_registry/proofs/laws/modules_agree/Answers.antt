use Rattle.rd_value.specs.Model.{file_of}
use Rattle.rd_interpreter.specs.Running.{own}
use Rattle.rd_registry.proofs.ErasedModules.{body_with_files, signature_with_files}
use Rattle.rd_registry.proofs.laws.modules_agree.Goals as goal

pub returns : goal.returns
returns c = record { bodies = body_with_files file_of own; signatures = signature_with_files file_of }
