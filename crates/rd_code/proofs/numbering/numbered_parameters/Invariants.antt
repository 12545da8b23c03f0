use Rattle.std.proofs.Common.{◌≡◌, map, take}
use Rattle.rd_code.specs.Numbering.{numbered_parameter}
use Rattle.rd_code.proofs.numbering.numbered_parameters.Given as goal

abbrev pub invariant-loop-parameter : goal.invariant-loop-parameter
invariant-loop-parameter l = l.all.items ≡ map (numbered_parameter l.texts.keys) (take l.parameter-index l.parameters)
