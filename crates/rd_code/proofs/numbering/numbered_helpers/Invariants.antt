use Rattle.std.proofs.Common.{◌≡◌, map, take}
use Rattle.rd_code.specs.Numbering.{numbered_helper}
use Rattle.rd_code.specs.Words.{word_from}
use Rattle.rd_code.proofs.numbering.numbered_helpers.Given as goal

abbrev pub invariant-loop-helper : goal.invariant-loop-helper
invariant-loop-helper l = l.all.items ≡ map (numbered_helper (word_from l.words)) (take l.helper-index l.helpers)
