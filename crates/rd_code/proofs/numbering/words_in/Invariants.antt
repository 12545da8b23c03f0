use Rattle.std.proofs.Common.{◌≡◌, map, take}
use Rattle.rd_code.specs.Words.{word_from}
use Rattle.rd_code.proofs.numbering.words_in.Given as goal

abbrev pub invariant-loop-text : goal.invariant-loop-text
invariant-loop-text l = l.all.items ≡ map (word_from l.words) (take l.text-index l.texts)
