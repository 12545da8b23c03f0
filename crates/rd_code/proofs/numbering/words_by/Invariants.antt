use Rattle.std.proofs.Common.{◌≡◌, ℕ, List, drop}
use Rattle.std.specs.Option.{option_map, option_or}
use Rattle.std.specs.Str.{bytes_eq}
use Rattle.indexmap.specs.IndexMap.{get}
use Rattle.rd_code.specs.Numbering.{use_among, word_by}
use Rattle.rd_code.proofs.numbering.words_by.Given as goal

abbrev pub invariant-loop-named : goal.invariant-loop-named
invariant-loop-named l =
    (text : List ℕ) → option_or (get bytes_eq l.words text) (option_map (word_by (get bytes_eq l.places)) (use_among (drop l.named-index l.uses) text)) ≡ option_map (word_by (get bytes_eq l.places)) (use_among l.uses text)
