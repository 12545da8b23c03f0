-- What a map of words knows of a name.
use Rattle.std.specs.Prelude.{ℕ, List}
use Rattle.std.specs.Str.{bytes_eq}
use Rattle.indexmap.specs.IndexMap.{IndexMap, get}
use Rattle.rd_routine.specs.declared.routine.Word.{Word}
use Rattle.rd_code.specs.Numbering.{word_or}

abbrev pub word_from : {S : Type 0} → IndexMap (List ℕ) Word S → List ℕ → Word
word_from words text = word_or text (get bytes_eq words text)
