use Rattle.std.proofs.Common.{◌≡◌, ◌++◌, [], drop}
use Rattle.rd_names.specs.Names.{doubles}
use Rattle.rd_names.specs.Uses.{keyword_names}
use Rattle.rd_names.proofs.uses.note_keywords.Given as goal

abbrev pub invariant-loop-keyword : goal.invariant-loop-keyword
invariant-loop-keyword l = l.all.items ++ doubles l.seen.keys (keyword_names (drop l.keyword-index l.keywords)) ≡ l.fn.all.items ++ doubles [] (keyword_names l.keywords)
