use Rattle.std.proofs.Common.{rules, lit<}
use Rattle.std.proofs.lemmas.Iterator.Search.{all_from_yields_List}
use Rattle.std.proofs.lemmas.Iterator.Splits.{YieldsList-from_str_split}
use Rattle.rd_names.specs.Spelling as spec
use Rattle.rd_names.proofs.spelling.is_dotted.Goals as goal

pub returns : goal.returns
returns c = all_from_yields_List spec.is_name _ _ _ c.all.ensures.ran
    (YieldsList-from_str_split 46 c.args.text.now (lit< tt) c.split.ensures.text c.split.ensures.has_more c.split.ensures.pattern)
    (λ x b q h. search rules)
