use Rattle.std.proofs.Common.{◌∙◌, sym}
use Rattle.std.specs.Str.{bytes_eq}
use Rattle.indexmap.specs.IndexMap.{get}
use Rattle.rd_code.proofs.PutFirsts.{first_put}
use Rattle.rd_code.proofs.firsts.put_first.Goals as goal

pub returns : goal.returns
returns g c = first_put (get bytes_eq c.args.map.now) c.args.text c.args.value (sym c.contains_key.ensures ∙ c.if-contains_key.false) (get bytes_eq c.insert.new.self) c.in_ok-insert.ensures.updates.0
