use Rattle.std.proofs.Common.{◌∙◌, sym}
use Rattle.std.specs.Str.{bytes_eq}
use Rattle.rd_code.proofs.Places.{no_place}
use Rattle.rd_code.proofs.numbering.place.Goals as goal

pub returns-in-None : goal.returns-in-None
returns-in-None c = c.len.ensures.len ∙ no_place (bytes_eq c.args.name.now) c.args.texts.now.keys (sym c.get_index_of.ensures.index ∙ c.in-None.is)
