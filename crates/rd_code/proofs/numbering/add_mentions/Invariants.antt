use Rattle.std.proofs.Common.{◌≡◌, drop}
use Rattle.rd_code.specs.Numbering.{with_mentions}
use Rattle.rd_code.proofs.numbering.add_mentions.Given as goal

abbrev pub invariant-loop-mention : goal.invariant-loop-mention
invariant-loop-mention l = with_mentions l.texts.keys (drop l.mention-index l.mentions) ≡ with_mentions l.fn.texts.keys l.mentions
