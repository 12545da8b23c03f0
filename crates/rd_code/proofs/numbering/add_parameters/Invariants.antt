use Rattle.std.proofs.Common.{◌≡◌, map, drop}
use Rattle.rd_code.specs.Mentions.{plain}
use Rattle.rd_code.specs.Numbering.{with_mentions}
use Rattle.rd_code.proofs.numbering.add_parameters.Given as goal

abbrev pub invariant-loop-parameter : goal.invariant-loop-parameter
invariant-loop-parameter l = with_mentions l.texts.keys (map (λ p. plain p.name) (drop l.parameter-index l.parameters)) ≡ with_mentions l.fn.texts.keys (map (λ p. plain p.name) l.parameters)
