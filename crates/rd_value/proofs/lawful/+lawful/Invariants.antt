use Rattle.std.proofs.Common.{drop}
use Rattle.rd_value.specs.Lawful.{IsLawful}
use Rattle.rd_value.proofs.Ind.{Each, EachPair}
use Rattle.rd_value.proofs.lawful.+lawful.Given as goal

abbrev pub invariant-loop-item : goal.invariant-loop-item
invariant-loop-item l = Each IsLawful (drop l.item-index l.item-items) → Each IsLawful l.item-items

abbrev pub invariant-loop-key : goal.invariant-loop-key
invariant-loop-key l = EachPair IsLawful (drop l.key-index l.key-items) → EachPair IsLawful l.key-items
