use Rattle.std.proofs.Common.{◌≡◌, ◌+◌, ◌*◌, ◌<◌, ◌^◌, ◌-◌, min, drop, map}
use Rattle.std.specs.Prelude.{sum}
use denote.Param.Weighed.{most}
use Rattle.rd_value.specs.declared.value.FileValue.{FileValue}
use Rattle.rd_value.specs.declared.expr.Lazy.{size-Lazy}
use Rattle.rd_registry.specs.Fits.{lazies, counts}
use Rattle.rd_top.proofs.lazies.+lazies.Given as goal

abbrev pub invariant-lazies_in-loop-part : goal.invariant-lazies_in-loop-part
invariant-lazies_in-loop-part l = (l.count < 2 ^ 32) × (min (l.count + sum (map lazies (drop l.part-index l.parts))) (2 ^ 32 - 1) ≡ min (sum (map lazies l.parts)) (2 ^ 32 - 1))

abbrev pub invariant-lazies_named-loop-part : goal.invariant-lazies_named-loop-part
invariant-lazies_named-loop-part l = (l.count < 2 ^ 32) × (min (l.count + sum (counts (map (λ p. (p.0, lazies p.1)) (drop l.part-index l.keywords)))) (2 ^ 32 - 1) ≡ min (sum (counts (map (λ p. (p.0, lazies p.1)) l.keywords))) (2 ^ 32 - 1))

abbrev pub invariant-lazies_keyed-loop-part : goal.invariant-lazies_keyed-loop-part
invariant-lazies_keyed-loop-part l = (l.count < 2 ^ 32) × (min (l.count + sum (counts (map (λ p. (p.0, lazies p.1)) (drop l.part-index l.pairs)))) (2 ^ 32 - 1) ≡ min (sum (counts (map (λ p. (p.0, lazies p.1)) l.pairs))) (2 ^ 32 - 1))

-- a list is walked before its parts, so it counts one more than the deepest of them
abbrev pub decreases-lazies : goal.decreases-lazies
decreases-lazies l = 2 * size-Lazy FileValue l.expr.now

abbrev pub decreases-lazies_in : goal.decreases-lazies_in
decreases-lazies_in l = 2 * most (size-Lazy FileValue) l.parts.now + 1

abbrev pub decreases-lazies_named : goal.decreases-lazies_named
decreases-lazies_named l = 2 * most (λ p. size-Lazy FileValue p.1) l.keywords.now + 1

abbrev pub decreases-lazies_keyed : goal.decreases-lazies_keyed
decreases-lazies_keyed l = 2 * most (λ p. size-Lazy FileValue p.1) l.pairs.now + 1
