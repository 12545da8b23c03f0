use Rattle.std.proofs.Common.{◌≡◌, ◌+◌, ◌*◌, ◌-◌}
use Rattle.rd_bencode.specs.Reader.{onto, place, read_many, read_many_by}
use Rattle.rd_bencode.specs.Values.{read_value, read_pairs, read_pairs_by}
use Rattle.rd_bencode.proofs.read.value.+value.Given as goal

abbrev pub decreases-value : goal.decreases-value
decreases-value l = 8 * l.levels

abbrev pub decreases-any : goal.decreases-any
decreases-any l = 8 * l.levels + 7

abbrev pub decreases-tagged : goal.decreases-tagged
decreases-tagged l = 8 * l.levels + 6

abbrev pub decreases-kind : goal.decreases-kind
decreases-kind l = 8 * l.levels + 5

abbrev pub decreases-list : goal.decreases-list
decreases-list l = 8 * l.levels + 4

abbrev pub decreases-dict : goal.decreases-dict
decreases-dict l = 8 * l.levels + 4

abbrev pub decreases-values : goal.decreases-values
decreases-values l = 8 * l.levels + 3

abbrev pub decreases-pairs : goal.decreases-pairs
decreases-pairs l = 8 * l.levels + 3

abbrev pub decreases-pair : goal.decreases-pair
decreases-pair l = 8 * l.levels + 2

abbrev pub invariant-values-loop : goal.invariant-values-loop
invariant-values-loop l = onto l.all.items (read_many_by (read_value l.levels) (l.end - l.counter)) (place l.here) ≡ read_many (read_value l.levels) (place l.spot)

abbrev pub invariant-pairs-loop : goal.invariant-pairs-loop
invariant-pairs-loop l = onto l.all.items (read_pairs_by l.levels (read_value l.levels) (l.end - l.counter) l.keys.keys) (place l.here) ≡ read_pairs l.levels (read_value l.levels) (place l.spot)
