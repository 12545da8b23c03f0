use Rattle.std.proofs.Common.{◌≡◌, ◌+◌, ◌*◌, ◌-◌}
use Rattle.rd_bencode.specs.Reader.{onto, place, read_many, read_many_by}
use Rattle.rd_bencode.specs.Values.{read_pairs, read_pairs_by}
use Rattle.rd_bencode.specs.Exprs.{read_expr, read_named}
use Rattle.rd_bencode.proofs.read.expr.+expr.Given as goal

abbrev pub decreases-expr : goal.decreases-expr
decreases-expr l = 16 * l.levels

abbrev pub decreases-any : goal.decreases-any
decreases-any l = 16 * l.levels + 15

abbrev pub decreases-kind : goal.decreases-kind
decreases-kind l = 16 * l.levels + 14

abbrev pub decreases-call : goal.decreases-call
decreases-call l = 16 * l.levels + 13

abbrev pub decreases-op : goal.decreases-op
decreases-op l = 16 * l.levels + 13

abbrev pub decreases-op_parts : goal.decreases-op_parts
decreases-op_parts l = 16 * l.levels + 12

abbrev pub decreases-one : goal.decreases-one
decreases-one l = 16 * l.levels + 11

abbrev pub decreases-two : goal.decreases-two
decreases-two l = 16 * l.levels + 11

abbrev pub decreases-list_of : goal.decreases-list_of
decreases-list_of l = 16 * l.levels + 13

abbrev pub decreases-dict_of : goal.decreases-dict_of
decreases-dict_of l = 16 * l.levels + 13

abbrev pub decreases-cond : goal.decreases-cond
decreases-cond l = 16 * l.levels + 13

abbrev pub decreases-map : goal.decreases-map
decreases-map l = 16 * l.levels + 13

abbrev pub decreases-catch : goal.decreases-catch
decreases-catch l = 16 * l.levels + 13

abbrev pub decreases-exprs : goal.decreases-exprs
decreases-exprs l = 16 * l.levels + 12

abbrev pub decreases-names : goal.decreases-names
decreases-names l = 16 * l.levels + 12

abbrev pub decreases-named : goal.decreases-named
decreases-named l = 16 * l.levels + 11

abbrev pub decreases-pairs : goal.decreases-pairs
decreases-pairs l = 16 * l.levels + 12

abbrev pub decreases-pair : goal.decreases-pair
decreases-pair l = 16 * l.levels + 11

abbrev pub invariant-exprs-loop : goal.invariant-exprs-loop
invariant-exprs-loop l = onto l.all.items (read_many_by (read_expr l.levels) (l.end - l.counter)) (place l.here) ≡ read_many (read_expr l.levels) (place l.spot)

abbrev pub invariant-names-loop : goal.invariant-names-loop
invariant-names-loop l = onto l.all.items (read_many_by (read_named l.levels (read_expr l.levels)) (l.end - l.counter)) (place l.here) ≡ read_many (read_named l.levels (read_expr l.levels)) (place l.spot)

abbrev pub invariant-pairs-loop : goal.invariant-pairs-loop
invariant-pairs-loop l = onto l.all.items (read_pairs_by l.levels (read_expr l.levels) (l.end - l.counter) l.keys.keys) (place l.here) ≡ read_pairs l.levels (read_expr l.levels) (place l.spot)
