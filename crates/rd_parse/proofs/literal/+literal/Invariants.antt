use Rattle.std.proofs.Common.{◌≡◌, ◌+◌, ◌*◌, length}
use Rattle.rd_parse.specs.declared.terminal.Terminal.TheVariants as w
use Rattle.rd_parse.specs.Reader.{onto, read_more}
use Rattle.rd_parse.specs.Terminal.{among, is}
use Rattle.rd_parse.specs.Literals.{begins_literal}
use Rattle.rd_parse.specs.LiteralReading.{read_inner_literal, read_more_pairs}
use Rattle.rd_parse.proofs.literal.+literal.Given as goal

abbrev pub decreases-deep_literal : goal.decreases-deep_literal
decreases-deep_literal l = 8 * l.depth + 7

abbrev pub decreases-square : goal.decreases-square
decreases-square l = 8 * l.depth + 6

abbrev pub decreases-items : goal.decreases-items
decreases-items l = 8 * l.depth + 5

abbrev pub decreases-more_items : goal.decreases-more_items
decreases-more_items l = 8 * l.depth + 4

abbrev pub decreases-items_behind : goal.decreases-items_behind
decreases-items_behind l = 8 * l.depth + 3

abbrev pub decreases-curly : goal.decreases-curly
decreases-curly l = 8 * l.depth + 6

abbrev pub decreases-pairs : goal.decreases-pairs
decreases-pairs l = 8 * l.depth + 5

abbrev pub decreases-pairs_from : goal.decreases-pairs_from
decreases-pairs_from l = 8 * l.depth + 4

abbrev pub decreases-pairs_behind : goal.decreases-pairs_behind
decreases-pairs_behind l = 8 * l.depth + 3

abbrev pub decreases-pair : goal.decreases-pair
decreases-pair l = 8 * l.depth + 2

abbrev pub decreases-inner_literal : goal.decreases-inner_literal
decreases-inner_literal l = 8 * l.depth

abbrev pub invariant-items_behind-loop-behind : goal.invariant-items_behind-loop-behind
invariant-items_behind-loop-behind l =
    onto l.all.items (read_more (is w.Comma) (among begins_literal) (read_inner_literal l.depth)) l.rest ≡ onto l.fn.all.items (read_more (is w.Comma) (among begins_literal) (read_inner_literal l.depth)) l.fn.tokens

abbrev pub decreases-items_behind-loop-behind : goal.decreases-items_behind-loop-behind
decreases-items_behind-loop-behind l = length l.rest

abbrev pub invariant-pairs_behind-loop-behind : goal.invariant-pairs_behind-loop-behind
invariant-pairs_behind-loop-behind l =
    onto l.all.items (read_more_pairs l.depth (read_inner_literal l.depth) l.keys.keys) l.rest ≡ onto l.fn.all.items (read_more_pairs l.depth (read_inner_literal l.depth) l.fn.keys.keys) l.fn.tokens

abbrev pub decreases-pairs_behind-loop-behind : goal.decreases-pairs_behind-loop-behind
decreases-pairs_behind-loop-behind l = length l.rest
