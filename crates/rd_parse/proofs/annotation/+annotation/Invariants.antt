use Rattle.std.proofs.Common.{◌≡◌, ◌+◌, ◌*◌, length}
use Rattle.rd_parse.specs.declared.terminal.Terminal.TheVariants as w
use Rattle.rd_parse.specs.Reader.{hits}
use Rattle.rd_parse.specs.Noting.{read_past}
use Rattle.rd_parse.specs.Terminal.{is}
use Rattle.rd_parse.specs.StatementReading.{read_another, read_another_part, read_inner_annotation}
use Rattle.rd_parse.proofs.annotation.+annotation.Given as goal

abbrev pub decreases-annotation : goal.decreases-annotation
decreases-annotation l = 8 * l.depth + 7

abbrev pub decreases-parts_behind : goal.decreases-parts_behind
decreases-parts_behind l = 8 * l.depth + 6

abbrev pub decreases-another_part : goal.decreases-another_part
decreases-another_part l = 8 * l.depth + 5

abbrev pub decreases-union_part : goal.decreases-union_part
decreases-union_part l = 8 * l.depth + 4

abbrev pub decreases-of_kinds : goal.decreases-of_kinds
decreases-of_kinds l = 8 * l.depth + 3

abbrev pub decreases-others : goal.decreases-others
decreases-others l = 8 * l.depth + 2

abbrev pub decreases-another : goal.decreases-another
decreases-another l = 8 * l.depth + 1

abbrev pub decreases-nested : goal.decreases-nested
decreases-nested l = 8 * l.depth

abbrev pub invariant-parts_behind-loop-rest : goal.invariant-parts_behind-loop-rest
invariant-parts_behind-loop-rest l = read_past (hits (is w.Bar)) (read_another_part l.depth (read_inner_annotation l.depth)) l.rest ≡ read_past (hits (is w.Bar)) (read_another_part l.depth (read_inner_annotation l.depth)) l.fn.tokens

abbrev pub decreases-parts_behind-loop-rest : goal.decreases-parts_behind-loop-rest
decreases-parts_behind-loop-rest l = length l.rest

abbrev pub invariant-others-loop-rest : goal.invariant-others-loop-rest
invariant-others-loop-rest l = read_past (hits (is w.Comma)) (read_another l.depth (read_inner_annotation l.depth)) l.rest ≡ read_past (hits (is w.Comma)) (read_another l.depth (read_inner_annotation l.depth)) l.fn.tokens

abbrev pub decreases-others-loop-rest : goal.decreases-others-loop-rest
decreases-others-loop-rest l = length l.rest
