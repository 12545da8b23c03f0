use Rattle.std.proofs.Common.{◌+◌, ◌*◌}
use Rattle.rd_top.specs.Evaluating.{at_depth}
use Rattle.rd_registry.specs.Fresh as fresh
use Rattle.rd_top.proofs.Parts.{Stands}
use Rattle.rd_top.proofs.evaluate.Evaluation.+evaluate.Given as goal

abbrev pub decreases-expression : goal.decreases-expression
decreases-expression l = 6 * l.depth

abbrev pub decreases-go_on : goal.decreases-go_on
decreases-go_on l = 6 * l.depth + 1

abbrev pub decreases-parts : goal.decreases-parts
decreases-parts l = 6 * l.depth + 1

abbrev pub decreases-keywords : goal.decreases-keywords
decreases-keywords l = 6 * l.depth + 1

abbrev pub decreases-pairs : goal.decreases-pairs
decreases-pairs l = 6 * l.depth + 1

abbrev pub decreases-body : goal.decreases-body
decreases-body l = 6 * l.depth + 2

abbrev pub decreases-arguments : goal.decreases-arguments
decreases-arguments l = 6 * l.depth + 2

abbrev pub decreases-list : goal.decreases-list
decreases-list l = 6 * l.depth + 2

abbrev pub decreases-dict : goal.decreases-dict
decreases-dict l = 6 * l.depth + 2

abbrev pub decreases-operation : goal.decreases-operation
decreases-operation l = 6 * l.depth + 2

abbrev pub decreases-branch : goal.decreases-branch
decreases-branch l = 6 * l.depth + 1

abbrev pub decreases-mapped : goal.decreases-mapped
decreases-mapped l = 6 * l.depth + 2

abbrev pub decreases-map : goal.decreases-map
decreases-map l = 6 * l.depth + 3

abbrev pub decreases-recovered : goal.decreases-recovered
decreases-recovered l = 6 * l.depth + 2

abbrev pub decreases-catch : goal.decreases-catch
decreases-catch l = 6 * l.depth + 3

abbrev pub decreases-enter : goal.decreases-enter
decreases-enter l = 6 * l.depth + 3

abbrev pub decreases-call : goal.decreases-call
decreases-call l = 6 * l.depth + 4

abbrev pub decreases-step : goal.decreases-step
decreases-step l = 6 * l.depth + 5

abbrev pub invariant-parts-loop-part : goal.invariant-parts-loop-part
invariant-parts-loop-part l = Stands fresh.alone (at_depth l.self.tasks.now l.depth) l.parts l.part-index l.fn.met l.met l.gathered

abbrev pub invariant-keywords-loop-name : goal.invariant-keywords-loop-name
invariant-keywords-loop-name l = Stands fresh.beside (fresh.second (at_depth l.self.tasks.now l.depth)) l.keywords l.name-index l.fn.met l.met l.gathered

abbrev pub invariant-pairs-loop-key : goal.invariant-pairs-loop-key
invariant-pairs-loop-key l = Stands fresh.beside (fresh.second (at_depth l.self.tasks.now l.depth)) l.pairs l.key-index l.fn.met l.met l.gathered
