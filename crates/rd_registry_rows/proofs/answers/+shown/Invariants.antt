use Rattle.std.proofs.Common.{ℕ, ◌+◌, ◌*◌}
use denote.Param.Weighed.{most}
use Rattle.rd_value.specs.declared.value.FileValue.{FileValue}
use Rattle.rd_value.specs.declared.expr.Lazy.{size-Lazy}
use Rattle.rd_registry_rows.proofs.answers.+shown.Given as goal

-- lists are walked before their parts
abbrev pub decreases-push_expr : goal.decreases-push_expr
decreases-push_expr l = 2 * size-Lazy FileValue l.expr.now

abbrev pub decreases-push_parts : goal.decreases-push_parts
decreases-push_parts l = 2 * most (size-Lazy FileValue) l.parts.now + 1

abbrev pub decreases-push_pairs : goal.decreases-push_pairs
decreases-push_pairs l = 2 * most (λ p. size-Lazy FileValue p.1) l.pairs.now + 1
