use Rattle.rd_parse.proofs.expression.+rule.Given as goal

abbrev pub decreases-rule : goal.decreases-rule
decreases-rule l = l.depth
