use Rattle.rd_parse.proofs.statement.+commands.Given as goal

abbrev pub decreases-commands : goal.decreases-commands
decreases-commands l = l.depth
