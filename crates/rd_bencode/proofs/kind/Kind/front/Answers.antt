use Rattle.std.proofs.Common.{rules}
use Rattle.std.specs.Fmt.{digits}
use Rattle.rd_bencode.proofs.kind.Kind.front.Goals as goal

pub returns-in-Task : goal.returns-in-Task
unfolding digits
returns-in-Task c = search rules

pub returns-in-Args : goal.returns-in-Args
unfolding digits
returns-in-Args c = search rules

pub returns-in-Value : goal.returns-in-Value
unfolding digits
returns-in-Value c = search rules

pub returns-in-Expr : goal.returns-in-Expr
unfolding digits
returns-in-Expr c = search rules

pub returns-in-Writes : goal.returns-in-Writes
unfolding digits
returns-in-Writes c = search rules

pub returns-in-Children : goal.returns-in-Children
unfolding digits
returns-in-Children c = search rules

pub returns-in-Footprint : goal.returns-in-Footprint
unfolding digits
returns-in-Footprint c = search rules

pub returns-in-Evaluation : goal.returns-in-Evaluation
unfolding digits
returns-in-Evaluation c = search rules

pub returns-in-Call : goal.returns-in-Call
unfolding digits
returns-in-Call c = search rules

pub returns-in-Execution : goal.returns-in-Execution
unfolding digits
returns-in-Execution c = search rules
