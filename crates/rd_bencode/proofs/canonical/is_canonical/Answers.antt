use Rattle.std.proofs.Common.{ap}
use Rattle.rd_value.specs.Canon.{canon, canon_expr}
use Rattle.rd_bencode.specs.Canonical.{IsCanonical, IsKept, IsKeptExpr}
use Rattle.rd_bencode.specs.ProperRecords.{AreProperArgs, AreProperWrites, AreProperChildren, IsProperFootprint, IsProperExecution, AreDigests}
use Rattle.rd_bencode.specs.Records.{canon_args, canon_writes, canon_children, canon_footprint, canon_execution, canon_digests}
use Rattle.rd_bencode.proofs.Told.{told_canonical}
use Rattle.rd_bencode.proofs.canonical.is_canonical.Goals as goal

pub returns-in-Args : goal.returns-in-Args
returns-in-Args c = told_canonical (canon_args (λ f. f)) (AreProperArgs) c.args.structure.now c.args.kind c.read_args.result c.is_read.result (ap (λ k. IsCanonical k c.args.structure.now) c.in-Args.is) c.is_read.ensures c.read_args.ensures.found c.read_args.ensures.within c.read_args.ensures.only

pub returns-in-Writes : goal.returns-in-Writes
returns-in-Writes c = told_canonical (canon_writes) (AreProperWrites) c.args.structure.now c.args.kind c.read_writes.result c.is_read-in-Writes.result (ap (λ k. IsCanonical k c.args.structure.now) c.in-Writes.is) c.is_read-in-Writes.ensures c.read_writes.ensures.found c.read_writes.ensures.within c.read_writes.ensures.only

pub returns-in-Children : goal.returns-in-Children
returns-in-Children c = told_canonical (canon_children) (AreProperChildren) c.args.structure.now c.args.kind c.read_children.result c.is_read-in-Children.result (ap (λ k. IsCanonical k c.args.structure.now) c.in-Children.is) c.is_read-in-Children.ensures c.read_children.ensures.found c.read_children.ensures.within c.read_children.ensures.only

pub returns-in-Footprint : goal.returns-in-Footprint
returns-in-Footprint c = told_canonical (canon_footprint) (IsProperFootprint) c.args.structure.now c.args.kind c.read_footprint.result c.is_read-in-Footprint.result (ap (λ k. IsCanonical k c.args.structure.now) c.in-Footprint.is) c.is_read-in-Footprint.ensures c.read_footprint.ensures.found c.read_footprint.ensures.within c.read_footprint.ensures.only

pub returns-in-Evaluation : goal.returns-in-Evaluation
returns-in-Evaluation c = told_canonical (canon_digests) (AreDigests 4) c.args.structure.now c.args.kind c.read_digests.result c.is_read-in-Evaluation.result (ap (λ k. IsCanonical k c.args.structure.now) c.in-Evaluation.is) c.is_read-in-Evaluation.ensures c.read_digests.ensures.found c.read_digests.ensures.within c.read_digests.ensures.only

pub returns-in-Call : goal.returns-in-Call
returns-in-Call c = told_canonical (canon_digests) (AreDigests 5) c.args.structure.now c.args.kind c.read_digests-in-Call.result c.is_read-in-Call.result (ap (λ k. IsCanonical k c.args.structure.now) c.in-Call.is) c.is_read-in-Call.ensures c.read_digests-in-Call.ensures.found c.read_digests-in-Call.ensures.within c.read_digests-in-Call.ensures.only

pub returns-in-Execution : goal.returns-in-Execution
returns-in-Execution c = told_canonical (canon_execution) (IsProperExecution) c.args.structure.now c.args.kind c.read_execution.result c.is_read-in-Execution.result (ap (λ k. IsCanonical k c.args.structure.now) c.in-Execution.is) c.is_read-in-Execution.ensures c.read_execution.ensures.found c.read_execution.ensures.within c.read_execution.ensures.only

pub returns-in-Value : goal.returns-in-Value
returns-in-Value c = told_canonical (canon (λ f. f)) IsKept c.args.structure.now c.args.kind c.read_value.result c.is_read-in-Value.result (ap (λ k. IsCanonical k c.args.structure.now) c.in-Value.is) c.is_read-in-Value.ensures c.read_value.ensures.found c.read_value.ensures.within (λ x fine. c.read_value.ensures.only x fine.1 fine.0)

pub returns-in-Expr : goal.returns-in-Expr
returns-in-Expr c = told_canonical (canon_expr (λ f. f)) IsKeptExpr c.args.structure.now c.args.kind c.read_expr.result c.is_read-in-Expr.result (ap (λ k. IsCanonical k c.args.structure.now) c.in-Expr.is) c.is_read-in-Expr.ensures c.read_expr.ensures.found c.read_expr.ensures.within (λ x fine. c.read_expr.ensures.only x fine.1 fine.0)
