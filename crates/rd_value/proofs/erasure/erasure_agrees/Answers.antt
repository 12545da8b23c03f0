use Rattle.std.proofs.Common.{ap, length}
use Rattle.rd_value.specs.Model.{file_of}
use Rattle.rd_value.proofs.Erased.{canon_with_files, depth_with_files, repr_with_files}
use Rattle.rd_value.proofs.ErasedBind.{bind_with_files}
use Rattle.rd_value.proofs.ErasedCompare.{truth_with_files, compared_with_files, equal_with_files}
use Rattle.rd_value.proofs.ErasedExpand.{expand_map_with_files, expand_catch_with_files}
use Rattle.rd_value.proofs.ErasedExprs.{canon_expr_with_files, depth_expr_with_files}
use Rattle.rd_value.proofs.ErasedLimits.{is_within_with_files, is_within_expr_with_files}
use Rattle.rd_value.proofs.ErasedOperators.{plus_with_files, applied_with_files}
use Rattle.rd_value.proofs.erasure.erasure_agrees.Goals as goal

pub returns : goal.returns
returns c = record {
  truth = truth_with_files file_of;
  compared = compared_with_files file_of (λ f. f);
  equal = equal_with_files file_of (λ f. f);
  canon = canon_with_files file_of (λ f. f);
  canon_expr = canon_expr_with_files file_of (λ f. f);
  size = λ v. ap length (canon_with_files file_of (λ f. f) v);
  depth = depth_with_files file_of;
  depth_expr = depth_expr_with_files file_of;
  within = is_within_with_files file_of (λ f. f);
  within_expr = is_within_expr_with_files file_of (λ f. f);
  repr = repr_with_files file_of (λ f. f);
  plus = plus_with_files file_of (λ f. f);
  applied = applied_with_files file_of (λ f. f);
  bind = bind_with_files file_of (λ f. f);
  expand_map = expand_map_with_files file_of (λ f. f);
  expand_catch = expand_catch_with_files file_of;
}
