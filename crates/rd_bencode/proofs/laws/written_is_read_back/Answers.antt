use Rattle.std.proofs.Common.{arith, refl}
use Rattle.rd_value.specs.Canon.{canon, canon_expr}
use Rattle.rd_bencode.specs.ProperRecords.{AreProperArgs, AreProperWrites, AreProperChildren, IsProperFootprint, IsProperExecution}
use Rattle.rd_bencode.specs.RecordReaders.{read_args, read_writes, read_children, read_footprint, read_execution}
use Rattle.rd_bencode.specs.Records.{canon_args, canon_writes, canon_children, canon_footprint, canon_execution}
use Rattle.rd_bencode.proofs.Answered.{whole_only}
use Rattle.rd_bencode.proofs.ExactExecution.{exact_execution}
use Rattle.rd_bencode.proofs.ExactFootprint.{exact_footprint}
use Rattle.rd_bencode.proofs.ExactLists.{exact_args, exact_writes, exact_children}
use Rattle.rd_bencode.proofs.Whole.{value_only, expr_only}
use Rattle.rd_bencode.proofs.laws.written_is_read_back.Goals as goal

pub returns : goal.returns
returns c = record {
  value = λ v proper within. value_only (canon (λ f. f) v) v proper within refl;
  expr = λ e proper within. expr_only (canon_expr (λ f. f) e) e proper within refl;
  args = λ x proper small. whole_only read_args (canon_args (λ f. f)) AreProperArgs exact_args (canon_args (λ f. f) x) x proper (omega (arith, small)) refl;
  writes = λ x proper small. whole_only read_writes canon_writes AreProperWrites exact_writes (canon_writes x) x proper (omega (arith, small)) refl;
  children = λ x proper small. whole_only read_children canon_children AreProperChildren exact_children (canon_children x) x proper (omega (arith, small)) refl;
  footprint = λ x proper small. whole_only read_footprint canon_footprint IsProperFootprint exact_footprint (canon_footprint x) x proper (omega (arith, small)) refl;
  execution = λ x proper small. whole_only read_execution canon_execution IsProperExecution exact_execution (canon_execution x) x proper (omega (arith, small)) refl;
}
