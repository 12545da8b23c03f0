use Rattle.rd_code.specs.Words.{word_from}
use Rattle.rd_code.proofs.Numbered.{numbered_same, all_numbered_same}
use Rattle.rd_code.proofs.code.TaskCode.new.Goals as goal

pub invariant_of-result : goal.invariant_of-result
invariant_of-result c = record {
  numbered = numbered_same (word_from c.in_ok-words.words) _ c.args.helpers _ c.args.names c.in_ok-words.ensures c.as_slice.ensures c.as_slice-2.ensures c.in_ok-routine.routine _ c.args.signature.parameters _ c.args.body c.in_ok-routine.ensures c.as_slice-3.ensures c.as_slice-4.ensures;
  all_numbered = all_numbered_same (word_from c.in_ok-words.words) _ c.args.helpers _ c.args.names c.in_ok-words.ensures c.as_slice.ensures c.as_slice-2.ensures c.in_ok-routines.routines _ c.in_ok-routines.ensures c.as_slice-5.ensures;
}
