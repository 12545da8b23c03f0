use Rattle.std.proofs.Common.{◌≡◌, length}
use Rattle.std.specs.Prelude.{string_bytes}
use Rattle.rd_parse.specs.Reading.{read_more_texts}
use Rattle.rd_parse.proofs.texts.more_texts.Given as goal

abbrev pub invariant-loop-alloc : goal.invariant-loop-alloc
invariant-loop-alloc l = read_more_texts (string_bytes l.all) l.rest ≡ read_more_texts (string_bytes l.fn.first) l.fn.tokens

abbrev pub decreases-loop-alloc : goal.decreases-loop-alloc
decreases-loop-alloc l = length l.rest
