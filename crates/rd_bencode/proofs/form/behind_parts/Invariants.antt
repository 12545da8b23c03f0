use Rattle.rd_bencode.proofs.Closing.{Passes}
use Rattle.rd_bencode.proofs.form.behind_parts.Given as goal

abbrev pub invariant-loop : goal.invariant-loop
invariant-loop l = Passes l.spelling l.bytes l.counter l.lists l.rest
