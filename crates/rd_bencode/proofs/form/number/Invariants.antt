use Rattle.std.proofs.Common.{◌≡◌, true, drop}
use Rattle.std.specs.List.{list_all}
use Rattle.rd_bencode.specs.Form.{number, number_from}
use Rattle.rd_bencode.specs.Reader.{is_digit}
use Rattle.rd_bencode.proofs.form.number.Given as goal

abbrev pub invariant-loop-digit : goal.invariant-loop-digit
invariant-loop-digit l = record { number : number_from l.n (drop l.digit-index l.digits) ≡ number l.digits; rest : list_all is_digit (drop l.digit-index l.digits) ≡ true }
