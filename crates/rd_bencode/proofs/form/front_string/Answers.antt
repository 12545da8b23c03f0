use Rattle.rd_bencode.proofs.Fronts.{are_digits}
use Rattle.rd_bencode.proofs.form.front_string.Goals as goal

pub cut-requires : goal.cut-requires
cut-requires c = rw c.split_digits.ensures.digits (are_digits c.args.bytes.now)
