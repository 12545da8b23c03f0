use Rattle.std.proofs.Common.{rules, ◌≡◌, true, neg_ℤ, to_z, of_z}
use Rattle.std.specs.Int.{w128, is_negative, int_rem_euclid}
use Rattle.rd_meaning.proofs.divide.floor_remainder.Goals as goal

pub returns-then-b-lt0 : goal.returns-then-b-lt0
returns-then-b-lt0 c =
    let r : c.rem_euclid.result ≡ int_rem_euclid (neg_ℤ c.args.a) (neg_ℤ c.args.b) = search rules in
    let o : to_z w128 (of_z w128 c.opposite.result) ≡ neg_ℤ c.rem_euclid.result = search rules in
    let below : is_negative c.args.b ≡ true = search rules in
    rw (o, r, below)
