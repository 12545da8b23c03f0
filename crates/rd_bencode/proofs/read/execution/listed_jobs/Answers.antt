use Rattle.std.proofs.Common.{rules, ◌≡◌, ◌-◌, ◌+◌, length, true, false, refl, arith}
use Rattle.std.proofs.lemmas.Result.{err_from_is_err_and}
use Rattle.rd_bencode.specs.Reader.{begins_item, place}
use Rattle.rd_bencode.specs.RecordReaders.{read_job, plain}
use Rattle.rd_bencode.proofs.Each.{each_turn, each_fails, each_stops}
use Rattle.rd_bencode.proofs.read.execution.listed_jobs.Goals as goal

pub loop-preserved : goal.loop-preserved
loop-preserved c =
    let begins : begins_item c.loop.here.rest.now ≡ true = search rules in
    each_turn read_job plain c.loop.all.items c.push.new.self.items c.in_ok-item.item tt tt tt (length c.args.spot.rest.now - c.loop.counter) (length c.args.spot.rest.now - (c.loop.counter + 1))
    (place c.loop.here) (place c.in_ok-item.next) _ refl begins c.in_ok-item.ensures c.in_ok-push.ensures.items refl (omega arith) c.loop.invariant

pub returns-in_err-item : goal.returns-in_err-item
returns-in_err-item c =
    let begins : begins_item c.loop.here.rest.now ≡ true = search rules in
    let p = err_from_is_err_and c.from_residual.result c.from_residual.ensures.1 in
    rw (p.1, p.2) (each_fails read_job plain c.loop.all.items tt tt (length c.args.spot.rest.now - c.loop.counter) (length c.args.spot.rest.now - (c.loop.counter + 1)) (place c.loop.here) _ _ refl begins c.in_err-item.ensures (omega arith) c.loop.invariant)

pub returns-then-not-begins_item : goal.returns-then-not-begins_item
returns-then-not-begins_item c =
    let none : begins_item c.loop.here.rest.now ≡ false = search rules in
    each_stops read_job plain c.loop.all.items tt (length c.args.spot.rest.now - c.loop.counter) (place c.loop.here) _ none c.loop.invariant
