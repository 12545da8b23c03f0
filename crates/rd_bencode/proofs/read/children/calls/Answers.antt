use Rattle.std.proofs.Common.{rules, ◌≡◌, ◌-◌, ◌+◌, length, true, false, refl, arith}
use Rattle.std.proofs.lemmas.Result.{err_from_is_err_and}
use Rattle.rd_bencode.specs.Reader.{begins_item, place}
use Rattle.rd_bencode.specs.RecordReaders.{read_child, with_call}
use Rattle.rd_bencode.proofs.Each.{each_turn, each_fails, each_stops, each_ends}
use Rattle.rd_bencode.proofs.read.children.calls.Goals as goal

pub loop-preserved : goal.loop-preserved
loop-preserved c =
    let begins : begins_item c.loop.here.rest.now ≡ true = search rules in
    each_turn read_child with_call c.loop.all.keys c.child.new.calls.keys c.in_ok-next.field-0-0 c.loop.all.keys c.loop.all.keys c.child.new.calls.keys (length c.args.spot.rest.now - c.loop.counter) (length c.args.spot.rest.now - (c.loop.counter + 1))
    (place c.loop.here) (place c.in_ok-next.next) _ refl begins c.in_ok-next.ensures.gives c.in_ok-next.ensures.added c.in_ok-next.ensures.added (omega arith) c.loop.invariant

pub returns : goal.returns
returns c = each_ends read_child with_call c.loop.all.keys c.loop.all.keys (length c.args.spot.rest.now - c.loop.counter) (place c.loop.here) _ (omega arith) c.loop.invariant

pub returns-in_err-next : goal.returns-in_err-next
returns-in_err-next c =
    let begins : begins_item c.loop.here.rest.now ≡ true = search rules in
    let p = err_from_is_err_and c.from_residual.result c.from_residual.ensures.1 in
    rw (p.1, p.2) (each_fails read_child with_call c.loop.all.keys c.loop.all.keys c.loop.all.keys (length c.args.spot.rest.now - c.loop.counter) (length c.args.spot.rest.now - (c.loop.counter + 1)) (place c.loop.here) _ _ refl begins c.in_err-next.ensures.gives (omega arith) c.loop.invariant)

pub returns-then-not-begins_item : goal.returns-then-not-begins_item
returns-then-not-begins_item c =
    let none : begins_item c.loop.here.rest.now ≡ false = search rules in
    each_stops read_child with_call c.loop.all.keys c.loop.all.keys (length c.args.spot.rest.now - c.loop.counter) (place c.loop.here) _ none c.loop.invariant
