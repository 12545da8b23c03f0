use Rattle.std.proofs.Common.{rules, ◌≡◌, ◌-◌, ◌+◌, length, true, false, arith}
use Rattle.std.specs.Option.{option_map}
use Rattle.std.proofs.lemmas.Result.{err_from_is_err_and}
use Rattle.rd_bencode.specs.Reader.{begins_item, place}
use Rattle.rd_bencode.specs.RecordReaders.{read_write, key_of, last_key}
use Rattle.rd_bencode.proofs.Each.{each_turn, each_fails, each_stops, last_added}
use Rattle.rd_bencode.proofs.read.writes.entries.Goals as goal

pub loop-preserved : goal.loop-preserved
loop-preserved c =
    let begins : begins_item c.loop.here.rest.now ≡ true = search rules in
    let before : option_map (λ t. t.now) c.last_path.result ≡ last_key c.loop.all.items = search rules in
    each_turn read_write key_of c.loop.all.items c.push.new.self.items c.in_ok-item.item (last_key c.loop.all.items) _ (last_key c.push.new.self.items) (length c.args.spot.rest.now - c.loop.counter) (length c.args.spot.rest.now - (c.loop.counter + 1))
    (place c.loop.here) (place c.in_ok-item.next) _ before begins c.in_ok-item.ensures c.in_ok-push.ensures.items (last_added c.loop.all.items c.push.new.self.items c.in_ok-item.item c.in_ok-push.ensures.items) (omega arith) c.loop.invariant

pub returns-in_err-item : goal.returns-in_err-item
returns-in_err-item c =
    let begins : begins_item c.loop.here.rest.now ≡ true = search rules in
    let before : option_map (λ t. t.now) c.last_path.result ≡ last_key c.loop.all.items = search rules in
    let p = err_from_is_err_and c.from_residual.result c.from_residual.ensures.1 in
    rw (p.1, p.2) (each_fails read_write key_of c.loop.all.items (last_key c.loop.all.items) _ (length c.args.spot.rest.now - c.loop.counter) (length c.args.spot.rest.now - (c.loop.counter + 1)) (place c.loop.here) _ _ before begins c.in_err-item.ensures (omega arith) c.loop.invariant)

pub returns-then-not-begins_item : goal.returns-then-not-begins_item
returns-then-not-begins_item c =
    let none : begins_item c.loop.here.rest.now ≡ false = search rules in
    each_stops read_write key_of c.loop.all.items (last_key c.loop.all.items) (length c.args.spot.rest.now - c.loop.counter) (place c.loop.here) _ none c.loop.invariant
