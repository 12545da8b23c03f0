use Rattle.std.proofs.Common.{rules, ◌≡◌, ◌-◌, ◌+◌, length, true, false, arith}
use Rattle.std.proofs.lemmas.Result.{err_from_is_err_and}
use Rattle.rd_bencode.specs.Reader.{begins_item, place}
use Rattle.rd_bencode.specs.Exprs.{read_expr, read_named}
use Rattle.rd_bencode.proofs.Turns.{turn, fails, stops, ends, pair_turn, pair_fails, pair_stops, pair_ends}
use Rattle.rd_bencode.proofs.read.expr.+expr.Goals as goal

pub exprs-loop-preserved : goal.exprs-loop-preserved
exprs-loop-preserved t c =
    let begins : begins_item c.loop.here.rest.now ≡ true = search rules in
    turn (read_expr c.args.levels) c.loop.all.items c.push.new.self.items c.in_ok-item.item (length c.args.spot.rest.now - c.loop.counter) (length c.args.spot.rest.now - (c.loop.counter + 1))
    (place c.loop.here) (place c.in_ok-item.next) _ begins c.in_ok-item.ensures c.in_ok-push.ensures.items (omega arith) c.loop.invariant

pub exprs-returns : goal.exprs-returns
exprs-returns t c = ends (read_expr c.args.levels) c.loop.all.items (length c.args.spot.rest.now - c.loop.counter) (place c.loop.here) _ (omega arith) c.loop.invariant

pub exprs-returns-in_err-item : goal.exprs-returns-in_err-item
exprs-returns-in_err-item t c =
    let begins : begins_item c.loop.here.rest.now ≡ true = search rules in
    let p = err_from_is_err_and c.from_residual.result c.from_residual.ensures.1 in
    rw (p.1, p.2) (fails (read_expr c.args.levels) c.loop.all.items (length c.args.spot.rest.now - c.loop.counter) (length c.args.spot.rest.now - (c.loop.counter + 1)) (place c.loop.here) _ _ begins c.in_err-item.ensures (omega arith) c.loop.invariant)

pub exprs-returns-then-not-begins_item : goal.exprs-returns-then-not-begins_item
exprs-returns-then-not-begins_item t c =
    let none : begins_item c.loop.here.rest.now ≡ false = search rules in
    stops (read_expr c.args.levels) c.loop.all.items (length c.args.spot.rest.now - c.loop.counter) (place c.loop.here) _ none c.loop.invariant

pub names-loop-preserved : goal.names-loop-preserved
names-loop-preserved t c =
    let begins : begins_item c.loop.here.rest.now ≡ true = search rules in
    turn (read_named c.args.levels (read_expr c.args.levels)) c.loop.all.items c.push.new.self.items c.in_ok-item.item (length c.args.spot.rest.now - c.loop.counter) (length c.args.spot.rest.now - (c.loop.counter + 1))
    (place c.loop.here) (place c.in_ok-item.next) _ begins c.in_ok-item.ensures c.in_ok-push.ensures.items (omega arith) c.loop.invariant

pub names-returns : goal.names-returns
names-returns t c = ends (read_named c.args.levels (read_expr c.args.levels)) c.loop.all.items (length c.args.spot.rest.now - c.loop.counter) (place c.loop.here) _ (omega arith) c.loop.invariant

pub names-returns-in_err-item : goal.names-returns-in_err-item
names-returns-in_err-item t c =
    let begins : begins_item c.loop.here.rest.now ≡ true = search rules in
    let p = err_from_is_err_and c.from_residual.result c.from_residual.ensures.1 in
    rw (p.1, p.2) (fails (read_named c.args.levels (read_expr c.args.levels)) c.loop.all.items (length c.args.spot.rest.now - c.loop.counter) (length c.args.spot.rest.now - (c.loop.counter + 1)) (place c.loop.here) _ _ begins c.in_err-item.ensures (omega arith) c.loop.invariant)

pub names-returns-then-not-begins_item : goal.names-returns-then-not-begins_item
names-returns-then-not-begins_item t c =
    let none : begins_item c.loop.here.rest.now ≡ false = search rules in
    stops (read_named c.args.levels (read_expr c.args.levels)) c.loop.all.items (length c.args.spot.rest.now - c.loop.counter) (place c.loop.here) _ none c.loop.invariant

pub pairs-loop-preserved : goal.pairs-loop-preserved
pairs-loop-preserved t c =
    let begins : begins_item c.loop.here.rest.now ≡ true = search rules in
    pair_turn c.args.levels (read_expr c.args.levels) c.loop.all.items c.push.new.self.items c.in_ok-item.item c.loop.keys.keys c.pair.new.keys.keys (length c.args.spot.rest.now - c.loop.counter) (length c.args.spot.rest.now - (c.loop.counter + 1))
    (place c.loop.here) (place c.in_ok-item.next) _ begins c.in_ok-item.ensures.gives c.in_ok-push.ensures.items c.in_ok-item.ensures.added (omega arith) c.loop.invariant

pub pairs-returns : goal.pairs-returns
pairs-returns t c = pair_ends c.args.levels (read_expr c.args.levels) c.loop.all.items c.loop.keys.keys (length c.args.spot.rest.now - c.loop.counter) (place c.loop.here) _ (omega arith) c.loop.invariant

pub pairs-returns-in_err-item : goal.pairs-returns-in_err-item
pairs-returns-in_err-item t c =
    let begins : begins_item c.loop.here.rest.now ≡ true = search rules in
    let p = err_from_is_err_and c.from_residual.result c.from_residual.ensures.1 in
    rw (p.1, p.2) (pair_fails c.args.levels (read_expr c.args.levels) c.loop.all.items c.loop.keys.keys (length c.args.spot.rest.now - c.loop.counter) (length c.args.spot.rest.now - (c.loop.counter + 1)) (place c.loop.here) _ _ begins c.in_err-item.ensures.gives (omega arith) c.loop.invariant)

pub pairs-returns-then-not-begins_item : goal.pairs-returns-then-not-begins_item
pairs-returns-then-not-begins_item t c =
    let none : begins_item c.loop.here.rest.now ≡ false = search rules in
    pair_stops c.args.levels (read_expr c.args.levels) c.loop.all.items c.loop.keys.keys (length c.args.spot.rest.now - c.loop.counter) (place c.loop.here) _ none c.loop.invariant
