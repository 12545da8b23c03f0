use Rattle.std.proofs.Common.{◌-◌, ◌+◌, arith}
use Rattle.std.proofs.lemmas.Result.{err_from_is_err_and}
use Rattle.rd_bencode.specs.Reader.{place}
use Rattle.rd_bencode.proofs.SoMany.{many_turn, many_fails, many_ends}
use Rattle.rd_bencode.proofs.read.digests.so_many.Goals as goal

pub loop-preserved : goal.loop-preserved
loop-preserved c =
    many_turn c.loop.all.items c.push.new.self.items c.in_ok-item.item (c.args.count - c.loop.counter) (c.args.count - (c.loop.counter + 1)) (place c.loop.here) (place c.in_ok-item.next) _ c.in_ok-item.ensures c.in_ok-push.ensures.items (omega arith) c.loop.invariant

pub returns-in_err-item : goal.returns-in_err-item
returns-in_err-item c =
    let p = err_from_is_err_and c.from_residual.result c.from_residual.ensures.1 in
    rw (p.1, p.2) (many_fails c.loop.all.items (c.args.count - c.loop.counter) (c.args.count - (c.loop.counter + 1)) (place c.loop.here) _ _ c.in_err-item.ensures (omega arith) c.loop.invariant)

pub returns : goal.returns
returns c = many_ends c.loop.all.items (c.args.count - c.loop.counter) (place c.loop.here) _ (omega arith) c.loop.invariant
