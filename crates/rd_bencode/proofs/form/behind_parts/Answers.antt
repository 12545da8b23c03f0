use Rattle.std.proofs.Common.{◌≡◌, ◌<◌, sym, subst, arith}
use Rattle.rd_bencode.specs.Front.{step}
use Rattle.rd_bencode.proofs.Closing.{went, passes_more, passes_end, passes_stop, passes_over}
use Rattle.rd_bencode.proofs.form.behind_parts.Goals as goal

pub returns-in_err-lists-clause-only : goal.returns-in_err-lists-clause-only
returns-in_err-lists-clause-only c =
    rw c.from_residual.ensures (passes_stop c.args.spelling c.args.bytes.now c.loop.counter c.loop.lists c.loop.rest.now c.loop.invariant (sym c.in_err-lists.ensures))

pub returns-then-lists-eq0-clause-found : goal.returns-then-lists-eq0-clause-found
returns-then-lists-eq0-clause-found c =
    (passes_end c.args.spelling c.args.bytes.now c.loop.counter c.loop.lists c.loop.rest.now c.in_ok-lists.field-0-1.now c.loop.invariant
    (subst (λ n. step c.args.spelling c.loop.lists c.loop.rest.now ≡ went n c.in_ok-lists.field-0-1.now) c.if-lists-eq0.true (sym c.in_ok-lists.ensures))).0

pub returns-then-lists-eq0-clause-only : goal.returns-then-lists-eq0-clause-only
returns-then-lists-eq0-clause-only c =
    (passes_end c.args.spelling c.args.bytes.now c.loop.counter c.loop.lists c.loop.rest.now c.in_ok-lists.field-0-1.now c.loop.invariant
    (subst (λ n. step c.args.spelling c.loop.lists c.loop.rest.now ≡ went n c.in_ok-lists.field-0-1.now) c.if-lists-eq0.true (sym c.in_ok-lists.ensures))).1

pub loop-preserved : goal.loop-preserved
loop-preserved c =
    let some : 0 < c.in_ok-lists.field-0-0 = omega arith in
    passes_more c.args.spelling c.args.bytes.now c.loop.counter c.loop.lists c.loop.rest.now c.in_ok-lists.field-0-0 c.in_ok-lists.field-0-1.now c.loop.invariant (sym c.in_ok-lists.ensures) some

pub returns-clause-only : goal.returns-clause-only
returns-clause-only c = passes_over c.args.spelling c.args.bytes.now c.loop.counter c.loop.lists c.loop.rest.now (omega arith) c.loop.invariant
