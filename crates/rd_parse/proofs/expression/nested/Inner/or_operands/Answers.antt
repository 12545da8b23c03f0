use Rattle.std.proofs.Common.{sym, ◌∙◌}
use Rattle.std.proofs.lemmas.Result.{err_from_is_err_and}
use Rattle.rd_parse.specs.declared.terminal.Terminal.TheVariants as w
use Rattle.rd_parse.specs.Reader.{hits}
use Rattle.rd_parse.specs.Terminal.{is}
use Rattle.rd_parse.specs.Reading.{inner, read_or}
use Rattle.rd_parse.proofs.Loops.{plain_goes_on, plain_done}
use Rattle.rd_parse.proofs.Halts.{plain_fails}
use Rattle.rd_parse.proofs.Nested.{or_short}
use Rattle.rd_parse.proofs.expression.nested.Inner.or_operands.Goals as goal

pub returns-in_err-next : goal.returns-in_err-next
returns-in_err-next g c =
    let p = err_from_is_err_and c.from_residual.result c.from_residual.ensures.1 in
    rw (p.1, p.2) (plain_fails (hits (is w.Or)) (read_or c.args.depth (inner c.args.depth)) (or_short c.args.depth) c.loop-rest.all.items c.loop-rest.rest.now c.in_err-next.field-0.0 _
    (sym c.begins_with.ensures ∙ c.loop-rest-test.true) c.in_err-next.ensures c.loop-rest.invariant)

pub loop-rest-smaller : goal.loop-rest-smaller
loop-rest-smaller g c = or_short c.args.depth c.in_ok-next.next c.loop-rest.rest.now c.in_ok-next.after.now c.in_ok-next.ensures

pub loop-rest-preserved : goal.loop-rest-preserved
loop-rest-preserved g c =
    rw c.in_ok-push.ensures.items (sym (plain_goes_on (hits (is w.Or)) (read_or c.args.depth (inner c.args.depth)) (or_short c.args.depth) c.loop-rest.all.items c.loop-rest.rest.now c.in_ok-next.after.now c.in_ok-next.next
    (sym c.begins_with.ensures ∙ c.loop-rest-test.true) c.in_ok-next.ensures) ∙ c.loop-rest.invariant)

pub returns : goal.returns
returns g c = sym c.loop-rest.invariant ∙ plain_done (hits (is w.Or)) (read_or c.args.depth (inner c.args.depth)) (or_short c.args.depth) c.loop-rest.all.items c.loop-rest.rest.now (sym c.begins_with.ensures ∙ c.loop-rest-test.false)
