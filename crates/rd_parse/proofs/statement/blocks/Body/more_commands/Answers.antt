use Rattle.std.proofs.Common.{sym, ◌∙◌}
use Rattle.std.proofs.lemmas.Result.{err_from_is_err_and}
use Rattle.rd_parse.proofs.Blocks.{commands_go_on, commands_fail, commands_done}
use Rattle.rd_parse.proofs.Statements.{command_short}
use Rattle.rd_parse.proofs.statement.blocks.Body.more_commands.Goals as goal

pub returns-in_err-next : goal.returns-in_err-next
returns-in_err-next g c =
    let p = err_from_is_err_and c.from_residual-in_err-next.result c.from_residual-in_err-next.ensures.1 in
    rw (p.1, p.2) (commands_fail c.args.depth c.loop-rest.all.items c.loop-rest.rest.now c.in_err-next.field-0.0 _ (sym c.begins_statement.ensures ∙ c.loop-rest-test.true) c.in_err-next.ensures c.loop-rest.invariant)

pub loop-rest-smaller : goal.loop-rest-smaller
loop-rest-smaller g c = command_short c.args.depth c.in_ok-next.next c.loop-rest.rest.now c.in_ok-next.after.now c.in_ok-next.ensures

pub loop-rest-preserved : goal.loop-rest-preserved
loop-rest-preserved g c =
    sym (commands_go_on c.args.depth c.loop-rest.all.items _ c.in_ok-next.next c.loop-rest.rest.now c.in_ok-next.after.now c.in_ok-keep-2.ensures (sym c.begins_statement.ensures ∙ c.loop-rest-test.true) c.in_ok-next.ensures) ∙ c.loop-rest.invariant

pub returns : goal.returns
returns g c = sym c.loop-rest.invariant ∙ commands_done c.args.depth c.loop-rest.all.items c.loop-rest.rest.now (sym c.begins_statement.ensures ∙ c.loop-rest-test.false)
