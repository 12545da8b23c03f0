use Rattle.std.proofs.Common.{sym}
use Rattle.std.proofs.lemmas.Result.{err_from_is_err_and}
use Rattle.rd_interpreter.proofs.MethodValues.{made_join, failed_join}
use Rattle.rd_interpreter.proofs.methods.on_text.join.Goals as goal

pub returns-clause-gives : goal.returns-clause-gives
returns-clause-gives c = rw (sym c.in_ok-copy.ensures) (made_join _ _ _ _ _ _ c.in_ok-draft.ensures c.drafted.ensures.gives)

pub returns-in_err-draft-clause-gives : goal.returns-in_err-draft-clause-gives
returns-in_err-draft-clause-gives c =
    let p = err_from_is_err_and c.from_residual-in_err-draft.result c.from_residual-in_err-draft.ensures.1 in
    rw (p.1, p.2, sym c.in_ok-copy.ensures) (failed_join _ _ _ _ c.in_err-draft.ensures)
