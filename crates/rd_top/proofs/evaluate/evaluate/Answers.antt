use Rattle.rd_top.proofs.Fitting.{fits_ok, gives_ok, too_large}
use Rattle.rd_top.proofs.evaluate.evaluate.Goals as goal

pub returns-in-Ok-clause-fits : goal.returns-in-Ok-clause-fits
returns-in-Ok-clause-fits c = fits_ok c.args.«module».now c.args.expr.now _ _ c.in-Ok.ensures.gives

pub returns-in-Ok-clause-gives : goal.returns-in-Ok-clause-gives
returns-in-Ok-clause-gives c = gives_ok c.args.«module».now c.args.expr.now _ _ c.in-Ok.ensures.gives

pub returns-in-Err-clause-too_large : goal.returns-in-Err-clause-too_large
returns-in-Err-clause-too_large c = too_large c.args.«module».now c.args.expr.now _ _ c.in-Err.ensures.gives
