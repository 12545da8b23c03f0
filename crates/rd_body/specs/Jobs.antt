-- What the body of a job comes to.
use Rattle.std.specs.Prelude.{ℕ, List, Result, Ok, Err}
use Rattle.rd_value.specs.declared.value.ErrorValue.{ErrorValue}
use Rattle.rd_value.specs.declared.value.FileValue.{FileValue}
use Rattle.rd_value.specs.declared.value.Datum.{Datum}
use Rattle.rd_value.specs.declared.expr.Lazy.{Lazy}
use Rattle.rd_code.specs.declared.code.TaskCode.{TaskCode}
use Rattle.rd_interpreter.specs.Running.{own}
use Rattle.rd_body.specs.declared.job.Reduction.{Reduction}
use Rattle.rd_body.specs.declared.job.Reduction.TheVariants as made
use Rattle.rd_body.specs.Code.{meaning}

-- an expression, or a failure that has this origin
abbrev pub reduction : List ℕ → Result (Lazy FileValue) ErrorValue → Reduction
reduction origin (Ok e) = made.Expr e
reduction origin (Err e) = made.Failed (record { class = e.class; text = e.text; origin = origin })

-- what a task's code comes to on its arguments
abbrev pub outcome : TaskCode → List (Datum FileValue) → Reduction
outcome code args = reduction code.full_name (meaning own code args)
