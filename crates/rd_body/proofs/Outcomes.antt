-- What is run of a job is what its code comes to.
use Rattle.std.proofs.Common.{◌≡◌, List, map, Result, ap, ◌∙◌}
use Rattle.rd_value.specs.declared.value.ErrorValue.{ErrorValue}
use Rattle.rd_value.specs.declared.value.FileValue.{FileValue}
use Rattle.rd_value.specs.declared.value.Datum.{Datum}
use Rattle.rd_value.specs.declared.expr.Lazy.{Lazy}
use Rattle.rd_routine.specs.declared.routine.Routine.{Routine}
use Rattle.rd_code.specs.declared.code.TaskCode.{TaskCode}
use Rattle.rd_code.specs.Numbering.{word_in, numbered, numbered_helper}
use Rattle.rd_interpreter.specs.Body.{whole}
use Rattle.rd_interpreter.specs.Running.{own, routine_of}
use Rattle.rd_body.specs.declared.job.Reduction.{Reduction}
use Rattle.rd_body.specs.Jobs.{reduction, outcome}
use Rattle.rd_body.proofs.Codes.{code_runs}

module _ (code d : TaskCode) (args given : List (Datum FileValue)) (routines : List Routine) (routine : Routine) (reduced : Result (Lazy FileValue) ErrorValue) (r : Reduction) where
  pub outcome_of : d ≡ code → routines ≡ map (numbered_helper (word_in d.helpers d.names)) d.helpers → routine ≡ numbered (word_in d.helpers d.names) d.signature.parameters d.body → given ≡ args
      → reduced ≡ whole own (map routine_of routines) (routine_of routine) given → r ≡ reduction d.full_name reduced → r ≡ outcome code args
  outcome_of is all one same ran made =
      made
      ∙ ap (reduction d.full_name)
      (ran ∙ ap (λ rs. whole own (map routine_of rs) (routine_of routine) given) all
      ∙ ap (λ x. whole own (map routine_of (map (numbered_helper (word_in d.helpers d.names)) d.helpers)) (routine_of x) given) one
      ∙ code_runs d.helpers d.names d.signature.parameters d.body given)
      ∙ ap (outcome d) same ∙ ap (λ k. outcome k args) is
