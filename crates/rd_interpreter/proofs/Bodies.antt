-- A body on its arguments, from what running it gives.
use Rattle.std.proofs.Common.{◌≡◌, ℕ, List, map, Result, sym, ap, ◌∙◌}
use Rattle.rd_value.specs.declared.value.ErrorValue.{ErrorValue}
use Rattle.rd_value.specs.declared.value.FileValue.{FileValue}
use Rattle.rd_value.specs.declared.value.Datum.{Datum}
use Rattle.rd_value.specs.declared.expr.Lazy.{Lazy}
use Rattle.rd_value.specs.declared.expr.Lazy.TheVariants as lazy
use Rattle.rd_routine.specs.declared.routine.Routine.{Routine}
use Rattle.rd_interpreter.specs.Body.{most_calls, most_steps, reduced, run, whole}
use Rattle.rd_interpreter.specs.Running.{own, routine_of, calls_of}

-- what running gives decides the answer
pub whole_by : (hs : List Routine) (r : Routine) (args : List (Datum FileValue)) (held : List (Lazy FileValue)) (ran : Result (Lazy FileValue × ℕ) ErrorValue) → held ≡ map lazy.Val args → run own (calls_of hs most_calls) (routine_of r) held most_steps ≡ ran → whole own (map routine_of hs) (routine_of r) args ≡ reduced own ran
unfolding whole
whole_by hs r args held ran is h = ap (λ es. reduced own (run own (calls_of hs most_calls) (routine_of r) es most_steps)) (sym is) ∙ ap (reduced own) h
