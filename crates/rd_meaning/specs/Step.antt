-- What a step comes to.
use Rattle.std.specs.Prelude.{◌≡◌, ◌⊎◌, ℕ, List, Result, Ok, Err}
use Rattle.rd_value.specs.declared.value.ErrorValue.{ErrorValue}
use Rattle.rd_value.specs.declared.failure.Failure.{Failure}
use Rattle.rd_meaning.specs.declared.step.StepError.{StepError}
use Rattle.rd_meaning.specs.declared.step.StepError.TheVariants.{Failed, OutOfMemory}

-- an error as a failure with its origin
abbrev pub failure_in : List ℕ → ErrorValue → Failure
failure_in origin e = record { class = e.class; text = e.text; origin = origin }

-- a failure as the error of which it was made
abbrev pub error_of : Failure → ErrorValue
error_of f = record { class = f.class; text = f.text }

-- the answer of a step with this origin
abbrev pub step_in : {A : Type 0} → List ℕ → Result A ErrorValue → Result A StepError
step_in origin (Ok x) = Ok x
step_in origin (Err e) = Err (Failed (failure_in origin e))

-- the answer, unless memory ran out
abbrev pub ComesTo : {A : Type 0} → Result A StepError → Result A StepError → Type 0
ComesTo result answer = (result ≡ answer) ⊎ (result ≡ Err OutOfMemory)
