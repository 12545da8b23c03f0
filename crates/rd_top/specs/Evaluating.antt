-- What an evaluator returns that counts the expressions it meets.
use Rattle.std.specs.Prelude.{◌≡◌, ℕ, ◌+◌, ◌<◌, ◌≤◌, ◌⊎◌, List, ◌∷◌, ◌++◌, if◌then◌else◌, Result, Ok, Err}
use Rattle.rd_value.specs.declared.class.Class.{Class}
use Rattle.rd_value.specs.declared.value.FileValue.{FileValue}
use Rattle.rd_value.specs.declared.value.Datum.{Datum}
use Rattle.rd_value.specs.declared.expr.Lazy.{Lazy, out-Lazy}
use Rattle.rd_value.specs.declared.failure.Failure.{Failure}
use Rattle.rd_value.specs.declared.failure.Outcome.{Outcome}
use Rattle.rd_value.specs.declared.failure.Outcome.TheVariants as outcome
use Rattle.rd_value.specs.Truth.{truth}
use Rattle.rd_tree.specs.declared.tree.Function.{Function}
use Rattle.rd_tree.specs.declared.tree.Module.{Module}
use Rattle.rd_top.specs.declared.evaluate.Gathered.{Gathered}
use Rattle.rd_top.specs.declared.evaluate.Gathered.TheVariants as gathered
use Rattle.rd_top.specs.declared.evaluate.Stop.{Stop}
use Rattle.rd_top.specs.declared.evaluate.Stop.TheVariants.{TooLarge, OutOfMemory}
use Rattle.rd_top.specs.Running.{own}
use Rattle.rd_registry.specs.Fresh as fresh
use Rattle.rd_registry.specs.Fresh.{Answer, Gives, Failed, Deep, Out, Arguments, join, then_, failing, given, recovered, calling, entered, go_on, step, run}
use Rattle.rd_registry.specs.Fits.{most_met, count_met}

abbrev pub answer_of : Outcome → Answer (Datum FileValue)
answer_of (outcome.Value v) = Gives v
answer_of (outcome.Failed f) = Failed f

abbrev pub answers_of : {A : Type 0} → Gathered A → Answer A
answers_of (gathered.All vs) = Gives vs
answers_of (gathered.Failed f) = Failed f

-- The evaluation gives what was returned, and counting from the first number, its expressions lead to the second.
pub record Within {A X : Type 0} (view : X → Answer A) (o : Out FileValue A) (old new : ℕ) (r : X) : Type 0 where
  pub gives : o.answer ≡ view r
  pub counted : new ≡ old + count_met o.events
  pub fits : new ≤ most_met

-- it is Deep, or meets too many expressions
unfoldable pub IsPast : {A : Type 0} → Out FileValue A → ℕ → Type 0
IsPast o old = (o.answer ≡ Deep) ⊎ (most_met < old + count_met o.events)

unfoldable pub Evaluates : {A X : Type 0} → (X → Answer A) → Out FileValue A → ℕ → ℕ → Result X Stop → Type 0
Evaluates view o old new (Ok r) = Within view o old new r
Evaluates view o old new (Err TooLarge) = IsPast o old
Evaluates view o old new (Err OutOfMemory) = Unit {0}

-- what was gathered, and then what comes of the items behind
unfoldable pub ahead : {W : Type 0} → Gathered (List W) → Answer (List W) → Answer (List W)
ahead g more = join ◌++◌ (answers_of g) more

-- what comes of an item with this answer, and then of the items behind
unfoldable pub in_front : {V W : Type 0} → (V → W) → Answer V → Answer (List W) → Answer (List W)
in_front put a more = join (λ v ws. put v ∷ ws) a more

-- what comes of the values of evaluated parts
unfoldable pub after : {A : Type 0} → Out FileValue A → (A → Out FileValue (Datum FileValue)) → Out FileValue (Datum FileValue)
after o go = then_ o go failing

-- what comes of a failure, where a value stays as it is
unfoldable pub otherwise : Out FileValue (Datum FileValue) → (Failure → Out FileValue (Datum FileValue)) → Out FileValue (Datum FileValue)
otherwise o fail = then_ o given fail

module _ (m : Module) (depth : ℕ) where
  -- what an expression gives at the depth, and at the next one
  unfoldable pub at_depth : Lazy FileValue → Out FileValue (Datum FileValue)
  at_depth = run own m depth

  unfoldable pub step_out : Lazy FileValue → Out FileValue (Datum FileValue)
  step_out e = step own (calling own m at_depth) at_depth (out-Lazy FileValue e)

  -- what is evaluated of a call, of a list and of a dict
  unfoldable pub arguments_out : List (Lazy FileValue) → List (List ℕ × Lazy FileValue) → Out FileValue (Arguments FileValue)
  arguments_out es ks = fresh.arguments at_depth es ks

  unfoldable pub parts_out : List (Lazy FileValue) → Out FileValue (List (Datum FileValue))
  parts_out es = fresh.parts at_depth es

  unfoldable pub seconds_out : {K : Type 0} → List (K × Lazy FileValue) → Out FileValue (List (K × Datum FileValue))
  seconds_out ps = fresh.seconds at_depth ps

  -- what is evaluated of a branch, of the calls of a task with each item, and of a recovery
  unfoldable pub branch_out : Lazy FileValue → Lazy FileValue → Datum FileValue → Out FileValue (Datum FileValue)
  branch_out when_true when_false v = at_depth (if truth v then when_true else when_false)

  unfoldable pub mapped_out : List ℕ → Datum FileValue → Out FileValue (Datum FileValue)
  mapped_out task v = fresh.mapped own at_depth task v

  unfoldable pub recovered_out : Class → List ℕ → Failure → Out FileValue (Datum FileValue)
  recovered_out class recover f = recovered at_depth class recover f

  -- a call of values, a bound call, and an expression that is met
  unfoldable pub values_out : List ℕ → Arguments FileValue → Out FileValue (Datum FileValue)
  values_out task args = calling own m at_depth task args

  unfoldable pub body_out : List ℕ → Function → List (Datum FileValue) → Out FileValue (Datum FileValue)
  body_out task f args = entered own m at_depth task f (Ok args)

  unfoldable pub met_out : Lazy FileValue → Out FileValue (Datum FileValue)
  met_out e = go_on at_depth e
