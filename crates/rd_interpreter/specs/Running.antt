-- What running a part of a body returns.
use Rattle.std.specs.Prelude.{◌≡◌, ℕ, nat_le, true, false, ◌==◌, List, [], map, if◌then◌else◌, slice_index_or, Option, Some, None, Result, Ok, Err}
use Rattle.std.specs.List.{slice_get}
use Rattle.std.specs.Option.{option_map}
use Rattle.std.specs.declared.alloc.Global.{Global}
use Rattle.std.specs.declared.vec.Vec.{Vec}
use Rattle.rd_value.specs.declared.class.Class.{Class}
use Rattle.rd_value.specs.declared.value.ErrorValue.{ErrorValue}
use Rattle.rd_value.specs.declared.value.FileValue.{FileValue}
use Rattle.rd_value.specs.declared.expr.Lazy.{Lazy}
use Rattle.rd_value.specs.declared.expr.Lazy.TheVariants as lazy
use Rattle.rd_interpreter.specs.declared.frame.Frame.{Frame}
use Rattle.rd_interpreter.specs.declared.halt.Halt.{Halt}
use Rattle.rd_interpreter.specs.declared.halt.Halt.TheVariants.{Raised, OutOfMemory}
use Rattle.rd_routine.specs.declared.routine.Callee.{Callee}
use Rattle.rd_interpreter.specs.declared.scope.Scope.{Scope}
use Rattle.rd_routine.specs.declared.routine.Callee.TheVariants.{Unknown}
use Rattle.rd_routine.specs.declared.routine.Word.{Word}
use Rattle.rd_routine.specs.declared.routine.Parameter.{Parameter}
use Rattle.rd_routine.specs.declared.routine.Routine.{Routine}
use Rattle.rd_tree.specs.declared.tree.Node.{Node}
use Rattle.rd_tree.specs.declared.tree.Statement.{Statement}
use Rattle.rd_interpreter.specs.State.{State, Ran, Part, took, in_order, steps_limit}
use Rattle.rd_interpreter.specs.Body as body
use Rattle.rd_interpreter.specs.Body.{calling}

-- the files of the program's values are what they are
abbrev pub own : FileValue → FileValue
own f = f

-- What was returned is the answer, unless memory ran out.
abbrev pub Answers : {A : Type 0} → Result A Halt → Result A ErrorValue → Type 0
Answers (Ok a) answer = answer ≡ Ok a
Answers (Err (Raised e)) answer = answer ≡ Err e
Answers (Err OutOfMemory) answer = Unit {0}

-- What was returned is what a part of a body comes to, with this state behind it, unless memory ran out.
abbrev pub Gives : {N A : Type 0} → Result A Halt → State N FileValue → Ran N FileValue A → Type 0
Gives (Ok a) s ran = ran ≡ Ok (a, s)
Gives (Err (Raised e)) s ran = ran ≡ Err e
Gives (Err OutOfMemory) s ran = Unit {0}

-- the error, unless memory ran out
abbrev pub Raises : Halt → ErrorValue → Type 0
Raises (Raised e) error = e ≡ error
Raises OutOfMemory error = Unit {0}

-- so many steps were taken, or there were too few
abbrev pub Spends : {N : Type 0} → Result (Unit {0}) Halt → ℕ → State N FileValue → State N FileValue → Type 0
Spends (Ok u) steps old new = (nat_le steps old.left ≡ true) × (new ≡ took steps old)
Spends (Err (Raised e)) steps old new = (nat_le steps old.left ≡ false) × (e ≡ steps_limit)
Spends (Err OutOfMemory) steps old new = Unit {0}

-- ---- locals

-- the value of a local, by its number
abbrev pub local : List (Option (Lazy FileValue)) → ℕ → Option (Lazy FileValue)
local values slot = slice_index_or values slot None

-- locals with another value for one of them
abbrev pub with_local : (ℕ → Option (Lazy FileValue)) → ℕ → Option (Lazy FileValue) → ℕ → Option (Lazy FileValue)
with_local names slot value other = if other == slot then value else names other

-- where a function has come to
unfoldable pub state : Frame → State ℕ FileValue
state k = record { names = local k.locals.items; left = k.left }

-- ---- functions with numbers in the place of names

-- what stands at a place, or something else where nothing does
abbrev pub or_at : {A B : Type 0} → (A → B) → B → Option A → B
or_at f other None = other
or_at f other (Some a) = f a

abbrev pub spelling_at : List Word → ℕ → List ℕ
spelling_at words n = or_at (λ w. w.spelling) [] (slice_get words n)

abbrev pub callee_at : List Word → ℕ → Callee
callee_at words n = or_at (λ w. w.callee) Unknown (slice_get words n)

abbrev pub class_at : List Word → ℕ → Option Class
class_at words n = or_at (λ w. w.class) None (slice_get words n)

abbrev pub parameter_of : Parameter → ℕ × Option (Lazy FileValue)
parameter_of p = (p.slot, option_map lazy.Val p.default)

-- a function as the definitions know it
abbrev pub routine_of : Routine → body.Routine ℕ FileValue
routine_of r = record { same = ◌==◌; spelling = spelling_at r.words; callee = callee_at r.words; class_of = class_at r.words; parameters = map parameter_of r.parameters; block = r.block }

-- what a call of a helper gives, where so many more may be open
abbrev pub calls_of : List Routine → ℕ → body.Calls FileValue
calls_of helpers spare = calling own (map routine_of helpers) spare

-- what a scope's helpers give
abbrev pub calls_in : Scope → body.Calls FileValue
calls_in k = calls_of k.helpers.now k.spare

-- a scope's function
abbrev pub function_in : Scope → body.Routine ℕ FileValue
function_in k = routine_of k.routine.now

-- what an expression means in a scope
abbrev pub meant : Scope → Node ℕ → Part ℕ FileValue (Lazy FileValue)
meant k = body.node own (calls_in k) (function_in k)

-- what a statement does in a scope
abbrev pub done : Scope → Statement ℕ → Part ℕ FileValue (Option (Lazy FileValue))
done k = body.statement own (calls_in k) (function_in k)

-- statements in a scope, one after the other
abbrev pub all_done : Scope → List (Statement ℕ) → Part ℕ FileValue (Option (Lazy FileValue))
all_done k ss = in_order (map (done k) ss)

-- a local with another value
abbrev pub put : ℕ → Option (Lazy FileValue) → State ℕ FileValue → State ℕ FileValue
put slot value s = record s { names = with_local s.names slot value }

-- a branch: its test and its block
abbrev pub branch_in : Scope → Node ℕ × List (Part ℕ FileValue (Option (Lazy FileValue))) → Part ℕ FileValue (Lazy FileValue) × Part ℕ FileValue (Option (Lazy FileValue))
branch_in k = body.branch own (calls_in k) (function_in k)

-- the same of what is returned as a vector
abbrev pub GivesItems : {N A : Type 0} → Result (Vec A Global) Halt → State N FileValue → Ran N FileValue (List A) → Type 0
GivesItems (Ok v) s ran = ran ≡ Ok (v.items, s)
GivesItems (Err (Raised e)) s ran = ran ≡ Err e
GivesItems (Err OutOfMemory) s ran = Unit {0}

-- with so many steps left
abbrev pub with_left : ℕ → State ℕ FileValue → State ℕ FileValue
with_left left s = record s { left = left }

-- the items, none where there is no list
abbrev pub items_or_none : Option (List (Lazy FileValue)) → List (Lazy FileValue)
items_or_none None = []
items_or_none (Some es) = es
