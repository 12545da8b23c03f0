-- Fresh evaluation, by recursion on the depth: nothing is remembered, nothing is recorded, and all that happens is told.
use Rattle.std.specs.Prelude.{ℕ, zero, suc, List, [], ◌∷◌, ◌++◌, map, if◌then◌else◌, Option, None, Some, Result, Ok, Err}
use Rattle.rd_value.specs.declared.class.Class.{Class}
use Rattle.rd_value.specs.declared.class.Class.TheVariants.{NameError}
use Rattle.rd_value.specs.declared.value.ErrorValue.{ErrorValue}
use Rattle.rd_value.specs.declared.value.FileValue.{FileValue}
use Rattle.rd_value.specs.declared.value.Datum.{Datum}
use Rattle.rd_value.specs.declared.value.Datum.TheVariants as value
use Rattle.rd_value.specs.declared.expr.OpKind.{OpKind}
use Rattle.rd_value.specs.declared.expr.Lazy.{Lazy, out-Lazy}
use Rattle.rd_value.specs.declared.expr.Lazy.TheOpen.{Lazy-F}
use Rattle.rd_value.specs.declared.failure.Failure.{Failure}
use Rattle.rd_value.specs.Bind.{bind}
use Rattle.rd_value.specs.Expand.{expand_map, expand_catch}
use Rattle.rd_value.specs.Operators.{applied, kept}
use Rattle.rd_value.specs.Raise.{raised}
use Rattle.rd_value.specs.Truth.{truth}
use Rattle.rd_meaning.specs.Step.{error_of, failure_in}
use Rattle.rd_tree.specs.declared.tree.Function.{Function}
use Rattle.rd_tree.specs.declared.tree.Module.{Module}
use Rattle.rd_registry.specs.Bodies.{find_task, signature_of, body}

-- a task with its bound arguments
pub record Visit (F : Type 0) : Type 0 where
  pub task : List ℕ
  pub args : List (Datum F)

pub data What (F : Type 0) : Type 0 where
  -- a call was bound
  Bound : Visit F → What F
  -- a call of this task couldn't be bound
  Unbound : List ℕ → What F
  -- an expression was met, with all expressions in it
  Met : Lazy F → What F

-- what happened, and in the result of which call
pub record Event (F : Type 0) : Type 0 where
  pub what : What F
  pub parent : Option (Visit F)

pub data Answer (A : Type 0) : Type 0 where
  Gives : A → Answer A
  Failed : Failure → Answer A
  -- no answer within the depth
  Deep : Answer A

-- an answer, and what happened on the way, leftmost first
pub record Out (F A : Type 0) : Type 0 where
  pub answer : Answer A
  pub events : List (Event F)

-- an answer with something else in place of its value
abbrev pub answer_map : {A B : Type 0} → (A → B) → Answer A → Answer B
answer_map k (Gives a) = Gives (k a)
answer_map k (Failed f) = Failed f
answer_map k Deep = Deep

abbrev pub plain : {F A : Type 0} → Answer A → Out F A
plain a = record { answer = a; events = [] }

abbrev pub failing : {F A : Type 0} → Failure → Out F A
failing f = plain (Failed f)

abbrev pub before : {F A : Type 0} → List (Event F) → Out F A → Out F A
before es o = record { answer = o.answer; events = es ++ o.events }

-- Deep outweighs a failure, and the left failure comes first.
abbrev pub join : {A B C : Type 0} → (A → B → C) → Answer A → Answer B → Answer C
join f (Gives a) (Gives b) = Gives (f a b)
join f (Gives a) (Failed g) = Failed g
join f (Gives a) Deep = Deep
join f (Failed e) (Gives b) = Failed e
join f (Failed e) (Failed g) = Failed e
join f (Failed e) Deep = Deep
join f Deep b = Deep

-- both are evaluated
abbrev pub both : {F A B C : Type 0} → (A → B → C) → Out F A → Out F B → Out F C
both f o p = record { answer = join f o.answer p.answer; events = o.events ++ p.events }

abbrev pub on_answer : {F A B : Type 0} → Answer A → (A → Out F B) → (Failure → Out F B) → Out F B
on_answer (Gives a) go fail = go a
on_answer (Failed f) go fail = fail f
on_answer Deep go fail = plain Deep

-- goes on with a value, or with a failure
abbrev pub then_ : {F A B : Type 0} → Out F A → (A → Out F B) → (Failure → Out F B) → Out F B
then_ o go fail = before o.events (on_answer o.answer go fail)

abbrev pub event : {F : Type 0} → What F → Event F
event w = record { what = w; parent = None }

abbrev pub nearest : {F : Type 0} → Visit F → Option (Visit F) → Option (Visit F)
nearest c None = Some c
nearest c (Some d) = Some d

-- what stands in no call yet stands in this one
abbrev pub under : {F : Type 0} → Visit F → Event F → Event F
under c e = record { what = e.what; parent = nearest c e.parent }

abbrev pub inside : {F A : Type 0} → Visit F → Out F A → Out F A
inside c o = record { answer = o.answer; events = map (under c) o.events }

-- ---- parts

-- What all items come to, also behind one that fails. `put` makes the result of an item of its value.
abbrev pub gathered : {F X V W : Type 0} → (X → V → W) → (X → Out F V) → List X → Out F (List W)
gathered put ev [] = plain (Gives [])
gathered put ev (x ∷ xs) = both (λ v ws. put x v ∷ ws) (ev x) (gathered put ev xs)

abbrev pub alone : {X V : Type 0} → X → V → V
alone x v = v

-- all parts
abbrev pub parts : {F : Type 0} → (Lazy F → Out F (Datum F)) → List (Lazy F) → Out F (List (Datum F))
parts ev es = gathered alone ev es

abbrev pub beside : {K E V : Type 0} → K × E → V → K × V
beside p v = (p.0, v)

abbrev pub second : {F K : Type 0} → (Lazy F → Out F (Datum F)) → K × Lazy F → Out F (Datum F)
second ev p = ev p.1

-- the second parts of pairs, each beside its first
abbrev pub seconds : {F K : Type 0} → (Lazy F → Out F (Datum F)) → List (K × Lazy F) → Out F (List (K × Datum F))
seconds ev ps = gathered beside (second ev) ps

-- arguments by position, and by keyword
abbrev pub Arguments : Type 0 → Type 0
Arguments F = List (Datum F) × List (List ℕ × Datum F)

abbrev pub paired : {A B : Type 0} → A → B → A × B
paired a b = (a, b)

-- all positional arguments, then all keywords'
abbrev pub arguments : {F : Type 0} → (Lazy F → Out F (Datum F)) → List (Lazy F) → List (List ℕ × Lazy F) → Out F (Arguments F)
arguments ev es ks = both paired (parts ev es) (seconds ev ks)

-- ---- calls

-- an expression that a body gave is met, and then evaluated
abbrev pub go_on : {F : Type 0} → (Lazy F → Out F (Datum F)) → Lazy F → Out F (Datum F)
go_on ev e = before (event (Met e) ∷ []) (ev e)

-- what a body or an expansion came to, with the origin of its error
abbrev pub on_body : {F : Type 0} → (Lazy F → Out F (Datum F)) → List ℕ → Result (Lazy F) ErrorValue → Out F (Datum F)
on_body ev origin (Ok e) = go_on ev e
on_body ev origin (Err e) = failing (failure_in origin e)

abbrev pub visit : {F : Type 0} → List ℕ → List (Datum F) → Visit F
visit task args = record { task = task; args = args }

module _ {F : Type 0} (file : F → FileValue) (m : Module) where
  -- a call whose arguments were bound or not
  abbrev pub entered : (Lazy F → Out F (Datum F)) → List ℕ → Function → Result (List (Datum F)) ErrorValue → Out F (Datum F)
  entered ev task f (Ok args) = before (event (Bound (visit task args)) ∷ []) (inside (visit task args) (on_body ev task (body file m f args)))
  entered ev task f (Err e) = before (event (Unbound task) ∷ []) (failing (failure_in task e))

  -- a call of the task that was found
  abbrev pub call : (Lazy F → Out F (Datum F)) → List ℕ → Option Function → Arguments F → Out F (Datum F)
  call ev task None args = before (event (Unbound task) ∷ []) (failing (failure_in [] (raised NameError task)))
  call ev task (Some f) args = entered ev task f (bind file (signature_of f) args.0 args.1)

  -- a call of the task of a full name
  abbrev pub calling : (Lazy F → Out F (Datum F)) → List ℕ → Arguments F → Out F (Datum F)
  calling ev task args = call ev task (find_task m task) args

-- ---- evaluation

-- what was made of evaluated parts
abbrev pub made : {F : Type 0} → Result (Datum F) ErrorValue → Out F (Datum F)
made (Ok v) = plain (Gives v)
made (Err e) = failing (failure_in [] e)

-- a value as it is
abbrev pub given : {F : Type 0} → Datum F → Out F (Datum F)
given v = plain (Gives v)

-- the call that recovers from a failure, if there is one
abbrev pub recovering : {F : Type 0} → (Lazy F → Out F (Datum F)) → Failure → Option (Lazy F) → Out F (Datum F)
recovering ev f (Some e) = go_on ev e
recovering ev f None = failing f

-- what comes of a failure that a class may catch
abbrev pub recovered : {F : Type 0} → (Lazy F → Out F (Datum F)) → Class → List ℕ → Failure → Out F (Datum F)
recovered ev class recover f = recovering ev f (expand_catch class recover (error_of f))

module _ {F : Type 0} (file : F → FileValue) where
  abbrev pub listed : List (Datum F) → Out F (Datum F)
  listed vs = made (kept file (value.List vs))

  abbrev pub keyed : List (Datum F × Datum F) → Out F (Datum F)
  keyed ps = made (kept file (value.Dict ps))

  -- an operator on evaluated parts
  abbrev pub operated : OpKind → List (Datum F) → Out F (Datum F)
  operated kind vs = made (applied file kind vs)

  -- the calls of a task with each item of a list
  abbrev pub mapped : (Lazy F → Out F (Datum F)) → List ℕ → Datum F → Out F (Datum F)
  mapped ev task v = on_body ev [] (expand_map file task v)

  -- One step: what an expression gives where its parts are evaluated by `ev` and calls of values by `calls`. Of a Cond, only the branch that is taken. No body makes an Input yet.
  abbrev pub step : (List ℕ → Arguments F → Out F (Datum F)) → (Lazy F → Out F (Datum F)) → Lazy-F F (Lazy F) → Out F (Datum F)
  step calls ev (Lazy-F.Val v) = plain (Gives v)
  step calls ev (Lazy-F.Call task positional keywords) = then_ (arguments ev positional keywords) (calls task) failing
  step calls ev (Lazy-F.ListOf es) = then_ (parts ev es) listed failing
  step calls ev (Lazy-F.DictOf ps) = then_ (seconds ev ps) keyed failing
  step calls ev (Lazy-F.Op kind es) = then_ (parts ev es) (operated kind) failing
  step calls ev (Lazy-F.Cond test when_true when_false) = then_ (ev test) (λ v. ev (if truth v then when_true else when_false)) failing
  step calls ev (Lazy-F.Map task list) = then_ (ev list) (mapped ev task) failing
  step calls ev (Lazy-F.Catch tried class recover) = then_ (ev tried) given (recovered ev class recover)
  step calls ev (Lazy-F.Input path) = plain Deep

abbrev pub at_zero : {F : Type 0} → Lazy-F F (Lazy F) → Out F (Datum F)
at_zero (Lazy-F.Val v) = plain (Gives v)
at_zero _ = plain Deep

module _ {F : Type 0} (file : F → FileValue) (m : Module) where
  unfoldable pub run : ℕ → Lazy F → Out F (Datum F)
  run zero e = at_zero (out-Lazy F e)
  run (suc n) e = step file (calling file m (run n)) (run n) (out-Lazy F e)

  -- the answer at a depth
  unfoldable pub fresh : ℕ → Lazy F → Answer (Datum F)
  fresh n e = (run n e).answer

  -- what happens at a depth
  unfoldable pub trace : ℕ → Lazy F → List (Event F)
  trace n e = event (Met e) ∷ (run n e).events
