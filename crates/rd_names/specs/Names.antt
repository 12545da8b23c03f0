-- The rules of names.
use Rattle.std.specs.Prelude.{◌≡◌, ◌≢◌, ◌≤◌, ◌⊎◌, ℕ, Bool, true, false, not, ◌&&◌, ◌||◌, if◌then◌else◌, List, [], ◌∷◌, ◌++◌, map, length, drop, Option, None, Some, is_some, IfSome, codes}
use Rattle.std.specs.List.{All, AllPairs, Contains, list_any}
use Rattle.std.specs.Str.{bytes_eq}
use Rattle.rd_value.specs.declared.class.Class.TheVariants as c
use Rattle.rd_value.specs.Class as class
use Rattle.rd_tree.specs.declared.tree.Name.{Name}
use Rattle.rd_tree.specs.declared.tree.Node.{Node}
use Rattle.rd_tree.specs.declared.tree.Statement.{Statement}
use Rattle.rd_tree.specs.declared.tree.TaskOption.{TaskOption}
use Rattle.rd_tree.specs.declared.tree.Parameter.{Parameter}
use Rattle.rd_tree.specs.declared.tree.Function.{Function}
use Rattle.rd_tree.specs.declared.tree.Module.{Module}
use Rattle.rd_names.specs.declared.refusal.Broken.{Broken}
use Rattle.rd_names.specs.declared.refusal.Broken.TheVariants as b
use Rattle.rd_names.specs.declared.refusal.Refusal.{Refusal}
use Rattle.rd_names.specs.Spelling.{is_dotted}
use Rattle.rd_names.specs.Options.{is_accepted, task_name, first_space}
use Rattle.rd_names.specs.declared.known.Known.{Known as Sets}
use Rattle.rd_names.specs.Uses.{Role, Value, Called, Misused, Class, Task, Use, joined, uses, statement_uses, body_uses, locals}

-- the builtins that a source may call
abbrev pub offered : List (List ℕ)
offered = codes "len" ∷ codes "str" ∷ codes "int" ∷ codes "range" ∷ codes "sum" ∷ codes "min" ∷ codes "max" ∷ codes "sorted" ∷ codes "abs" ∷ codes "cond" ∷ codes "catch" ∷ codes "map_" ∷ []

-- the builtin that is kept for later
abbrev pub later : List (List ℕ)
later = codes "File" ∷ []

abbrev pub builtins : List (List ℕ)
builtins = offered ++ later

abbrev pub error_classes : List (List ℕ)
error_classes =
    class.name c.Exception ∷ class.name c.ValueError ∷ class.name c.TypeError ∷ class.name c.KeyError ∷ class.name c.IndexError ∷ class.name c.ZeroDivisionError
    ∷ class.name c.OverflowError ∷ class.name c.FileNotFoundError ∷ class.name c.PermissionError ∷ class.name c.RuntimeError ∷ class.name c.RecursionError
    ∷ class.name c.AttributeError ∷ class.name c.NameError ∷ class.name c.LimitError ∷ []

-- ---- the rules

-- the texts of names
abbrev pub texts : List Name → List (List ℕ)
texts ns = map (λ n. n.text) ns

-- no text stands twice
abbrev pub AreDistinct : List Name → Type 0
AreDistinct ns = AllPairs ◌≢◌ (texts ns)

-- a local of the function, or the name of a comprehension around the use
abbrev pub IsLocal : List (List ℕ) → Use → Type 0
IsLocal locals u = Contains u.around u.name.text ⊎ Contains locals u.name.text

-- An offered builtin is called without keywords. Any other name that is called is a function of the module.
abbrev pub IsCallable : List (List ℕ) → List ℕ → List Name → Type 0
IsCallable functions x keywords = (Contains offered x × (keywords ≡ [])) ⊎ (¬ Contains builtins x × Contains functions x)

-- the rule for a name as what it stands
abbrev pub KeepsRole : (functions tasks : List (List ℕ)) → Type 0 → List ℕ → Role → Type 0
KeepsRole functions tasks local x Value = local
KeepsRole functions tasks local x (Called keywords) = (¬ local × IsCallable functions x keywords) × AreDistinct keywords
KeepsRole functions tasks local x (Misused keywords) = ⊥
KeepsRole functions tasks local x Class = ¬ local × Contains error_classes x
KeepsRole functions tasks local x Task = ¬ local × Contains tasks x

-- A value is a local. What is called, a class and a task are no locals. A keyword stands once in a call, and a special call has its form.
abbrev pub KeepsRule : (functions tasks locals : List (List ℕ)) → Use → Type 0
KeepsRule functions tasks locals u = KeepsRole functions tasks (IsLocal locals u) u.name.text u.role

abbrev pub option_names : List TaskOption → List Name
option_names os = map (λ o. o.name) os

abbrev pub parameter_names : List Parameter → List Name
parameter_names ps = map (λ p. p.name) ps

-- an option stands once, and is accepted
abbrev pub KeepsOptions : List TaskOption → Type 0
KeepsOptions os = AreDistinct (option_names os) × All (λ o. is_accepted o ≡ true) os

-- the names of one function
pub record KeepsOwn (functions tasks : List (List ℕ)) (f : Function) : Type 0 where
  pub options : IfSome f.task KeepsOptions
  pub parameters : AreDistinct (parameter_names f.parameters)
  pub uses : All (KeepsRule functions tasks (locals f)) (body_uses f.body)

abbrev pub function_names : List Function → List Name
function_names fs = map (λ f. f.name) fs

-- the name of a function that is a task
abbrev pub own_task : Function → List (List ℕ)
own_task f = if is_some f.task then f.name.text ∷ [] else []

-- the names of the functions that are tasks
abbrev pub own_tasks : List Function → List (List ℕ)
own_tasks fs = joined (map own_task fs)

-- the full names of the tasks
abbrev pub task_names : Option (List ℕ) → List Function → List Name
task_names space fs = joined (map (task_name space) fs)

-- neither a builtin nor an error class has the name
abbrev pub IsFree : Name → Type 0
IsFree n = ¬ Contains builtins n.text × ¬ Contains error_classes n.text

-- the names of a module
pub record KeepsNames (m : Module) : Type 0 where
  pub one_namespace : length m.namespaces ≤ 1
  pub dotted_namespaces : All (λ n. is_dotted n.text ≡ true) m.namespaces
  pub distinct_functions : AreDistinct (function_names m.functions)
  pub free_functions : All (λ f. IsFree f.name) m.functions
  pub distinct_tasks : AreDistinct (task_names (first_space m.namespaces) m.functions)
  pub each : All (KeepsOwn (texts (function_names m.functions)) (own_tasks m.functions)) m.functions

-- ---- the refusals

abbrev pub at : Broken → Name → Refusal
at rule n = record { rule = rule; line = n.line }

-- a refusal, unless the test holds
abbrev pub unless : Bool → Refusal → List Refusal
unless test r = if test then [] else r ∷ []

abbrev pub is_among : List (List ℕ) → List ℕ → Bool
is_among names x = list_any (bytes_eq x) names

-- the names with one more, if it isn't there
abbrev pub with_name : List (List ℕ) → List ℕ → List (List ℕ)
with_name names x = if is_among names x then names else names ++ x ∷ []

abbrev pub with_names : List (List ℕ) → List (List ℕ) → List (List ℕ)
with_names names [] = names
with_names names (x ∷ xs) = with_names (with_name names x) xs

-- a name behind an equal one
abbrev pub double : List (List ℕ) → Name → List Refusal
double seen n = unless (not (is_among seen n.text)) (at b.DoubleName n)

-- the names that stand behind an equal one
abbrev pub doubles : List (List ℕ) → List Name → List Refusal
doubles seen [] = []
doubles seen (n ∷ ns) = double seen n ++ doubles (with_name seen n.text) ns

-- which names the functions of a module have, and which its tasks
pub record Known : Type 0 where
  pub is_function : List ℕ → Bool
  pub is_task : List ℕ → Bool

-- what the program's sets tell
abbrev pub told_by : Sets → Known
told_by sets = record { is_function = is_among sets.functions.keys; is_task = is_among sets.tasks.keys }

-- what these functions tell
abbrev pub known_of : List Function → Known
known_of fs = record { is_function = is_among (texts (function_names fs)); is_task = is_among (own_tasks fs) }

abbrev pub is_callable : (List ℕ → Bool) → List ℕ → Bool → Bool
is_callable is_function x plain = if is_among builtins x then is_among offered x && plain else is_function x

abbrev pub is_empty : {X : Type 0} → List X → Bool
is_empty [] = true
is_empty (x ∷ xs) = false

-- no local, and callable with these keywords
abbrev pub may_be_called : Known → Bool → List ℕ → List Name → Bool
may_be_called known local x keywords = not local && is_callable known.is_function x (is_empty keywords)

-- a name that is called, unless it may be, and its keywords
abbrev pub call_refusals : Bool → Name → List Name → List Refusal
call_refusals may x keywords = unless may (at b.UnknownName x) ++ doubles [] keywords

-- the name of an error class
abbrev pub class_refusals : Bool → Name → List Refusal
class_refusals local x = unless (not local && is_among error_classes x.text) (at b.UnknownName x)

-- the name of a task
abbrev pub task_refusals : Known → Bool → Name → List Refusal
task_refusals known local x = unless (not local && known.is_task x.text) (at b.UnknownName x)

abbrev pub role_refusals : Known → Bool → Name → Role → List Refusal
role_refusals known local x Value = unless local (at b.UnknownName x)
role_refusals known local x (Called keywords) = call_refusals (may_be_called known local x.text keywords) x keywords
role_refusals known local x (Misused keywords) = call_refusals false x keywords
role_refusals known local x Class = class_refusals local x
role_refusals known local x Task = task_refusals known local x

-- the refusals of one use
unfoldable pub use_refusals : Known → (List ℕ → Bool) → Use → List Refusal
use_refusals known is_local u = role_refusals known (is_among u.around u.name.text || is_local u.name.text) u.name u.role

unfoldable pub refusals_of : Known → (List ℕ → Bool) → List Use → List Refusal
refusals_of known is_local us = joined (map (use_refusals known is_local) us)

unfoldable pub node_refusals : Known → (List ℕ → Bool) → Node Name → List Refusal
node_refusals known is_local node = refusals_of known is_local (uses node)

unfoldable pub statement_refusals : Known → (List ℕ → Bool) → Statement Name → List Refusal
statement_refusals known is_local s = refusals_of known is_local (statement_uses s)

abbrev pub option_refusals : TaskOption → List Refusal
option_refusals o = unless (is_accepted o) (at b.BadOption o.name)

abbrev pub options_refusals : Option (List TaskOption) → List Refusal
options_refusals None = []
options_refusals (Some os) = doubles [] (option_names os) ++ joined (map option_refusals os)

-- the refusals of one function
abbrev pub function_refusals : Known → Function → List Refusal
function_refusals known f =
    options_refusals f.task ++ (doubles [] (parameter_names f.parameters) ++ joined (map (statement_refusals known (is_among (locals f))) f.body))

abbrev pub is_free : List ℕ → Bool
is_free x = not (is_among builtins x) && not (is_among error_classes x)

abbrev pub taken_refusals : Function → List Refusal
taken_refusals f = unless (is_free f.name.text) (at b.DoubleName f.name)

abbrev pub namespace_refusals : Name → List Refusal
namespace_refusals n = unless (is_dotted n.text) (at b.BadOption n)

-- the namespaces behind the first
abbrev pub second_refusals : List Name → List Refusal
second_refusals ns = map (at b.DoubleName) (drop 1 ns)

-- the refusals of a module
abbrev pub refusals : Module → List Refusal
refusals m =
    second_refusals m.namespaces ++ (joined (map namespace_refusals m.namespaces) ++ (doubles [] (function_names m.functions) ++ (joined (map taken_refusals m.functions)
    ++ (doubles [] (task_names (first_space m.namespaces) m.functions) ++ joined (map (function_refusals (known_of m.functions)) m.functions)))))
