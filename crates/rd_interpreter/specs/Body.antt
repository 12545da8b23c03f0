-- The meaning of a body: big steps over its tree, with the steps that are left.
use Rattle.std.specs.Prelude.{ℕ, zero, suc, Bool, true, false, not, List, [], ◌∷◌, map, length, codes, if◌then◌else◌, Option, None, Some, Result, Ok, Err}
use Rattle.std.specs.List.{slice_get}
use Rattle.rd_value.specs.declared.class.Class.{Class}
use Rattle.rd_value.specs.declared.class.Class.TheVariants.{NameError, RecursionError}
use Rattle.rd_value.specs.declared.value.ErrorValue.{ErrorValue}
use Rattle.rd_value.specs.declared.value.FileValue.{FileValue}
use Rattle.rd_value.specs.declared.value.Datum.{Datum, out-Datum}
use Rattle.rd_value.specs.declared.value.Datum.TheVariants as value
use Rattle.rd_value.specs.declared.value.Datum.TheOpen.{Datum-F}
use Rattle.rd_value.specs.declared.expr.Lazy.{Lazy, out-Lazy}
use Rattle.rd_value.specs.declared.expr.Lazy.TheVariants as lazy
use Rattle.rd_value.specs.declared.expr.Lazy.TheOpen.{Lazy-F}
use Rattle.rd_value.specs.Bind.{arguments}
use Rattle.rd_value.specs.Compare.{equal}
use Rattle.rd_value.specs.declared.expr.OpKind.TheVariants.{Index}
use Rattle.rd_value.specs.Expand.{listed, kept_expr}
use Rattle.rd_value.specs.Make as make
use Rattle.rd_value.specs.Make.{is_key, value_of, dict_of}
use Rattle.rd_value.specs.Operators.{bad_operand}
use Rattle.rd_value.specs.Raise.{raised}
use Rattle.rd_tree.specs.declared.tree.Comparison.{Comparison}
use Rattle.rd_tree.specs.declared.tree.Operator.{Operator}
use Rattle.rd_tree.specs.declared.tree.Node.{Node}
use Rattle.rd_tree.specs.declared.tree.Node.TheOpen.{Node-F}
use Rattle.rd_tree.specs.declared.tree.Statement.{Statement}
use Rattle.rd_tree.specs.declared.tree.Statement.TheOpen.{Statement-F}
use Rattle.rd_tree.specs.declared.tree.Statement.TheFolds.{fold-Statement}
use Rattle.rd_routine.specs.declared.routine.Callee.{Callee}
use Rattle.rd_routine.specs.declared.routine.Callee.TheVariants as callee
use Rattle.rd_routine.specs.declared.special.Special.{Special}
use Rattle.rd_routine.specs.declared.special.Special.TheVariants as special
use Rattle.rd_routine.specs.Callees.{special_of}
use Rattle.rd_routine.specs.Forms.{Form, Plain, Wrong, Mapping, Catching, name_alone, form_of, form_with, folded}
use Rattle.rd_interpreter.specs.State.{State, Ran, Part, and_then, spend, answered, all, in_order, each, collected, loop}
use Rattle.rd_interpreter.specs.Held.{not_settled, settled, truth_of, iterated}
use Rattle.rd_interpreter.specs.Making.{measured, made, truth_value}
use Rattle.rd_interpreter.specs.Operations.{kind_of, operate, negative, compare, turned}
use Rattle.rd_interpreter.specs.Builtins.{bad_arguments, then_, on_arguments}
use Rattle.rd_interpreter.specs.Methods.{text_of, no_method, on_receiver}

-- A function as a body knows it. `N` is what a name is.
pub record Routine (N F : Type 0) : Type 0 where
  pub same : N → N → Bool
  pub spelling : N → List ℕ
  pub callee : N → Callee
  pub class_of : N → Option Class
  pub parameters : List (N × Option (Lazy F))
  pub block : List (Statement N)

-- What a call of a helper gives, with the steps that are left: its place, its arguments by position and by name, and the steps left before.
abbrev pub Calls : Type 0 → Type 0
Calls F = ℕ → List (Lazy F) → List (List ℕ × Lazy F) → ℕ → Result (Lazy F × ℕ) ErrorValue

-- the error of too many helper calls that are open at once
abbrev pub too_many_calls : ErrorValue
too_many_calls = record { class = RecursionError; text = codes "call depth" }

-- a literal of the source, which holds no file
abbrev pub literal_at : {F : Type 0} → Datum-F FileValue (Datum FileValue) → Datum F
literal_at (Datum-F.Bool b) = value.Bool b
literal_at (Datum-F.Int n) = value.Int n
literal_at (Datum-F.Text t) = value.Text t
literal_at _ = value.Nothing

abbrev pub literal : {F : Type 0} → Datum FileValue → Lazy F
literal v = lazy.Val (literal_at (out-Datum FileValue v))

-- a function without `return` gives None
abbrev pub returned : {F : Type 0} → Option (Lazy F) → Lazy F
returned None = lazy.Val value.Nothing
returned (Some r) = r

-- ---- dicts

-- a pair whose key is equal to an earlier one gives that one its value
abbrev pub with_pair : {F V : Type 0} → (F → FileValue) → Datum F → V → List (Datum F × V) → List (Datum F × V)
with_pair file k v [] = (k, v) ∷ []
with_pair file k v (p ∷ ps) = if equal file p.0 k then (p.0, v) ∷ ps else p ∷ with_pair file k v ps

-- a key, which is an Int or a Text
abbrev pub key_held : {F : Type 0} → Option (Datum F) → Result (Datum F) ErrorValue
key_held None = Err not_settled
key_held (Some v) = if is_key v then Ok v else Err bad_operand

-- keys are looked at in their order
abbrev pub with_pairs : {F : Type 0} → (F → FileValue) → List (Lazy F × Lazy F) → List (Datum F × Lazy F) → Result (List (Datum F × Lazy F)) ErrorValue
with_pairs file [] done = Ok done
with_pairs file (p ∷ ps) done = then_ (key_held (value_of p.0)) (λ k. with_pairs file ps (with_pair file k p.1 done))

-- ---- raising

abbrev pub raised_text : {A : Type 0} → Class → Option (List ℕ) → Result A ErrorValue
raised_text class (Some t) = Err (raised class t)
raised_text class None = Err bad_operand

-- an error of a class with a text
abbrev pub raising : {A F : Type 0} → Class → Lazy F → Result A ErrorValue
raising class e = then_ (settled e) (λ v. raised_text class (text_of v))

-- ---- the path of a file

abbrev pub path_of_value : {F : Type 0} → (F → FileValue) → Datum-F F (Datum F) → Result (Lazy F) ErrorValue
path_of_value file (Datum-F.File g) = Ok (lazy.Val (value.Text (file g).path))
path_of_value file _ = Err (no_method (codes "path"))

abbrev pub path_at : {F : Type 0} → (F → FileValue) → Lazy-F F (Lazy F) → Result (Lazy F) ErrorValue
path_at {F} file (Lazy-F.Val v) = path_of_value file (out-Datum F v)
path_at file (Lazy-F.Input path) = Ok (lazy.Val (value.Text path))
path_at file _ = Err not_settled

-- the path of a file, also of one that isn't settled
abbrev pub path_of : {F : Type 0} → (F → FileValue) → Lazy F → Result (Lazy F) ErrorValue
path_of {F} file e = path_at file (out-Lazy F e)

-- ---- parts and their order

-- the operators before operands, of which there is at least one
abbrev pub operators : {A : Type 0} → List A → ℕ
operators [] = 1
operators (x ∷ xs) = length (x ∷ xs)

-- the truth of this operand ends the others
abbrev pub ends_at : Bool → Bool → Bool
ends_at stop holds = if stop then holds else not holds

module _ {N F : Type 0} where
  -- a truth that is asked for
  abbrev pub tested : Part N F (Lazy F) → Part N F Bool
  tested part s = and_then (part s) (λ e t. answered (truth_of e) t)

  -- the first operand whose truth is this, else the last
  abbrev pub until : Bool → Lazy F → List (Part N F (Lazy F)) → Part N F (Lazy F)
  until stop a [] s = Ok (a, s)
  until stop a (next ∷ more) s = and_then (answered (truth_of a) s) (λ holds t. if ends_at stop holds then Ok (a, t) else and_then (next t) (λ b u. until stop b more u))

  -- operands of `and` or `or`; each operator has its step before them
  abbrev pub operands : Bool → List (Part N F (Lazy F)) → Part N F (Lazy F)
  operands stop [] s = Ok (lazy.Val value.Nothing, s)
  operands stop (first ∷ more) s = spend (operators more) s (λ t. and_then (first t) (λ a u. until stop a more u))

  -- both sides of a pair
  abbrev pub both : Part N F (Lazy F) × Part N F (Lazy F) → Part N F (Lazy F × Lazy F)
  both p s = and_then (p.0 s) (λ a t. and_then (p.1 t) (λ b u. Ok ((a, b), u)))

  -- the condition of a comprehension, if it has one
  abbrev pub condition : List (Part N F (Lazy F)) → Part N F Bool
  condition [] s = Ok (true, s)
  condition (c ∷ cs) s = tested c s

  -- the element of a comprehension, where the condition holds
  abbrev pub element : Part N F (Lazy F) → List (Part N F (Lazy F)) → Part N F (Option (Lazy F))
  element part conditions s = and_then (condition conditions s) (λ holds t. if holds then and_then (part t) (λ r u. Ok (Some r, u)) else Ok (None, t))

  -- the first branch whose test holds
  abbrev pub branches : List (Part N F (Lazy F) × Part N F (Option (Lazy F))) → Part N F (Option (Lazy F)) → Part N F (Option (Lazy F))
  branches [] other s = other s
  branches (b ∷ bs) other s = and_then (tested b.0 s) (λ holds t. if holds then b.1 t else branches bs other t)

  -- `not`
  abbrev pub inversion : Part N F (Lazy F) → Part N F (Lazy F)
  inversion operand s = and_then (operand s) (λ e t. truth_value (turned not (truth_of e)) t)

  -- a conditional: only the branch that the test picks
  abbrev pub choice : Part N F (Lazy F) → Part N F (Lazy F) → Part N F (Lazy F) → Part N F (Lazy F)
  choice test when_true when_false s = and_then (tested test s) (λ holds t. if holds then when_true t else when_false t)

  -- what a helper gives, with the steps that it left
  abbrev pub after_call : Result (Lazy F × ℕ) ErrorValue → Part N F (Lazy F)
  after_call (Ok r) s = Ok (r.0, record s { left = r.1 })
  after_call (Err e) s = Err e

  module _ (file : F → FileValue) where
    -- the operands of a chain behind the first, each taken to what stands before it
    abbrev pub links : Lazy F → List (Operator × Part N F (Lazy F)) → Part N F (Lazy F)
    links a [] s = Ok (a, s)
    links a (link ∷ more) s = and_then (link.1 s) (λ b t. and_then (operate file (kind_of link.0) a b t) (λ c u. links c more u))

    -- the list that a display shows
    abbrev pub shown_list : List (Lazy F) → Part N F (Lazy F)
    shown_list es s = made file (listed file es) s

    abbrev pub shown_items : List (Part N F (Lazy F)) → Part N F (Lazy F)
    shown_items items s = and_then (all items s) shown_list

    -- the dict that a display shows
    abbrev pub shown_dict : List (Lazy F × Lazy F) → Part N F (Lazy F)
    shown_dict ps s = and_then (answered (with_pairs file ps []) s) (λ qs t. made file (dict_of qs (make.pairs_of qs)) t)

    abbrev pub shown_pairs : List (Part N F (Lazy F) × Part N F (Lazy F)) → Part N F (Lazy F)
    shown_pairs pairs s = and_then (all (map both pairs) s) shown_dict

    -- a method of what stands before the dot
    abbrev pub method : Part N F (Lazy F) → List ℕ → List (Part N F (Lazy F)) → Part N F (Lazy F)
    method receiver name others s = and_then (receiver s) (λ e t. and_then (all others t) (λ es u. on_receiver file e name es u))

    -- an index
    abbrev pub index : Part N F (Lazy F) → Part N F (Lazy F) → Part N F (Lazy F)
    index receiver place s = and_then (receiver s) (λ a t. and_then (place t) (λ b u. operate file Index a b u))

    -- `.path`
    abbrev pub path : Part N F (Lazy F) → Part N F (Lazy F)
    path receiver s = and_then (receiver s) (λ e t. answered (path_of file e) t)

    -- unary minus
    abbrev pub negation : Part N F (Lazy F) → Part N F (Lazy F)
    negation operand s = and_then (operand s) (λ e t. negative file e t)

    -- operands of one level
    abbrev pub chain : Part N F (Lazy F) → List (Operator × Part N F (Lazy F)) → Part N F (Lazy F)
    chain first rest s = and_then (first s) (λ a t. links a rest t)

    -- a comparison
    abbrev pub comparing : Comparison → Part N F (Lazy F) → Part N F (Lazy F) → Part N F (Lazy F)
    comparing comparison left right s = and_then (left s) (λ a t. and_then (right t) (λ b u. compare file comparison a b u))

  module _ (f : Routine N F) where
    -- a name without a value yet
    abbrev pub found : N → Option (Lazy F) → Part N F (Lazy F)
    found name None s = Err (raised NameError (f.spelling name))
    found name (Some e) s = Ok (e, s)

    -- names with another value for one of them
    abbrev pub with_name : (N → Option (Lazy F)) → N → Option (Lazy F) → N → Option (Lazy F)
    with_name names name e other = if f.same other name then e else names other

    -- gives a name a value
    abbrev pub set : N → Option (Lazy F) → State N F → State N F
    set name e s = record s { names = with_name s.names name e }

    -- a keyword of a call
    abbrev pub keyword : N × Part N F (Lazy F) → Part N F (List ℕ × Lazy F)
    keyword k s = and_then (k.1 s) (λ e t. Ok ((f.spelling k.0, e), t))

    -- names of which each parameter has its argument
    abbrev pub with_names : (N → Option (Lazy F)) → List (N × Option (Lazy F)) → List (Lazy F) → N → Option (Lazy F)
    with_names names [] vs = names
    with_names names (p ∷ ps) [] = names
    with_names names (p ∷ ps) (v ∷ vs) = with_names (with_name names p.0 (Some v)) ps vs

    -- what a call of a name makes, if that is special
    abbrev pub kind : N → Option Special
    kind name = special_of (f.callee name)

    -- raises an error
    abbrev pub raise : N → Option Class → Lazy F → Part N F (Option (Lazy F))
    raise name None e s = Err (raised NameError (f.spelling name))
    raise name (Some class) e s = answered (raising class e) s

module _ {N F : Type 0} (file : F → FileValue) (calls : Calls F) (f : Routine N F) where
  -- ---- expressions

  -- a call of this kind whose arguments are all evaluated
  abbrev pub made_special : Special → List (Lazy F) → Part N F (Lazy F)
  made_special special.Cond (test ∷ when_true ∷ when_false ∷ []) s = measured file (lazy.Cond test when_true when_false) s
  made_special _ es s = Err bad_arguments

  abbrev pub called : N → Callee → List (Lazy F) → List (List ℕ × Lazy F) → Part N F (Lazy F)
  called name (callee.Task task) es ks s = measured file (lazy.Call task es ks) s
  called name (callee.Helper place) es ks s = after_call (calls place es ks s.left) s
  called name (callee.Builtin builtin) es ks s = on_arguments file builtin es s
  called name (callee.Special kind) es ks s = made_special kind es s
  called name callee.Unknown es ks s = Err (raised NameError (f.spelling name))

  -- a call, whose arguments come first
  abbrev pub call : N → List (Part N F (Lazy F)) → List (N × Part N F (Lazy F)) → Part N F (Lazy F)
  call name positional keywords s = and_then (all positional s) (λ es t. and_then (all (map (keyword f) keywords) t) (λ ks u. called name (f.callee name) es ks u))

  -- the calls of a task with each item of a list
  abbrev pub mapped : N → Callee → Lazy F → Part N F (Lazy F)
  mapped name (callee.Task task) e s = measured file (lazy.Map task e) s
  mapped name _ e s = Err (raised NameError (f.spelling name))

  -- what is tried, with the task that recovers from an error of a class
  abbrev pub caught : N → Option Class → N → Callee → Lazy F → Part N F (Lazy F)
  caught class (Some c) recover (callee.Task task) e s = measured file (lazy.Catch e c task) s
  caught class (Some c) recover _ e s = Err (raised NameError (f.spelling recover))
  caught class None recover _ e s = Err (raised NameError (f.spelling class))

  -- A call by its form. A task and a class among its arguments aren't evaluated.
  abbrev pub formed : Form N (Part N F (Lazy F)) → N → List (Part N F (Lazy F)) → List (N × Part N F (Lazy F)) → Part N F (Lazy F)
  formed Plain name positional keywords s = call name positional keywords s
  formed Wrong name positional keywords s = call name positional keywords s
  formed (Mapping task list) name positional keywords s = and_then (list s) (λ e t. mapped task (f.callee task) e t)
  formed (Catching tried class recover) name positional keywords s = and_then (tried s) (λ e t. caught class (f.class_of class) recover (f.callee recover) e t)

  -- a call by its form, with its own step
  abbrev pub call_at : Form N (Part N F (Lazy F)) → N → List (Part N F (Lazy F)) → List (N × Part N F (Lazy F)) → Part N F (Lazy F)
  call_at form name positional keywords s = spend 1 s (formed form name positional keywords)

  -- A comprehension over some items. Its name is its own.
  abbrev pub comprehension : Part N F (Lazy F) → N → List (Part N F (Lazy F)) → List (Lazy F) → Part N F (Lazy F)
  comprehension part name conditions xs s =
      and_then (collected (λ x t. element part conditions (set f name (Some x) t)) xs s) (λ es t. shown_list file es (set f name (s.names name) t))

  -- a comprehension
  abbrev pub comprehended : Part N F (Lazy F) → N → Part N F (Lazy F) → List (Part N F (Lazy F)) → Part N F (Lazy F)
  comprehended part name iterable conditions s = and_then (and_then (iterable s) (λ e t. answered (iterated e) t)) (λ xs t. comprehension part name conditions xs t)

  -- one layer of an expression of the source: its own steps come before its parts
  abbrev pub node_at : Node-F N (Part N F (Lazy F)) → Part N F (Lazy F)
  node_at (Node-F.Lit v) s = spend 1 s (λ t. Ok (literal v, t))
  node_at (Node-F.Name name) s = spend 1 s (λ t. found f name (t.names name) t)
  node_at (Node-F.Call name positional keywords) s = spend 1 s (call name positional keywords)
  node_at (Node-F.Method receiver name others) s = spend 1 s (method file receiver name others)
  node_at (Node-F.Index receiver place) s = spend 1 s (index file receiver place)
  node_at (Node-F.Path receiver) s = spend 1 s (path file receiver)
  node_at (Node-F.Neg operand) s = spend 1 s (negation file operand)
  node_at (Node-F.Not operand) s = spend 1 s (inversion operand)
  node_at (Node-F.Chain first rest) s = spend (operators rest) s (chain file first rest)
  node_at (Node-F.Compare comparison left right) s = spend 1 s (comparing file comparison left right)
  node_at (Node-F.And parts) s = operands false parts s
  node_at (Node-F.Or parts) s = operands true parts s
  node_at (Node-F.Cond test when_true when_false) s = spend 1 s (choice test when_true when_false)
  node_at (Node-F.List items) s = spend 1 s (shown_items file items)
  node_at (Node-F.Dict pairs) s = spend 1 s (shown_pairs file pairs)
  node_at (Node-F.Comp part name iterable conditions) s = spend 1 s (comprehended part name iterable conditions)

  unfoldable pub node : Node N → Part N F (Lazy F)
  node = folded (kind f) call_at node_at

  -- the form of a call, with what its arguments mean
  abbrev pub form : N → List (Node N) → List (N × Node N) → Form N (Part N F (Lazy F))
  form name positional keywords = form_with (λ n. n) node (form_of name_alone (kind f name) positional keywords)

  -- ---- statements

  abbrev pub branch : Node N × List (Part N F (Option (Lazy F))) → Part N F (Lazy F) × Part N F (Option (Lazy F))
  branch b = (node b.0, in_order b.1)

  -- one layer of a statement, with what the function returns where it ends there
  abbrev pub statement_at : Statement-F N (Part N F (Option (Lazy F))) → Part N F (Option (Lazy F))
  statement_at (Statement-F.Assign name e) s = spend 1 s (λ t. and_then (node e t) (λ v u. Ok (None, set f name (Some v) u)))
  statement_at (Statement-F.For name iterable body) s =
      spend 1 s (λ t. and_then (and_then (node iterable t) (λ e u. answered (iterated e) u)) (λ xs u. each (λ x v. in_order body (set f name (Some x) v)) xs u))
  statement_at (Statement-F.While test body) s = spend 1 s (loop (tested (node test)) (in_order body))
  statement_at (Statement-F.If bs otherwise) s = spend 1 s (branches (map branch bs) (in_order otherwise))
  statement_at (Statement-F.Return None) s = spend 1 s (λ t. Ok (Some (lazy.Val value.Nothing), t))
  statement_at (Statement-F.Return (Some e)) s = spend 1 s (λ t. and_then (node e t) (λ v u. Ok (Some v, u)))
  statement_at (Statement-F.Raise class text) s = spend 1 s (λ t. and_then (node text t) (λ e u. raise f class (f.class_of class) e u))
  statement_at Statement-F.Pass s = spend 1 s (λ t. Ok (None, t))
  statement_at (Statement-F.Expr e) s = spend 1 s (λ t. and_then (node e t) (λ v u. Ok (None, u)))

  unfoldable pub statement : Statement N → Part N F (Option (Lazy F))
  statement = fold-Statement N (Part N F (Option (Lazy F))) statement_at

  -- a block of statements
  abbrev pub block : List (Statement N) → Part N F (Option (Lazy F))
  block statements s = in_order (map statement statements) s

-- ---- functions

module _ {N F : Type 0} where
  -- where a function begins
  abbrev pub first_state : Routine N F → List (Lazy F) → ℕ → State N F
  first_state f args left = record { names = with_names f (λ name. None) f.parameters args; left = left }

  -- what a function returned, with the steps that are left
  abbrev pub result_of : Ran N F (Option (Lazy F)) → Result (Lazy F × ℕ) ErrorValue
  result_of (Ok r) = Ok (returned r.0, r.1.left)
  result_of (Err e) = Err e

  -- a function on one argument for each parameter
  abbrev pub run : (F → FileValue) → Calls F → Routine N F → List (Lazy F) → ℕ → Result (Lazy F × ℕ) ErrorValue
  run file calls f args left = result_of (block file calls f f.block (first_state f args left))

  -- a parameter by its spelling
  abbrev pub spelled : Routine N F → N × Option (Lazy F) → List ℕ × Option (Lazy F)
  spelled f p = (f.spelling p.0, p.1)

  -- Arguments are bound before the calls that are open are counted.
  abbrev pub bound : Routine N F → List (Lazy F) → List (List ℕ × Lazy F) → Result (List (Lazy F)) ErrorValue
  bound f es ks = arguments (map (spelled f) f.parameters) es ks

  abbrev pub opened : (Routine N F → List (Lazy F) → ℕ → Result (Lazy F × ℕ) ErrorValue) → Option (Routine N F) → Calls F
  opened go None place es ks left = Err too_many_calls
  opened go (Some f) place es ks left = then_ (bound f es ks) (λ args. go f args left)

  -- a call of a helper, where so many more may be open
  unfoldable pub calling : (F → FileValue) → List (Routine N F) → ℕ → Calls F
  calling file helpers zero place es ks left = opened (λ f args left. Err too_many_calls) (slice_get helpers place) place es ks left
  calling file helpers (suc n) place es ks left = opened (run file (calling file helpers n)) (slice_get helpers place) place es ks left

-- the most steps of a body
abbrev pub most_steps : ℕ
most_steps = 1000000

-- the most helper calls that may be open at once
abbrev pub most_calls : ℕ
most_calls = 200

-- the result of a body, within the limits of an expression
abbrev pub reduced : {F : Type 0} → (F → FileValue) → Result (Lazy F × ℕ) ErrorValue → Result (Lazy F) ErrorValue
reduced file (Ok r) = kept_expr file r.0
reduced file (Err e) = Err e

-- a body on one argument for each parameter
unfoldable pub whole : {N F : Type 0} → (F → FileValue) → List (Routine N F) → Routine N F → List (Datum F) → Result (Lazy F) ErrorValue
whole file helpers f args = reduced file (run file (calling file helpers most_calls) f (map lazy.Val args) most_steps)
