-- As what calls take their arguments.
use Rattle.std.specs.Prelude.{List, [], ◌∷◌, map, Option, None, Some}
use Rattle.rd_tree.specs.declared.tree.Node.{Node, out-Node}
use Rattle.rd_tree.specs.declared.tree.Node.TheOpen.{Node-F}
use Rattle.rd_tree.specs.declared.tree.Node.TheFolds.{map-Node, para-Node}
use Rattle.rd_routine.specs.declared.special.Special.{Special}
use Rattle.rd_routine.specs.declared.special.Special.TheVariants as special
use Rattle.rd_routine.specs.declared.special.Form.{Form as Read}
use Rattle.rd_routine.specs.declared.special.Form.TheVariants as read

-- ---- names alone

-- the name of an expression that is a name alone
abbrev pub name_at : {N X : Type 0} → Node-F N X → Option N
name_at (Node-F.Name name) = Some name
name_at node = None

abbrev pub name_alone : {N : Type 0} → Node N → Option N
name_alone {N} node = name_at (out-Node N node)

-- ---- the form of a call

-- As what a call takes its arguments. `N` is what a name is, and `X` an argument.
pub data Form (N X : Type 0) : Type 0 where
  -- each as a value
  Plain : Form N X
  -- each as a value, where the special call is written otherwise
  Wrong : Form N X
  -- `map_`: the name of a task, and a value
  Mapping : N → X → Form N X
  -- `catch`: a value, the name of an error class, and that of a task
  Catching : X → N → N → Form N X

module _ {N X : Type 0} where
  abbrev pub mapping : Option N → X → Form N X
  mapping (Some task) list = Mapping task list
  mapping None list = Wrong

  abbrev pub catching : X → Option N → Option N → Form N X
  catching tried (Some class) (Some recover) = Catching tried class recover
  catching tried class recover = Wrong

  -- the form of a special call without keywords; `name_of` is the name of an argument that is a name alone
  abbrev pub special_form : (X → Option N) → Special → List X → Form N X
  special_form name_of special.Cond (test ∷ when_true ∷ when_false ∷ []) = Plain
  special_form name_of special.Map (task ∷ list ∷ []) = mapping (name_of task) list
  special_form name_of special.Catch (tried ∷ class ∷ recover ∷ []) = catching tried (name_of class) (name_of recover)
  special_form name_of call arguments = Wrong

  -- The form of a call. A special call has no keywords.
  abbrev pub form_of : {K : Type 0} → (X → Option N) → Option Special → List X → List K → Form N X
  form_of name_of None positional keywords = Plain
  form_of name_of (Some call) positional [] = special_form name_of call positional
  form_of name_of (Some call) positional (k ∷ ks) = Wrong

  -- a form with other names and other arguments
  abbrev pub form_with : {M Y : Type 0} → (N → M) → (X → Y) → Form N X → Form M Y
  form_with r g Plain = Plain
  form_with r g Wrong = Wrong
  form_with r g (Mapping task list) = Mapping (r task) (g list)
  form_with r g (Catching tried class recover) = Catching (g tried) (r class) (r recover)

-- the form that the program holds
abbrev pub held : {N : Type 0} → Read N → Form N (Node N)
held read.Plain = Plain
held read.Wrong = Wrong
held (read.Mapping task list) = Mapping task.now list.now
held (read.Catching tried class recover) = Catching tried.now class.now recover.now

-- ---- what an expression comes to

-- what a part comes to, of a part with that
abbrev pub result_of : {X A : Type 0} → X × A → A
result_of p = p.1

-- the same behind a name or an operator
abbrev pub result_behind : {K X A : Type 0} → K × (X × A) → K × A
result_behind p = (p.0, p.1.1)

-- By `kind` a name of a call makes something special. A call comes to something by its form, all else by its parts.
module _ {N A : Type 0} (kind : N → Option Special) (call : Form N A → N → List A → List (N × A) → A) (at : Node-F N A → A) where
  -- one layer, from each part with what it comes to
  abbrev pub layer : Node-F N (Node N × A) → A
  layer (Node-F.Call name positional keywords) =
      call (form_with (λ n. n) result_of (form_of (λ p. name_alone p.0) (kind name) positional keywords)) name (map result_of positional) (map result_behind keywords)
  layer y = at (map-Node N (Node N × A) A result_of y)

  abbrev pub folded : Node N → A
  folded = para-Node N A layer
