-- Where a function uses names, and which names are local to it.
use Rattle.std.specs.Prelude.{ℕ, Bool, true, false, List, [], ◌∷◌, ◌++◌, map, Option, None, Some}
use Rattle.rd_tree.specs.declared.tree.Name.{Name}
use Rattle.rd_tree.specs.declared.tree.Node.{Node, out-Node}
use Rattle.rd_tree.specs.declared.tree.Node.TheOpen.{Node-F}
use Rattle.rd_tree.specs.declared.tree.Statement.{Statement}
use Rattle.rd_tree.specs.declared.tree.Statement.TheOpen.{Statement-F}
use Rattle.rd_tree.specs.declared.tree.Statement.TheFolds.{fold-Statement}
use Rattle.rd_tree.specs.declared.tree.Function.{Function}
use Rattle.rd_routine.specs.declared.special.Special.{Special}
use Rattle.rd_routine.specs.Forms.{Form, Plain, Wrong, Mapping, Catching, folded}
use Rattle.rd_names.specs.Special.{special_named}

-- as what a name stands
pub data Role : Type 0 where
  Value : Role
  -- with the names of the call's keywords
  Called : List Name → Role
  -- called in a form that this special call doesn't have, with the same names
  Misused : List Name → Role
  -- behind `raise`, and in `catch`
  Class : Role
  -- in `map_` and `catch`
  Task : Role

-- a name where it is used, and the names of the comprehensions around it
pub record Use : Type 0 where
  pub around : List (List ℕ)
  pub name : Name
  pub role : Role

abbrev pub joined : {X : Type 0} → List (List X) → List X
joined [] = []
joined (xs ∷ rest) = xs ++ joined rest

-- a use outside of comprehensions
abbrev pub used : Name → Role → Use
used x r = record { around = []; name = x; role = r }

-- inside one more comprehension
abbrev pub within : List ℕ → Use → Use
within x u = record { around = x ∷ u.around; name = u.name; role = u.role }

-- the names of a call's keywords
abbrev pub keyword_names : {X : Type 0} → List (Name × X) → List Name
keyword_names ks = map (λ k. k.0) ks

-- The uses in a call, by its form. A task and a class among its arguments are no values.
abbrev pub call_uses : Form Name (List Use) → Name → List (List Use) → List (Name × List Use) → List Use
call_uses Plain x positional keywords = used x (Called (keyword_names keywords)) ∷ (joined positional ++ joined (map (λ k. k.1) keywords))
call_uses Wrong x positional keywords = used x (Misused (keyword_names keywords)) ∷ (joined positional ++ joined (map (λ k. k.1) keywords))
call_uses (Mapping task list) x positional keywords = used x (Called []) ∷ used task Task ∷ list
call_uses (Catching tried class recover) x positional keywords = used x (Called []) ∷ (tried ++ used class Class ∷ used recover Task ∷ [])

-- the uses in an expression, from those in its parts
abbrev pub uses_at : Node-F Name (List Use) → List Use
uses_at (Node-F.Lit v) = []
uses_at (Node-F.Name x) = used x Value ∷ []
uses_at (Node-F.Call x positional keywords) = call_uses Plain x positional keywords
uses_at (Node-F.Method receiver name arguments) = receiver ++ joined arguments
uses_at (Node-F.Index receiver index) = receiver ++ index
uses_at (Node-F.Path receiver) = receiver
uses_at (Node-F.Neg operand) = operand
uses_at (Node-F.Not operand) = operand
uses_at (Node-F.Chain first rest) = first ++ joined (map (λ p. p.1) rest)
uses_at (Node-F.Compare operator left right) = left ++ right
uses_at (Node-F.And operands) = joined operands
uses_at (Node-F.Or operands) = joined operands
uses_at (Node-F.Cond test when_true when_false) = test ++ (when_true ++ when_false)
uses_at (Node-F.List items) = joined items
uses_at (Node-F.Dict pairs) = joined (map (λ p. p.0 ++ p.1) pairs)
uses_at (Node-F.Comp element x iterable condition) = iterable ++ map (within x.text) (element ++ joined condition)

-- what a call of the name makes, if that is special
abbrev pub special_at : Name → Option Special
special_at x = special_named x.text

-- the uses in an expression
abbrev pub uses : Node Name → List Use
uses = folded special_at call_uses uses_at

-- an operation, which begins with a part that stands alone
abbrev pub is_operation_at : {X : Type 0} → Node-F Name X → Bool
is_operation_at (Node-F.Method receiver name arguments) = true
is_operation_at (Node-F.Index receiver index) = true
is_operation_at (Node-F.Path receiver) = true
is_operation_at (Node-F.Neg operand) = true
is_operation_at (Node-F.Not operand) = true
is_operation_at (Node-F.Chain first rest) = true
is_operation_at (Node-F.Compare operator left right) = true
is_operation_at (Node-F.Cond test when_true when_false) = true
is_operation_at node = false

abbrev pub is_operation : Node Name → Bool
is_operation node = is_operation_at (out-Node Name node)

abbrev pub returned_uses : Option (Node Name) → List Use
returned_uses None = []
returned_uses (Some value) = uses value

-- the uses in a statement, from those in its blocks
abbrev pub statement_uses_at : Statement-F Name (List Use) → List Use
statement_uses_at (Statement-F.Assign x value) = uses value
statement_uses_at (Statement-F.For x iterable body) = uses iterable ++ joined body
statement_uses_at (Statement-F.While test body) = uses test ++ joined body
statement_uses_at (Statement-F.If branches otherwise) = joined (map (λ b. uses b.0 ++ joined b.1) branches) ++ joined otherwise
statement_uses_at (Statement-F.Return value) = returned_uses value
statement_uses_at (Statement-F.Raise x text) = used x Class ∷ uses text
statement_uses_at Statement-F.Pass = []
statement_uses_at (Statement-F.Expr value) = uses value

-- the uses in a statement
abbrev pub statement_uses : Statement Name → List Use
statement_uses = fold-Statement Name (List Use) statement_uses_at

-- the uses in a function's body
abbrev pub body_uses : List (Statement Name) → List Use
body_uses body = joined (map statement_uses body)

-- the names that a statement gives values to, from those of its blocks
abbrev pub assigned_at : Statement-F Name (List (List ℕ)) → List (List ℕ)
assigned_at (Statement-F.Assign x value) = x.text ∷ []
assigned_at (Statement-F.For x iterable body) = x.text ∷ joined body
assigned_at (Statement-F.While test body) = joined body
assigned_at (Statement-F.If branches otherwise) = joined (map (λ b. joined b.1) branches) ++ joined otherwise
assigned_at (Statement-F.Return value) = []
assigned_at (Statement-F.Raise x text) = []
assigned_at Statement-F.Pass = []
assigned_at (Statement-F.Expr value) = []

-- the names that a statement gives values to
abbrev pub assigned : Statement Name → List (List ℕ)
assigned = fold-Statement Name (List (List ℕ)) assigned_at

-- the names that a block gives values to
abbrev pub assigned_in : List (Statement Name) → List (List ℕ)
assigned_in body = joined (map assigned body)

-- a function's locals: its parameters, and the names to which its body gives values
abbrev pub locals : Function → List (List ℕ)
locals f = map (λ p. p.name.text) f.parameters ++ assigned_in f.body
