-- The values in the code of a task.
use Rattle.std.specs.Prelude.{List, [], ◌∷◌, ◌++◌, ℕ, map, Option, None, Some}
use Rattle.rd_value.specs.declared.value.FileValue.{FileValue}
use Rattle.rd_value.specs.declared.value.Datum.{Datum}
use Rattle.rd_value.specs.declared.signature.Parameter.{Parameter}
use Rattle.rd_tree.specs.declared.tree.Node.{Node}
use Rattle.rd_tree.specs.declared.tree.Node.TheOpen.{Node-F}
use Rattle.rd_tree.specs.declared.tree.Node.TheFolds.{fold-Node}
use Rattle.rd_tree.specs.declared.tree.Statement.{Statement}
use Rattle.rd_tree.specs.declared.tree.Statement.TheOpen.{Statement-F}
use Rattle.rd_tree.specs.declared.tree.Statement.TheFolds.{fold-Statement}
use Rattle.rd_names.specs.Uses.{joined}
use Rattle.rd_code.specs.declared.named.Helper.{Helper}

abbrev pub Value : Type 0
Value = Datum FileValue

-- the values in an expression, from those in its parts
abbrev pub values_at : Node-F (List ℕ) (List Value) → List Value
values_at (Node-F.Lit v) = v ∷ []
values_at (Node-F.Name name) = []
values_at (Node-F.Call name positional keywords) = joined positional ++ joined (map (λ k. k.1) keywords)
values_at (Node-F.Method receiver name arguments) = receiver ++ joined arguments
values_at (Node-F.Index receiver place) = receiver ++ place
values_at (Node-F.Path receiver) = receiver
values_at (Node-F.Neg operand) = operand
values_at (Node-F.Not operand) = operand
values_at (Node-F.Chain first rest) = first ++ joined (map (λ l. l.1) rest)
values_at (Node-F.Compare op left right) = left ++ right
values_at (Node-F.And parts) = joined parts
values_at (Node-F.Or parts) = joined parts
values_at (Node-F.Cond test when_true when_false) = test ++ when_true ++ when_false
values_at (Node-F.List items) = joined items
values_at (Node-F.Dict pairs) = joined (map (λ p. p.0 ++ p.1) pairs)
values_at (Node-F.Comp part name iterable conditions) = part ++ iterable ++ joined conditions

abbrev pub values_in : Node (List ℕ) → List Value
values_in = fold-Node (List ℕ) (List Value) values_at

abbrev pub values_in_branch : Node (List ℕ) × List (List Value) → List Value
values_in_branch b = values_in b.0 ++ joined b.1

abbrev pub values_in_answer : Option (Node (List ℕ)) → List Value
values_in_answer None = []
values_in_answer (Some e) = values_in e

-- the values in a statement, from those in the statements in it
abbrev pub statement_values_at : Statement-F (List ℕ) (List Value) → List Value
statement_values_at (Statement-F.Assign name e) = values_in e
statement_values_at (Statement-F.For name iterable body) = values_in iterable ++ joined body
statement_values_at (Statement-F.While test body) = values_in test ++ joined body
statement_values_at (Statement-F.If branches otherwise) = joined (map values_in_branch branches) ++ joined otherwise
statement_values_at (Statement-F.Return e) = values_in_answer e
statement_values_at (Statement-F.Raise class text) = values_in text
statement_values_at Statement-F.Pass = []
statement_values_at (Statement-F.Expr e) = values_in e

abbrev pub values_in_statement : Statement (List ℕ) → List Value
values_in_statement = fold-Statement (List ℕ) (List Value) statement_values_at

abbrev pub values_in_block : List (Statement (List ℕ)) → List Value
values_in_block statements = joined (map values_in_statement statements)

abbrev pub values_in_default : Option Value → List Value
values_in_default None = []
values_in_default (Some v) = v ∷ []

abbrev pub values_in_parameters : List Parameter → List Value
values_in_parameters parameters = joined (map (λ p. values_in_default p.default) parameters)

abbrev pub values_in_helper : Helper → List Value
values_in_helper h = values_in_parameters h.parameters ++ values_in_block h.block

-- the values in the code of a task
abbrev pub values_in_code : List Parameter → List (Statement (List ℕ)) → List Helper → List Value
values_in_code parameters block helpers = values_in_parameters parameters ++ values_in_block block ++ joined (map values_in_helper helpers)
