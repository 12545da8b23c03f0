-- Trees with other names.
use Rattle.std.specs.Prelude.{List, map, Option, None, Some}
use Rattle.rd_tree.specs.declared.tree.Operator.{Operator}
use Rattle.rd_tree.specs.declared.tree.Node.{Node}
use Rattle.rd_tree.specs.declared.tree.Node.TheViews.{roll-Node}
use Rattle.rd_tree.specs.declared.tree.Node.TheOpen.{Node-F}
use Rattle.rd_tree.specs.declared.tree.Node.TheFolds.{fold-Node}
use Rattle.rd_tree.specs.declared.tree.Statement.{Statement}
use Rattle.rd_tree.specs.declared.tree.Statement.TheViews.{roll-Statement}
use Rattle.rd_tree.specs.declared.tree.Statement.TheOpen.{Statement-F}
use Rattle.rd_tree.specs.declared.tree.Statement.TheFolds.{fold-Statement}

module _ {N M : Type 0} (r : N → M) where
  -- a name with what stands beside it
  abbrev pub renamed_first : {X : Type 0} → N × X → M × X
  renamed_first p = (r p.0, p.1)

  -- one layer of an expression
  abbrev pub renamed_at : {X : Type 0} → Node-F N X → Node-F M X
  renamed_at (Node-F.Lit v) = Node-F.Lit v
  renamed_at (Node-F.Name name) = Node-F.Name (r name)
  renamed_at (Node-F.Call name positional keywords) = Node-F.Call (r name) positional (map renamed_first keywords)
  renamed_at (Node-F.Method receiver name others) = Node-F.Method receiver name others
  renamed_at (Node-F.Index receiver place) = Node-F.Index receiver place
  renamed_at (Node-F.Path receiver) = Node-F.Path receiver
  renamed_at (Node-F.Neg operand) = Node-F.Neg operand
  renamed_at (Node-F.Not operand) = Node-F.Not operand
  renamed_at (Node-F.Chain first rest) = Node-F.Chain first rest
  renamed_at (Node-F.Compare comparison left right) = Node-F.Compare comparison left right
  renamed_at (Node-F.And parts) = Node-F.And parts
  renamed_at (Node-F.Or parts) = Node-F.Or parts
  renamed_at (Node-F.Cond test when_true when_false) = Node-F.Cond test when_true when_false
  renamed_at (Node-F.List items) = Node-F.List items
  renamed_at (Node-F.Dict pairs) = Node-F.Dict pairs
  renamed_at (Node-F.Comp part name iterable conditions) = Node-F.Comp part (r name) iterable conditions

  -- an expression
  abbrev pub renamed : Node N → Node M
  renamed = fold-Node N (Node M) (λ x. roll-Node M (renamed_at x))

  -- a keyword of a call
  abbrev pub renamed_keyword : N × Node N → M × Node M
  renamed_keyword k = (r k.0, renamed k.1)

  -- an operand behind its operator
  abbrev pub renamed_link : Operator × Node N → Operator × Node M
  renamed_link l = (l.0, renamed l.1)

  -- a pair of a dict
  abbrev pub renamed_pair : Node N × Node N → Node M × Node M
  renamed_pair p = (renamed p.0, renamed p.1)

  -- the test of a branch
  abbrev pub renamed_branch : {X : Type 0} → Node N × X → Node M × X
  renamed_branch b = (renamed b.0, b.1)

  -- what a function returns, if there is something
  abbrev pub renamed_answer : Option (Node N) → Option (Node M)
  renamed_answer None = None
  renamed_answer (Some e) = Some (renamed e)

  -- one layer of a statement
  abbrev pub renamed_statement_at : {X : Type 0} → Statement-F N X → Statement-F M X
  renamed_statement_at (Statement-F.Assign name e) = Statement-F.Assign (r name) (renamed e)
  renamed_statement_at (Statement-F.For name iterable body) = Statement-F.For (r name) (renamed iterable) body
  renamed_statement_at (Statement-F.While test body) = Statement-F.While (renamed test) body
  renamed_statement_at (Statement-F.If bs otherwise) = Statement-F.If (map renamed_branch bs) otherwise
  renamed_statement_at (Statement-F.Return e) = Statement-F.Return (renamed_answer e)
  renamed_statement_at (Statement-F.Raise class text) = Statement-F.Raise (r class) (renamed text)
  renamed_statement_at Statement-F.Pass = Statement-F.Pass
  renamed_statement_at (Statement-F.Expr e) = Statement-F.Expr (renamed e)

  -- a statement
  abbrev pub renamed_statement : Statement N → Statement M
  renamed_statement = fold-Statement N (Statement M) (λ x. roll-Statement M (renamed_statement_at x))

  -- a branch: its test and its block
  abbrev pub renamed_part : Node N × List (Statement N) → Node M × List (Statement M)
  renamed_part b = (renamed b.0, map renamed_statement b.1)
