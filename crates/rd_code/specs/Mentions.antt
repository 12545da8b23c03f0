-- The names that stand in a tree, each with its role.
use Rattle.std.specs.Prelude.{ℕ, List, [], ◌∷◌, ◌++◌, map, Option, None, Some}
use Rattle.rd_tree.specs.declared.tree.Node.{Node}
use Rattle.rd_tree.specs.declared.tree.Node.TheOpen.{Node-F}
use Rattle.rd_tree.specs.declared.tree.Statement.{Statement}
use Rattle.rd_tree.specs.declared.tree.Statement.TheOpen.{Statement-F}
use Rattle.rd_tree.specs.declared.tree.Statement.TheFolds.{fold-Statement}
use Rattle.rd_routine.specs.declared.special.Special.{Special}
use Rattle.rd_routine.specs.Forms.{Form, Plain, Wrong, Mapping, Catching, folded}
use Rattle.rd_names.specs.Special.{special_named}
use Rattle.rd_names.specs.Uses.{joined}
use Rattle.rd_code.specs.declared.mention.Role.{Role}
use Rattle.rd_code.specs.declared.mention.Role.TheVariants as role
use Rattle.rd_code.specs.declared.mention.Mention.{Mention}

module _ {N : Type 0} where
  abbrev pub mention : Role → N → Mention N
  mention r name = record { role = r; name = name }

  -- a local, or the name of a keyword
  abbrev pub plain : N → Mention N
  plain = mention role.Plain

  -- a name that is called, or that of a task in `map_` and `catch`
  abbrev pub called : N → Mention N
  called = mention role.Called

  -- the class of `raise` and of `catch`
  abbrev pub class : N → Mention N
  class = mention role.Class

  abbrev pub keyword_mentions : N × List (Mention N) → List (Mention N)
  keyword_mentions k = plain k.0 ∷ k.1

  abbrev pub pair_mentions : List (Mention N) × List (Mention N) → List (Mention N)
  pair_mentions p = p.0 ++ p.1

  -- the names that stand in a call, by its form
  abbrev pub call_mentions : Form N (List (Mention N)) → N → List (List (Mention N)) → List (N × List (Mention N)) → List (Mention N)
  call_mentions Plain name positional keywords = called name ∷ (joined positional ++ joined (map keyword_mentions keywords))
  call_mentions Wrong name positional keywords = called name ∷ (joined positional ++ joined (map keyword_mentions keywords))
  call_mentions (Mapping task list) name positional keywords = called name ∷ (called task ∷ list)
  call_mentions (Catching tried caught recover) name positional keywords = called name ∷ (tried ++ (class caught ∷ (called recover ∷ [])))

  -- the names that stand in one layer of an expression
  abbrev pub mentions_at : Node-F N (List (Mention N)) → List (Mention N)
  mentions_at (Node-F.Lit v) = []
  mentions_at (Node-F.Name name) = plain name ∷ []
  mentions_at (Node-F.Call name positional keywords) = call_mentions Plain name positional keywords
  mentions_at (Node-F.Method receiver name others) = receiver ++ joined others
  mentions_at (Node-F.Index receiver place) = receiver ++ place
  mentions_at (Node-F.Path receiver) = receiver
  mentions_at (Node-F.Neg operand) = operand
  mentions_at (Node-F.Not operand) = operand
  mentions_at (Node-F.Chain first rest) = first ++ joined (map (λ l. l.1) rest)
  mentions_at (Node-F.Compare comparison left right) = left ++ right
  mentions_at (Node-F.And parts) = joined parts
  mentions_at (Node-F.Or parts) = joined parts
  mentions_at (Node-F.Cond test when_true when_false) = test ++ (when_true ++ when_false)
  mentions_at (Node-F.List items) = joined items
  mentions_at (Node-F.Dict pairs) = joined (map pair_mentions pairs)
  mentions_at (Node-F.Comp part name iterable conditions) = part ++ (plain name ∷ (iterable ++ joined conditions))

-- By `kind` a call of a name makes something special.
module _ {N : Type 0} (kind : N → Option Special) where
  -- the names that stand in an expression
  abbrev pub mentions_in : Node N → List (Mention N)
  mentions_in = folded kind call_mentions mentions_at

  abbrev pub branch_mentions : Node N × List (List (Mention N)) → List (Mention N)
  branch_mentions b = mentions_in b.0 ++ joined b.1

  abbrev pub answer_mentions : Option (Node N) → List (Mention N)
  answer_mentions None = []
  answer_mentions (Some e) = mentions_in e

  -- the names that stand in one layer of a statement
  abbrev pub statement_mentions_at : Statement-F N (List (Mention N)) → List (Mention N)
  statement_mentions_at (Statement-F.Assign name e) = plain name ∷ mentions_in e
  statement_mentions_at (Statement-F.For name iterable body) = plain name ∷ (mentions_in iterable ++ joined body)
  statement_mentions_at (Statement-F.While test body) = mentions_in test ++ joined body
  statement_mentions_at (Statement-F.If bs otherwise) = joined (map branch_mentions bs) ++ joined otherwise
  statement_mentions_at (Statement-F.Return e) = answer_mentions e
  statement_mentions_at (Statement-F.Raise name text) = class name ∷ mentions_in text
  statement_mentions_at Statement-F.Pass = []
  statement_mentions_at (Statement-F.Expr e) = mentions_in e

  -- the names that stand in a statement
  abbrev pub mentions_in_statement : Statement N → List (Mention N)
  mentions_in_statement = fold-Statement N (List (Mention N)) statement_mentions_at

  -- the names that stand in a block
  abbrev pub mentions_in_block : List (Statement N) → List (Mention N)
  mentions_in_block statements = joined (map mentions_in_statement statements)

-- ---- in a source, whose names are texts

-- the names that stand in an expression
abbrev pub named_in : Node (List ℕ) → List (Mention (List ℕ))
named_in = mentions_in special_named

-- the names that stand in a statement
abbrev pub named_in_statement : Statement (List ℕ) → List (Mention (List ℕ))
named_in_statement = mentions_in_statement special_named

-- the names that stand in a block
abbrev pub named_in_block : List (Statement (List ℕ)) → List (Mention (List ℕ))
named_in_block = mentions_in_block special_named
