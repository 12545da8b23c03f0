-- The bytes that say what the code of a task is.
use Rattle.std.specs.Prelude.{List, [], ◌++◌, ℕ, map, codes, Option, None, Some}
use Rattle.rd_value.specs.Canon.{string, joined, canon}
use Rattle.rd_value.specs.declared.value.FileValue.{FileValue}
use Rattle.rd_value.specs.declared.value.Datum.{Datum}
use Rattle.rd_value.specs.declared.signature.Parameter.{Parameter}
use Rattle.rd_tree.specs.declared.tree.Operator.{Operator}
use Rattle.rd_tree.specs.declared.tree.Operator.TheVariants as operator
use Rattle.rd_tree.specs.declared.tree.Comparison.{Comparison}
use Rattle.rd_tree.specs.declared.tree.Comparison.TheVariants as comparison
use Rattle.rd_tree.specs.declared.tree.Node.{Node}
use Rattle.rd_tree.specs.declared.tree.Node.TheOpen.{Node-F}
use Rattle.rd_tree.specs.declared.tree.Node.TheFolds.{fold-Node}
use Rattle.rd_tree.specs.declared.tree.Statement.{Statement}
use Rattle.rd_tree.specs.declared.tree.Statement.TheOpen.{Statement-F}
use Rattle.rd_tree.specs.declared.tree.Statement.TheFolds.{fold-Statement}
use Rattle.rd_code.specs.declared.named.UseKind.{UseKind}
use Rattle.rd_code.specs.declared.named.UseKind.TheVariants as kind
use Rattle.rd_code.specs.declared.named.NamedUse.{NamedUse}
use Rattle.rd_code.specs.declared.named.Helper.{Helper}
use Rattle.rd_code.specs.declared.code.TaskCode.{TaskCode}
use Rattle.rd_bencode.specs.Blob.{blob}
use Rattle.rd_bencode.specs.declared.kind.Kind.TheVariants.{Task}
use Rattle.sha2.specs.Sha256.{sha256}

-- a list of parts
abbrev pub listed : List ℕ → List ℕ
listed inside = codes "l" ++ inside ++ codes "e"

-- a list of any number of parts
abbrev pub all : List (List ℕ) → List ℕ
all parts = listed (joined parts)

-- a list that is begun with a text, which says what it is
abbrev pub tagged : List ℕ → List ℕ → List ℕ
tagged begun inside = begun ++ inside ++ codes "e"

abbrev pub value_bytes : Datum FileValue → List ℕ
value_bytes = canon (λ f. f)

-- ---- expressions

abbrev pub operator_text : Operator → List ℕ
operator_text operator.Add = codes "+"
operator_text operator.Sub = codes "-"
operator_text operator.Mul = codes "*"
operator_text operator.FloorDiv = codes "//"
operator_text operator.Mod = codes "%"

abbrev pub comparison_text : Comparison → List ℕ
comparison_text comparison.Eq = codes "=="
comparison_text comparison.Ne = codes "!="
comparison_text comparison.Lt = codes "<"
comparison_text comparison.Le = codes "<="
comparison_text comparison.Gt = codes ">"
comparison_text comparison.Ge = codes ">="
comparison_text comparison.In = codes "in"
comparison_text comparison.NotIn = codes "not in"

abbrev pub keyword_bytes : List ℕ × List ℕ → List ℕ
keyword_bytes k = listed (string k.0 ++ k.1)

abbrev pub link_bytes : Operator × List ℕ → List ℕ
link_bytes l = listed (string (operator_text l.0) ++ l.1)

abbrev pub pair_bytes : List ℕ × List ℕ → List ℕ
pair_bytes p = listed (p.0 ++ p.1)

-- the bytes of an expression, from those of its parts
abbrev pub node_at : Node-F (List ℕ) (List ℕ) → List ℕ
node_at (Node-F.Lit v) = tagged (codes "l3:lit") (value_bytes v)
node_at (Node-F.Name name) = tagged (codes "l4:name") (string name)
node_at (Node-F.Call name positional keywords) = tagged (codes "l4:call") (string name ++ all positional ++ all (map keyword_bytes keywords))
node_at (Node-F.Method receiver name arguments) = tagged (codes "l6:method") (receiver ++ string name ++ all arguments)
node_at (Node-F.Index receiver place) = tagged (codes "l5:index") (receiver ++ place)
node_at (Node-F.Path receiver) = tagged (codes "l4:path") receiver
node_at (Node-F.Neg operand) = tagged (codes "l3:neg") operand
node_at (Node-F.Not operand) = tagged (codes "l3:not") operand
node_at (Node-F.Chain first rest) = tagged (codes "l5:chain") (first ++ all (map link_bytes rest))
node_at (Node-F.Compare op left right) = tagged (codes "l7:compare") (string (comparison_text op) ++ left ++ right)
node_at (Node-F.And parts) = tagged (codes "l3:and") (all parts)
node_at (Node-F.Or parts) = tagged (codes "l2:or") (all parts)
node_at (Node-F.Cond test when_true when_false) = tagged (codes "l4:cond") (test ++ when_true ++ when_false)
node_at (Node-F.List items) = tagged (codes "l4:list") (all items)
node_at (Node-F.Dict pairs) = tagged (codes "l4:dict") (all (map pair_bytes pairs))
node_at (Node-F.Comp part name iterable conditions) = tagged (codes "l4:comp") (part ++ string name ++ iterable ++ all conditions)

abbrev pub node_bytes : Node (List ℕ) → List ℕ
node_bytes = fold-Node (List ℕ) (List ℕ) node_at

-- ---- statements

abbrev pub branch_bytes : Node (List ℕ) × List (List ℕ) → List ℕ
branch_bytes b = listed (node_bytes b.0 ++ all b.1)

-- the value None stands for what isn't there
abbrev pub answer_bytes : Option (Node (List ℕ)) → List ℕ
answer_bytes None = codes "l1:ne"
answer_bytes (Some e) = node_bytes e

-- the bytes of a statement, from those of the statements in it
abbrev pub statement_at : Statement-F (List ℕ) (List ℕ) → List ℕ
statement_at (Statement-F.Assign name e) = tagged (codes "l6:assign") (string name ++ node_bytes e)
statement_at (Statement-F.For name iterable body) = tagged (codes "l3:for") (string name ++ node_bytes iterable ++ all body)
statement_at (Statement-F.While test body) = tagged (codes "l5:while") (node_bytes test ++ all body)
statement_at (Statement-F.If branches otherwise) = tagged (codes "l2:if") (all (map branch_bytes branches) ++ all otherwise)
statement_at (Statement-F.Return e) = tagged (codes "l6:return") (answer_bytes e)
statement_at (Statement-F.Raise class text) = tagged (codes "l5:raise") (string class ++ node_bytes text)
statement_at Statement-F.Pass = tagged (codes "l4:pass") []
statement_at (Statement-F.Expr e) = tagged (codes "l4:expr") (node_bytes e)

abbrev pub statement_bytes : Statement (List ℕ) → List ℕ
statement_bytes = fold-Statement (List ℕ) (List ℕ) statement_at

abbrev pub block_bytes : List (Statement (List ℕ)) → List ℕ
block_bytes statements = all (map statement_bytes statements)

-- ---- the code of a task

abbrev pub default_bytes : Option (Datum FileValue) → List ℕ
default_bytes None = []
default_bytes (Some v) = value_bytes v

abbrev pub parameter_bytes : Parameter → List ℕ
parameter_bytes p = listed (string p.name ++ default_bytes p.default)

abbrev pub parameters_bytes : List Parameter → List ℕ
parameters_bytes parameters = all (map parameter_bytes parameters)

abbrev pub helper_bytes : Helper → List ℕ
helper_bytes h = listed (string h.name ++ parameters_bytes h.parameters ++ block_bytes h.block)

abbrev pub kind_letter : UseKind → List ℕ
kind_letter kind.Task = codes "t"
kind_letter kind.Helper = codes "h"
kind_letter kind.Builtin = codes "b"
kind_letter kind.ErrorClass = codes "c"

abbrev pub use_bytes : NamedUse → List ℕ
use_bytes u = listed (string u.name ++ string (kind_letter u.kind) ++ string u.task)

abbrev pub structure : List ℕ → List Parameter → List (Statement (List ℕ)) → List Helper → List NamedUse → List ℕ
structure full_name parameters block helpers names =
    listed (string full_name ++ parameters_bytes parameters ++ block_bytes block ++ all (map helper_bytes helpers) ++ all (map use_bytes names))

abbrev pub structure_of : TaskCode → List ℕ
structure_of code = structure code.full_name code.signature.parameters code.body code.helpers code.names

-- the SHA-256 of the structure's blob
abbrev pub digest_of : TaskCode → List ℕ
digest_of code = sha256 (blob Task (structure_of code))
