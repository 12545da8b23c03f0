-- The code of tasks may go to other threads, and be shared between them.
use Rattle.std.proofs.Common.{[], ◌∷◌}
use denote.RattleType.{RattleType}
use denote.Struct.Field.{bool-field, i64-field, usize-field}
use denote.Struct.Tuple.{Tuple}
use denote.Param.SendFields.{as_row_send, as_row_sync, declared_send, declared_sync, variants_send}
use denote.Param.Send.{IsSend, IsSync, sendable}
use Rattle.std.proofs.Crossing.{Arc-send}
use Rattle.rd_base.specs.contracts.items.Items as Items
use Rattle.rd_base.specs.contracts.text.Text as Text
use Rattle.rd_base.proofs.items.Items.TheSendSync as items
use Rattle.rd_base.proofs.boxed.Boxed.TheSendSync as boxed
use Rattle.rd_base.proofs.text.Text.TheSendSync as text
use Rattle.rd_value.specs.contracts.class.Class as Class
use Rattle.rd_value.specs.contracts.failure.Failure as Failure
use Rattle.rd_value.specs.contracts.signature.Parameter as Taken
use Rattle.rd_value.specs.contracts.signature.Signature as Signature
use Rattle.rd_value.specs.contracts.value.Datum as Datum
use Rattle.rd_value.specs.contracts.value.ErrorValue as Error
use Rattle.rd_value.specs.contracts.value.FileValue as File
use Rattle.rd_value.proofs.value.FileValue.TheSendSync as file
use Rattle.rd_value.proofs.Threads.{crossings, expr_send, value_send, value_sync}
use Rattle.rd_value.proofs.value.Datum.TheLaws.TheKnot.{both_send-Datum, both_sync-Datum}
use Rattle.rd_tree.specs.contracts.tree.Comparison as Comparison
use Rattle.rd_tree.specs.contracts.tree.Operator as Operator
use Rattle.rd_tree.specs.contracts.tree.Node as Node
use Rattle.rd_tree.specs.contracts.tree.Statement as Statement
use Rattle.rd_routine.specs.contracts.routine.Callee as Callee
use Rattle.rd_routine.specs.contracts.routine.Parameter as Parameter
use Rattle.rd_routine.specs.contracts.routine.Routine as Routine
use Rattle.rd_routine.specs.contracts.routine.Word as Word
use Rattle.rd_body.specs.contracts.job.BodyJob as Job
use Rattle.rd_body.specs.contracts.job.Finished as Finished
use Rattle.rd_body.specs.contracts.job.Reduction as Reduction
use Rattle.rd_code.specs.contracts.code.TaskCode as Code
use Rattle.rd_code.specs.contracts.named.Helper as Helper
use Rattle.rd_code.specs.contracts.named.NamedUse as Use
use Rattle.rd_code.specs.contracts.named.UseKind as Kind
use Rattle.rd_tree.proofs.tree.Node.TheLaws.TheKnot.{both_send-Node, both_sync-Node}
use Rattle.rd_tree.proofs.tree.Statement.TheLaws.TheKnot.{both_send-Statement, both_sync-Statement}

-- a type that may do both
abbrev Crosses : RattleType → Type 0
Crosses R = IsSend R × IsSync R

pair : (A B : RattleType) → Crosses A → Crosses B → Crosses (Tuple (A ∷ B ∷ []))
pair A B a b = let as_ = a.0 in let ay = a.1 in let bs = b.0 in let by_ = b.1 in (search sendable depth 20, search sendable depth 20)

items_cross : (A : RattleType) → Crosses A → Crosses (Items.the_row A)
items_cross A a = (items.the_send A a.0 a.1, items.the_sync A a.0 a.1)

pairs_cross : (A B : RattleType) → Crosses A → Crosses B → Crosses (Items.the_row (Tuple (A ∷ B ∷ [])))
pairs_cross A B a b = items_cross (Tuple (A ∷ B ∷ [])) (pair A B a b)

operator_crosses : Crosses Operator.the_row
operator_crosses = (search sendable depth 20, search sendable depth 20)

comparison_crosses : Crosses (Comparison.the_field).row
comparison_crosses = (search sendable depth 20, search sendable depth 20)

-- ---- values, as fields

bool_crosses : Crosses bool-field.row
bool_crosses = (search sendable depth 20, search sendable depth 20)

int_crosses : Crosses i64-field.row
int_crosses = (search sendable depth 20, search sendable depth 20)

error_crosses : Crosses Error.the_field.row
error_crosses = (search (text.the_send, sendable) depth 20, search (text.the_sync, sendable) depth 20)

entries : (h : RattleType) → IsSend h → IsSync h → Crosses (Items.the_row (Tuple (h ∷ h ∷ [])))
entries h s y = pairs_cross h h (s, y) (s, y)

value_field : Crosses (Datum.the_field File.the_row).row
value_field = (
  both_send-Datum File.the_row bool_crosses.0 bool_crosses.1 int_crosses.0 int_crosses.1 text.the_send text.the_sync items.the_send items.the_sync
      (λ h s y. (entries h s y).0) (λ h s y. (entries h s y).1) file.the_send file.the_sync error_crosses.0 error_crosses.1,
  both_sync-Datum File.the_row bool_crosses.0 bool_crosses.1 int_crosses.0 int_crosses.1 text.the_send text.the_sync items.the_send items.the_sync
      (λ h s y. (entries h s y).0) (λ h s y. (entries h s y).1) file.the_send file.the_sync error_crosses.0 error_crosses.1,
)

-- ---- trees

module _ (N : RattleType) (n : Crosses N) where
  keywords : (h : RattleType) → IsSend h → IsSync h → Crosses (Items.the_row (Tuple (N ∷ h ∷ [])))
  keywords h s y = pairs_cross N h n (s, y)

  links : (h : RattleType) → IsSend h → IsSync h → Crosses (Items.the_row (Tuple (Operator.the_row ∷ h ∷ [])))
  links h s y = pairs_cross Operator.the_row h operator_crosses (s, y)

  node_field : Crosses (Node.the_field N).row
  node_field = (
    both_send-Node N value_field.0 value_field.1 n.0 n.1 items.the_send items.the_sync (λ h s y. (keywords h s y).0) (λ h s y. (keywords h s y).1) boxed.the_send boxed.the_sync text.the_send text.the_sync
        (λ h s y. (links h s y).0) (λ h s y. (links h s y).1) comparison_crosses.0 comparison_crosses.1 (λ h s y. (entries h s y).0) (λ h s y. (entries h s y).1),
    both_sync-Node N value_field.0 value_field.1 n.0 n.1 items.the_send items.the_sync (λ h s y. (keywords h s y).0) (λ h s y. (keywords h s y).1) boxed.the_send boxed.the_sync text.the_send text.the_sync
        (λ h s y. (links h s y).0) (λ h s y. (links h s y).1) comparison_crosses.0 comparison_crosses.1 (λ h s y. (entries h s y).0) (λ h s y. (entries h s y).1),
  )

  node_crosses : Crosses (Node.the_row N)
  node_crosses = (as_row_send (Node.the_field N) node_field.0, as_row_sync (Node.the_field N) node_field.1)

  branches : (h : RattleType) → IsSend h → IsSync h → Crosses (Items.the_row (Tuple (Node.the_row N ∷ Items.the_row h ∷ [])))
  branches h s y = pairs_cross (Node.the_row N) (Items.the_row h) node_crosses (items_cross h (s, y))

  statement_field : Crosses (Statement.the_field N).row
  statement_field = (
    both_send-Statement N n.0 n.1 node_field.0 node_field.1 items.the_send items.the_sync (λ h s y. (branches h s y).0) (λ h s y. (branches h s y).1)
        (search (node_crosses.0, sendable) depth 20) (search (node_crosses.1, sendable) depth 20),
    both_sync-Statement N n.0 n.1 node_field.0 node_field.1 items.the_send items.the_sync (λ h s y. (branches h s y).0) (λ h s y. (branches h s y).1)
        (search (node_crosses.0, sendable) depth 20) (search (node_crosses.1, sendable) depth 20),
  )

  pub statement_send : IsSend (Statement.the_row N)
  statement_send = as_row_send (Statement.the_field N) statement_field.0

  pub statement_sync : IsSync (Statement.the_row N)
  statement_sync = as_row_sync (Statement.the_field N) statement_field.1

-- ---- trees with texts, and with slots

text_crosses : Crosses Text.the_row
text_crosses = (text.the_send, text.the_sync)

slot_crosses : Crosses usize-field.row
slot_crosses = (search sendable depth 20, search sendable depth 20)

pub block_send : IsSend (Statement.the_row Text.the_row)
block_send = statement_send Text.the_row text_crosses

pub block_sync : IsSync (Statement.the_row Text.the_row)
block_sync = statement_sync Text.the_row text_crosses

pub numbered_send : IsSend (Statement.the_row usize-field.row)
numbered_send = statement_send usize-field.row slot_crosses

pub numbered_sync : IsSync (Statement.the_row usize-field.row)
numbered_sync = statement_sync usize-field.row slot_crosses

-- ---- functions with numbers

callee_send : IsSend Callee.the_field.row
callee_send = search (text.the_send, sendable) depth 20

callee_sync : IsSync Callee.the_field.row
callee_sync = search (text.the_sync, sendable) depth 20

class_send : IsSend Class.the_row
class_send = search sendable depth 20

class_sync : IsSync Class.the_row
class_sync = search sendable depth 20

pub word_send : IsSend Word.the_row
word_send = search (callee_send, class_send, text.the_send, sendable) depth 20

pub word_sync : IsSync Word.the_row
word_sync = search (callee_sync, class_sync, text.the_sync, sendable) depth 20

pub parameter_send : IsSend Parameter.the_row
parameter_send = search (value_send, sendable) depth 20

pub parameter_sync : IsSync Parameter.the_row
parameter_sync = search (value_sync, sendable) depth 20

-- what a function with numbers is shown by
ruleset routines = (word_send, word_sync, parameter_send, parameter_sync, numbered_send, numbered_sync, crossings)

pub routine_send : IsSend Routine.the_row
routine_send = search routines depth 20

pub routine_sync : IsSync Routine.the_row
routine_sync = search routines depth 20

-- ---- the code of tasks

kind_send : IsSend Kind.the_field.row
kind_send = search sendable depth 20

kind_sync : IsSync Kind.the_field.row
kind_sync = search sendable depth 20

pub use_send : IsSend Use.the_row
use_send = search (kind_send, text.the_send, sendable) depth 20

pub use_sync : IsSync Use.the_row
use_sync = search (kind_sync, text.the_sync, sendable) depth 20

pub taken_send : IsSend Taken.the_row
taken_send = search (value_send, text.the_send, sendable) depth 20

pub taken_sync : IsSync Taken.the_row
taken_sync = search (value_sync, text.the_sync, sendable) depth 20

-- what a function's parts are shown by
ruleset trees = (block_send, block_sync, taken_send, taken_sync, crossings)

pub helper_send : IsSend Helper.the_row
helper_send = search trees depth 20

pub helper_sync : IsSync Helper.the_row
helper_sync = search trees depth 20

signature_send : IsSend Signature.the_row
signature_send = search trees depth 20

signature_sync : IsSync Signature.the_row
signature_sync = search trees depth 20

block_list : Crosses (Items.the_row (Statement.the_row Text.the_row))
block_list = items_cross (Statement.the_row Text.the_row) (block_send, block_sync)

helpers_cross : Crosses (Items.the_row Helper.the_row)
helpers_cross = items_cross Helper.the_row (helper_send, helper_sync)

uses_cross : Crosses (Items.the_row Use.the_row)
uses_cross = items_cross Use.the_row (use_send, use_sync)

routines_cross : Crosses (Items.the_row Routine.the_row)
routines_cross = items_cross Routine.the_row (routine_send, routine_sync)

pub code_send : IsSend Code.the_row
code_send = declared_send Code.the_type (text.the_send, (signature_send, (block_list.0, (helpers_cross.0, (uses_cross.0, (routine_send, (routines_cross.0, tt)))))))

pub code_sync : IsSync Code.the_row
code_sync = declared_sync Code.the_type (text.the_sync, (signature_sync, (block_list.1, (helpers_cross.1, (uses_cross.1, (routine_sync, (routines_cross.1, tt)))))))

-- what a type that holds the code of tasks is shown by
pub ruleset codes = (code_send, code_sync, crossings)

-- ---- jobs, and what came of them

values_send : IsSend (Items.the_row (Datum.the_row File.the_row))
values_send = items.the_send (Datum.the_row File.the_row) value_send value_sync

pub job_send : IsSend Job.the_row
job_send = declared_send Job.the_type (search sendable depth 20, (Arc-send Code.the_row code_send code_sync, (values_send, tt)))

failure_send : IsSend Failure.the_row
failure_send = search (class_send, text.the_send, sendable) depth 20

reduction_send : IsSend Reduction.the_row
reduction_send = variants_send Reduction.enum ((expr_send, tt), ((failure_send, tt), tt))

pub finished_send : IsSend Finished.the_row
finished_send = declared_send Finished.the_type (job_send, (reduction_send, tt))
