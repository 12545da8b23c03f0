-- Values and expressions may go to other threads, and be shared between them.
use Rattle.std.proofs.Common.{[], ◌∷◌}
use denote.RattleType.{RattleType}
use denote.Struct.Field.{bool-field, i64-field}
use denote.Struct.Tuple.{Tuple}
use denote.Param.SendFields.{as_row_send, as_row_sync}
use denote.Param.Send.{IsSend, IsSync, sendable}
use Rattle.rd_base.specs.contracts.items.Items as Items
use Rattle.rd_base.specs.contracts.text.Text as Text
use Rattle.rd_base.proofs.items.Items.TheSendSync as items
use Rattle.rd_base.proofs.boxed.Boxed.TheSendSync as boxed
use Rattle.rd_base.proofs.text.Text.TheSendSync as text
use Rattle.rd_base.proofs.path.Path.TheSendSync as path
use Rattle.rd_value.specs.contracts.class.Class as Class
use Rattle.rd_value.specs.contracts.value.ErrorValue as Error
use Rattle.rd_value.specs.contracts.value.FileValue as File
use Rattle.rd_value.specs.contracts.value.Datum as Datum
use Rattle.rd_value.specs.contracts.expr.OpKind as OpKind
use Rattle.rd_value.specs.contracts.expr.Lazy as Lazy
use Rattle.rd_value.proofs.value.FileValue.TheSendSync as file
use Rattle.rd_value.proofs.value.Datum.TheLaws.TheKnot.{both_send-Datum, both_sync-Datum}
use Rattle.rd_value.proofs.expr.Lazy.TheLaws.TheKnot.{both_send-Lazy, both_sync-Lazy}

-- a type that may do both
abbrev Crosses : RattleType → Type 0
Crosses R = IsSend R × IsSync R

-- the list of pairs of two types
abbrev pairs : RattleType → RattleType → RattleType
pairs A B = Items.the_row (Tuple (A ∷ B ∷ []))

pair : (A B : RattleType) → IsSend A → IsSync A → IsSend B → IsSync B → Crosses (Tuple (A ∷ B ∷ []))
pair A B as_ ay bs by_ = (search sendable depth 20, search sendable depth 20)

pairs_send : (A B : RattleType) → IsSend A → IsSync A → IsSend B → IsSync B → IsSend (pairs A B)
pairs_send A B as_ ay bs by_ = let p = pair A B as_ ay bs by_ in items.the_send (Tuple (A ∷ B ∷ [])) p.0 p.1

pairs_sync : (A B : RattleType) → IsSend A → IsSync A → IsSend B → IsSync B → IsSync (pairs A B)
pairs_sync A B as_ ay bs by_ = let p = pair A B as_ ay bs by_ in items.the_sync (Tuple (A ∷ B ∷ [])) p.0 p.1

bool_crosses : Crosses (bool-field).row
bool_crosses = (search sendable depth 20, search sendable depth 20)

int_crosses : Crosses (i64-field).row
int_crosses = (search sendable depth 20, search sendable depth 20)

op_crosses : Crosses (OpKind.the_field).row
op_crosses = (search sendable depth 20, search sendable depth 20)

class_crosses : Crosses (Class.the_field).row
class_crosses = (search sendable depth 20, search sendable depth 20)

error_crosses : Crosses (Error.the_field).row
error_crosses = (search (text.the_send, sendable) depth 20, search (text.the_sync, sendable) depth 20)

value_field : Crosses (Datum.the_field File.the_row).row
value_field = (
  both_send-Datum File.the_row bool_crosses.0 bool_crosses.1 int_crosses.0 int_crosses.1 text.the_send text.the_sync items.the_send items.the_sync
      (λ h s y. pairs_send h h s y s y) (λ h s y. pairs_sync h h s y s y) file.the_send file.the_sync error_crosses.0 error_crosses.1,
  both_sync-Datum File.the_row bool_crosses.0 bool_crosses.1 int_crosses.0 int_crosses.1 text.the_send text.the_sync items.the_send items.the_sync
      (λ h s y. pairs_send h h s y s y) (λ h s y. pairs_sync h h s y s y) file.the_send file.the_sync error_crosses.0 error_crosses.1,
)

pub value_send : IsSend (Datum.the_row File.the_row)
value_send = as_row_send (Datum.the_field File.the_row) value_field.0

pub value_sync : IsSync (Datum.the_row File.the_row)
value_sync = as_row_sync (Datum.the_field File.the_row) value_field.1

keywords_send : (R : RattleType) → IsSend R → IsSync R → IsSend (pairs Text.the_row R)
keywords_send R s y = pairs_send Text.the_row R text.the_send text.the_sync s y

keywords_sync : (R : RattleType) → IsSend R → IsSync R → IsSync (pairs Text.the_row R)
keywords_sync R s y = pairs_sync Text.the_row R text.the_send text.the_sync s y

keyed_send : (R : RattleType) → IsSend R → IsSync R → IsSend (pairs (Datum.the_row File.the_row) R)
keyed_send R s y = pairs_send (Datum.the_row File.the_row) R value_send value_sync s y

keyed_sync : (R : RattleType) → IsSend R → IsSync R → IsSync (pairs (Datum.the_row File.the_row) R)
keyed_sync R s y = pairs_sync (Datum.the_row File.the_row) R value_send value_sync s y

expr_field : Crosses (Lazy.the_field File.the_row).row
expr_field = (
  both_send-Lazy File.the_row value_field.0 value_field.1 text.the_send text.the_sync items.the_send items.the_sync keywords_send keywords_sync
      path.the_send path.the_sync op_crosses.0 op_crosses.1 keyed_send keyed_sync boxed.the_send boxed.the_sync class_crosses.0 class_crosses.1,
  both_sync-Lazy File.the_row value_field.0 value_field.1 text.the_send text.the_sync items.the_send items.the_sync keywords_send keywords_sync
      path.the_send path.the_sync op_crosses.0 op_crosses.1 keyed_send keyed_sync boxed.the_send boxed.the_sync class_crosses.0 class_crosses.1,
)

pub expr_send : IsSend (Lazy.the_row File.the_row)
expr_send = as_row_send (Lazy.the_field File.the_row) expr_field.0

pub expr_sync : IsSync (Lazy.the_row File.the_row)
expr_sync = as_row_sync (Lazy.the_field File.the_row) expr_field.1

-- what a type that holds values and expressions is shown by
pub ruleset crossings = (value_send, value_sync, expr_send, expr_sync, items.the_send, items.the_sync, boxed.the_send, boxed.the_sync, text.the_send, text.the_sync, path.the_send, path.the_sync, sendable)
