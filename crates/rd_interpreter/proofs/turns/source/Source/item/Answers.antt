use Rattle.std.proofs.Common.{refl}
use Rattle.rd_interpreter.proofs.Sources.{cut, value_item, expr_item, key_item, expr_key_item}
use Rattle.rd_interpreter.proofs.turns.source.Source.item.Goals as goal

pub returns-in-Values : goal.returns-in-Values
returns-in-Values c = rw c.in-Values.is (value_item c.in-Values.values c.args.place c.value_at.result (rw c.as_slice.ensures at c.value_at.ensures))

pub returns-in-Exprs : goal.returns-in-Exprs
returns-in-Exprs c = rw c.in-Exprs.is (expr_item c.in-Exprs.exprs c.args.place c.expr_at.result (rw c.as_slice-in-Exprs.ensures at c.expr_at.ensures))

pub returns-in-Keys : goal.returns-in-Keys
returns-in-Keys c = rw c.in-Keys.is (key_item c.in-Keys.pairs c.args.place c.key_at.result (rw c.as_slice-in-Keys.ensures at c.key_at.ensures))

pub returns-in-ExprKeys : goal.returns-in-ExprKeys
returns-in-ExprKeys c = rw c.in-ExprKeys.is (expr_key_item c.in-ExprKeys.pairs c.args.place c.key_at-in-ExprKeys.result (rw c.as_slice-in-ExprKeys.ensures at c.key_at-in-ExprKeys.ensures))

pub character_at-requires : goal.character_at-requires
character_at-requires c = rw c.as_str.ensures.value (cut c.in-Characters.text c.args.place c.as_str.ensures.utf8 (c.requires c.in-Characters.text (rw c.in-Characters.is refl)))
