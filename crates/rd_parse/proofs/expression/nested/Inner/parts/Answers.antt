use Rattle.std.proofs.Common.{sym, ◌∙◌, arith}
use Rattle.std.proofs.lemmas.Result.{err_from_is_err_and}
use Rattle.rd_parse.proofs.Inner.{parts_go_on, parts_done, parts_fail}
use Rattle.rd_parse.proofs.expression.nested.Inner.parts.Goals as goal

pub returns-in_err-part : goal.returns-in_err-part
returns-in_err-part g c =
    let p = err_from_is_err_and c.from_residual.result c.from_residual.ensures.1 in
    rw (p.1, p.2) (parts_fail c.loop-rest.depth c.loop-rest.tree c.loop-rest.rest.now c.in_err-part.field-0.0 _ (sym c.begins_part.ensures ∙ c.loop-rest-test.true) c.in_err-part.ensures.gives c.loop-rest.invariant.1)

pub loop-rest-preserved : goal.loop-rest-preserved
loop-rest-preserved g c = (
  omega (arith, c.loop-rest.invariant.0),
  rw c.in_ok-tree.ensures (sym (parts_go_on c.loop-rest.depth c.loop-rest.tree c.in_ok-part.part c.loop-rest.rest.now c.in_ok-part.after.now (sym c.begins_part.ensures ∙ c.loop-rest-test.true) c.in_ok-part.ensures.gives c.in_ok-part.ensures.open)
      ∙ c.loop-rest.invariant.1),
)

pub returns : goal.returns
returns g c = sym c.loop-rest.invariant.1 ∙ parts_done c.loop-rest.depth c.loop-rest.tree c.loop-rest.rest.now (sym c.begins_part.ensures ∙ c.loop-rest-test.false)
