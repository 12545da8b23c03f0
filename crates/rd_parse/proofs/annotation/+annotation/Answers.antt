use Rattle.std.proofs.Common.{sym, ◌∙◌}
use Rattle.rd_parse.specs.declared.terminal.Terminal.TheVariants as w
use Rattle.rd_parse.specs.Reader.{hits}
use Rattle.rd_parse.specs.Terminal.{is}
use Rattle.rd_parse.specs.StatementReading.{read_another, read_another_part, read_inner_annotation}
use Rattle.rd_parse.proofs.Past.{past_goes_on}
use Rattle.rd_parse.proofs.Statements.{another_short, another_part_short}
use Rattle.rd_parse.proofs.annotation.+annotation.Goals as goal

pub others-loop-rest-smaller : goal.others-loop-rest-smaller
others-loop-rest-smaller t c = another_short c.args.depth tt c.loop-rest.rest.now c.in_ok-rest.rest.now c.in_ok-rest.ensures

pub others-loop-rest-preserved : goal.others-loop-rest-preserved
others-loop-rest-preserved t c =
    sym (past_goes_on (hits (is w.Comma)) (read_another c.args.depth (read_inner_annotation c.args.depth)) (another_short c.args.depth) c.loop-rest.rest.now c.in_ok-rest.rest.now tt
    (sym c.begins_with.ensures ∙ c.loop-rest-test.true) c.in_ok-rest.ensures) ∙ c.loop-rest.invariant

pub parts_behind-loop-rest-smaller : goal.parts_behind-loop-rest-smaller
parts_behind-loop-rest-smaller t c = another_part_short c.args.depth tt c.loop-rest.rest.now c.in_ok-rest.rest.now c.in_ok-rest.ensures

pub parts_behind-loop-rest-preserved : goal.parts_behind-loop-rest-preserved
parts_behind-loop-rest-preserved t c =
    sym (past_goes_on (hits (is w.Bar)) (read_another_part c.args.depth (read_inner_annotation c.args.depth)) (another_part_short c.args.depth) c.loop-rest.rest.now c.in_ok-rest.rest.now tt
    (sym c.begins_with.ensures ∙ c.loop-rest-test.true) c.in_ok-rest.ensures) ∙ c.loop-rest.invariant
