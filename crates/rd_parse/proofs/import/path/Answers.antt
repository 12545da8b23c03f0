use Rattle.std.proofs.Common.{sym, ◌∙◌}
use Rattle.rd_parse.specs.declared.terminal.Terminal.TheVariants as w
use Rattle.rd_parse.specs.Reader.{hits}
use Rattle.rd_parse.specs.Terminal.{is}
use Rattle.rd_parse.specs.ModuleReading.{read_part_of_path}
use Rattle.rd_parse.proofs.Past.{past_goes_on}
use Rattle.rd_parse.proofs.Modules.{part_of_path_short}
use Rattle.rd_parse.proofs.import.path.Goals as goal

pub loop-rest-smaller : goal.loop-rest-smaller
loop-rest-smaller c = part_of_path_short tt c.loop-rest.rest.now c.in_ok-rest.rest.now c.in_ok-rest.ensures

pub loop-rest-preserved : goal.loop-rest-preserved
loop-rest-preserved c =
    sym (past_goes_on (hits (is w.Dot)) read_part_of_path part_of_path_short c.loop-rest.rest.now c.in_ok-rest.rest.now tt (sym c.begins_with.ensures ∙ c.loop-rest-test.true) c.in_ok-rest.ensures) ∙ c.loop-rest.invariant
