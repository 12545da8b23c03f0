use Rattle.std.proofs.Common.{rules, ◌≡◌, true, sym, ◌∙◌}
use Rattle.rd_parse.specs.declared.terminal.Terminal.TheVariants as w
use Rattle.rd_parse.specs.Reader.{hits, sees}
use Rattle.rd_parse.specs.Terminal.{is}
use Rattle.rd_parse.proofs.Past.{names_go_on}
use Rattle.rd_parse.proofs.import.names_behind.Goals as goal

pub loop-behind-preserved : goal.loop-behind-preserved
loop-behind-preserved c =
    let begins : sees (hits (is w.Name)) c.in-Some.behind.now ≡ true = search rules in
    sym (names_go_on c.loop-behind.rest.now c.in-Some.behind.now c.in_ok-rest.rest.now c.in-Some.ensures.1 begins c.in_ok-rest.ensures) ∙ c.loop-behind.invariant
