use Rattle.std.proofs.Common.{rules, ◌≡◌, true, sym, ◌∙◌}
use Rattle.rd_parse.specs.declared.terminal.Terminal.TheVariants as w
use Rattle.rd_parse.specs.Reader.{hits, sees}
use Rattle.rd_parse.specs.Terminal.{is}
use Rattle.rd_parse.specs.Modules.{defaulted}
use Rattle.rd_parse.specs.ModuleReading.{read_parameter}
use Rattle.rd_parse.proofs.Loops.{signed_goes_on, signed_shorter}
use Rattle.rd_parse.proofs.Modules.{parameter_short}
use Rattle.rd_parse.proofs.function.parameters.parameters_behind.Goals as goal

pub loop-behind-smaller : goal.loop-behind-smaller
loop-behind-smaller c =
    signed_shorter (is w.Comma) (λ s. hits (is w.Name)) (read_parameter c.args.depth) defaulted (parameter_short c.args.depth)
    c.loop-behind.all.items c.loop-behind.needed c.loop-behind.rest.now c.in-Some.behind.now tt c.in-Some.ensures.1 c.in_ok-next.end.now c.in_ok-next.next c.in_ok-next.ensures

pub loop-behind-preserved : goal.loop-behind-preserved
loop-behind-preserved c =
    let begins : sees (hits (is w.Name)) c.in-Some.behind.now ≡ true = search rules in
    rw (c.in_ok-push.ensures.items, c.defaulted-needed.ensures) (sym (signed_goes_on (is w.Comma) (λ s. hits (is w.Name)) (read_parameter c.args.depth) defaulted (parameter_short c.args.depth)
    c.loop-behind.all.items c.loop-behind.needed c.loop-behind.rest.now c.in-Some.behind.now tt c.in-Some.ensures.1 c.in_ok-next.end.now c.in_ok-next.next begins c.in_ok-next.ensures) ∙ c.loop-behind.invariant)
