use Rattle.std.proofs.Common.{rules, ◌≡◌, true, sym, ◌∙◌}
use Rattle.rd_parse.specs.declared.terminal.Terminal.TheVariants as w
use Rattle.rd_tree.specs.declared.tree.TaskOption.{TaskOption}
use Rattle.rd_parse.specs.Reader.{hits, sees}
use Rattle.rd_parse.specs.Terminal.{is}
use Rattle.rd_parse.specs.ModuleReading.{read_option}
use Rattle.rd_parse.proofs.Loops.{signed_goes_on, signed_shorter}
use Rattle.rd_parse.proofs.Modules.{option_short}
use Rattle.rd_parse.proofs.function.decorator.options_behind.Goals as goal

pub loop-behind-smaller : goal.loop-behind-smaller
loop-behind-smaller c =
    signed_shorter (is w.Comma) (λ (s : Unit {0}). hits (is w.Name)) (λ (s : Unit {0}). read_option c.args.depth) (λ (s : Unit {0}) (a : TaskOption). s) (λ s. option_short c.args.depth)
    c.loop-behind.all.items tt c.loop-behind.rest.now c.in-Some.behind.now tt c.in-Some.ensures.1 c.in_ok-next.end.now c.in_ok-next.next c.in_ok-next.ensures

pub loop-behind-preserved : goal.loop-behind-preserved
loop-behind-preserved c =
    let begins : sees (hits (is w.Name)) c.in-Some.behind.now ≡ true = search rules in
    rw c.in_ok-push.ensures.items (sym (signed_goes_on (is w.Comma) (λ (s : Unit {0}). hits (is w.Name)) (λ (s : Unit {0}). read_option c.args.depth) (λ (s : Unit {0}) (a : TaskOption). s) (λ s. option_short c.args.depth)
    c.loop-behind.all.items tt c.loop-behind.rest.now c.in-Some.behind.now tt c.in-Some.ensures.1 c.in_ok-next.end.now c.in_ok-next.next begins c.in_ok-next.ensures) ∙ c.loop-behind.invariant)
