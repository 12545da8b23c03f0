use Rattle.std.proofs.Common.{rules, ◌≡◌, true, sym, ◌∙◌}
use Rattle.rd_parse.specs.declared.terminal.Terminal.TheVariants as w
use Rattle.rd_parse.specs.Reader.{sees}
use Rattle.rd_parse.specs.Terminal.{is, among}
use Rattle.rd_parse.specs.Expressions.{begins_argument, behind}
use Rattle.rd_parse.specs.Reading.{inner, read_argument}
use Rattle.rd_parse.proofs.Loops.{signed_goes_on, signed_shorter}
use Rattle.rd_parse.proofs.Nested.{argument_short}
use Rattle.rd_parse.proofs.expression.nested.Inner.arguments_behind.Goals as goal

pub loop-begun-smaller : goal.loop-begun-smaller
loop-begun-smaller g c =
    signed_shorter (is w.Comma) (λ s. among (begins_argument s)) (read_argument c.args.depth (inner c.args.depth)) behind (argument_short c.args.depth)
    c.loop-begun.all.items c.loop-begun.keywords c.loop-begun.rest.now c.in-Some.begun.now tt c.in-Some.ensures.1 c.in_ok-next.end.now c.in_ok-next.next c.in_ok-next.ensures

pub loop-begun-preserved : goal.loop-begun-preserved
loop-begun-preserved g c =
    let begins : sees (among (begins_argument c.loop-begun.keywords)) c.in-Some.begun.now ≡ true = search rules in
    rw (c.in_ok-push.ensures.items, c.behind-keywords.ensures) (sym (signed_goes_on (is w.Comma) (λ s. among (begins_argument s)) (read_argument c.args.depth (inner c.args.depth)) behind (argument_short c.args.depth)
    c.loop-begun.all.items c.loop-begun.keywords c.loop-begun.rest.now c.in-Some.begun.now tt c.in-Some.ensures.1 c.in_ok-next.end.now c.in_ok-next.next begins c.in_ok-next.ensures) ∙ c.loop-begun.invariant)
