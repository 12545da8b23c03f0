use Rattle.std.proofs.Common.{rules, ◌≡◌, true, sym, ◌∙◌}
use Rattle.rd_parse.specs.declared.terminal.Terminal.TheVariants as w
use Rattle.rd_parse.specs.Reader.{sees}
use Rattle.rd_parse.specs.Terminal.{is, among}
use Rattle.rd_parse.specs.Expressions.{Tree, begins_expression}
use Rattle.rd_parse.specs.Reading.{inner, read_pair}
use Rattle.rd_parse.proofs.Loops.{signed_goes_on, signed_shorter}
use Rattle.rd_parse.proofs.Nested.{pair_short}
use Rattle.rd_parse.proofs.expression.nested.Inner.pairs_behind.Goals as goal

pub loop-behind-smaller : goal.loop-behind-smaller
loop-behind-smaller g c =
    signed_shorter (is w.Comma) (λ (s : Unit {0}). among begins_expression) (λ (s : Unit {0}). read_pair c.args.depth (inner c.args.depth)) (λ (s : Unit {0}) (a : Tree × Tree). s) (λ s. pair_short c.args.depth)
    c.loop-behind.all.items tt c.loop-behind.rest.now c.in-Some.behind.now tt c.in-Some.ensures.1 c.in_ok-next.end.now c.in_ok-next.next c.in_ok-next.ensures

pub loop-behind-preserved : goal.loop-behind-preserved
loop-behind-preserved g c =
    let begins : sees (among begins_expression) c.in-Some.behind.now ≡ true = search rules in
    rw c.in_ok-push.ensures.items (sym (signed_goes_on (is w.Comma) (λ (s : Unit {0}). among begins_expression) (λ (s : Unit {0}). read_pair c.args.depth (inner c.args.depth)) (λ (s : Unit {0}) (a : Tree × Tree). s) (λ s. pair_short c.args.depth)
    c.loop-behind.all.items tt c.loop-behind.rest.now c.in-Some.behind.now tt c.in-Some.ensures.1 c.in_ok-next.end.now c.in_ok-next.next begins c.in_ok-next.ensures) ∙ c.loop-behind.invariant)
