use Rattle.std.proofs.Common.{rules, ◌≡◌, true, sym, ◌∙◌}
use Rattle.rd_parse.specs.declared.terminal.Terminal.TheVariants as w
use Rattle.rd_parse.specs.Reader.{sees, read_more}
use Rattle.rd_parse.specs.Terminal.{among, is}
use Rattle.rd_parse.specs.Literals.{Literal, begins_key, begins_literal, with_key}
use Rattle.rd_parse.specs.LiteralReading.{read_inner_literal, read_more_items, read_more_pairs, read_pair, read_pairs_from}
use Rattle.rd_parse.proofs.Halts.{behind_first}
use Rattle.rd_parse.proofs.Loops.{signed_goes_on, signed_shorter}
use Rattle.rd_parse.proofs.Literals.{inner_short, pair_short}
use Rattle.rd_parse.proofs.literal.+literal.Goals as goal

pub items_behind-loop-behind-smaller : goal.items_behind-loop-behind-smaller
items_behind-loop-behind-smaller t c =
    signed_shorter (is w.Comma) (λ (s : Unit {0}). among begins_literal) (λ (s : Unit {0}). read_inner_literal c.args.depth) (λ (s : Unit {0}) (v : Literal). s) (λ s. inner_short c.args.depth)
    c.loop-behind.all.items tt c.loop-behind.rest.now c.in-Some.behind.now tt c.in-Some.ensures.1 c.in_ok-next.end.now c.in_ok-next.next c.in_ok-next.ensures

pub items_behind-loop-behind-preserved : goal.items_behind-loop-behind-preserved
items_behind-loop-behind-preserved t c =
    let begins : sees (among begins_literal) c.in-Some.behind.now ≡ true = search rules in
    rw c.in_ok-push.ensures.items (sym (signed_goes_on (is w.Comma) (λ (s : Unit {0}). among begins_literal) (λ (s : Unit {0}). read_inner_literal c.args.depth) (λ (s : Unit {0}) (v : Literal). s) (λ s. inner_short c.args.depth)
    c.loop-behind.all.items tt c.loop-behind.rest.now c.in-Some.behind.now tt c.in-Some.ensures.1 c.in_ok-next.end.now c.in_ok-next.next begins c.in_ok-next.ensures) ∙ c.loop-behind.invariant)

pub more_items-returns : goal.more_items-returns
unfolding read_more_items
more_items-returns t c =
    behind_first _ c.items_behind.result (read_more (is w.Comma) (among begins_literal) (read_inner_literal c.args.depth)) c.args.first c.push.new.self.items c.args.tokens.now (search rules) c.items_behind.ensures

pub pairs_behind-loop-behind-smaller : goal.pairs_behind-loop-behind-smaller
pairs_behind-loop-behind-smaller t c =
    signed_shorter (is w.Comma) (λ s. among begins_key) (read_pair c.args.depth (read_inner_literal c.args.depth)) with_key (pair_short c.args.depth)
    c.loop-behind.all.items c.loop-behind.keys.keys c.loop-behind.rest.now c.in-Some.behind.now tt c.in-Some.ensures.1 c.in_ok-next.end.now c.in_ok-next.next c.in_ok-next.ensures.gives

pub pairs_behind-loop-behind-preserved : goal.pairs_behind-loop-behind-preserved
pairs_behind-loop-behind-preserved t c =
    let begins : sees (among begins_key) c.in-Some.behind.now ≡ true = search rules in
    rw (c.in_ok-push.ensures.items, c.in_ok-next.ensures.added) (sym (signed_goes_on (is w.Comma) (λ s. among begins_key) (read_pair c.args.depth (read_inner_literal c.args.depth)) with_key (pair_short c.args.depth)
    c.loop-behind.all.items c.loop-behind.keys.keys c.loop-behind.rest.now c.in-Some.behind.now tt c.in-Some.ensures.1 c.in_ok-next.end.now c.in_ok-next.next begins c.in_ok-next.ensures.gives) ∙ c.loop-behind.invariant)

pub pairs_from-returns : goal.pairs_from-returns
unfolding read_pairs_from
pairs_from-returns t c = behind_first _ c.pairs_behind.result (read_more_pairs c.args.depth (read_inner_literal c.args.depth) c.args.keys.keys) c.args.first c.push.new.self.items c.args.tokens.now (search rules) c.pairs_behind.ensures
