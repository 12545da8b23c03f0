use Rattle.std.proofs.Common.{rules, ◌≡◌, true, ◌++◌, is_some, sym, ap, ◌∙◌, subst}
use Rattle.rd_interpreter.specs.Held.{items_of}
use Rattle.rd_interpreter.specs.Making.{made}
use Rattle.rd_interpreter.specs.Running.{Gives, items_or_none, own, state}
use Rattle.rd_interpreter.proofs.Operating.{plus_lists}
use Rattle.rd_interpreter.proofs.operation.unsettled_plus.Goals as goal

pub returns-clause-gives : goal.returns-clause-gives
returns-clause-gives c =
    let first : is_some (items_of c.args.a.now) ≡ true = search rules in
    let second : is_some (items_of c.args.b.now) ≡ true = search rules in
    let all : c.append-2.new.all ≡ items_or_none (items_of c.args.a.now) ++ items_or_none (items_of c.args.b.now) = search rules in
    subst (λ r. Gives c.made.result (state c.made.new.frame) r)
    (sym (plus_lists (items_of c.args.a.now) (items_of c.args.b.now) c.append-2.new.all c.args.a.now c.args.b.now (state c.args.frame.now) first second all ∙ ap (λ e. made own e (state c.args.frame.now)) (sym c.in_ok-list.ensures))) c.made.ensures.gives
