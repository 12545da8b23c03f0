use Rattle.rd_interpreter.proofs.MethodDicts.{keys_shown, values_shown, items_shown}
use Rattle.rd_interpreter.proofs.methods.on_dict.on_dict.Goals as goal

pub returns-in_ok-keys-in-Keys-empty-clause-gives : goal.returns-in_ok-keys-in-Keys-empty-clause-gives
returns-in_ok-keys-in-Keys-empty-clause-gives g c = keys_shown g.V.Held.held _ _ _ c.args.pairs.now _ _ _ c.in-Keys-empty.is-0 c.in-Keys-empty.len_below c.in_ok-keys-in-Keys-empty.ensures c.shown_list.ensures.gives

pub returns-in_ok-held_values-in-Values-empty-clause-gives : goal.returns-in_ok-held_values-in-Values-empty-clause-gives
returns-in_ok-held_values-in-Values-empty-clause-gives g c = values_shown g.V.Held.held _ _ _ c.args.pairs.now _ _ _ c.in-Values-empty.is-0 c.in-Values-empty.len_below c.in_ok-held_values-in-Values-empty.ensures c.shown_list-in-Values-empty.ensures.gives

pub returns-in_ok-items-in-Items-empty-clause-gives : goal.returns-in_ok-items-in-Items-empty-clause-gives
returns-in_ok-items-in-Items-empty-clause-gives g c = items_shown g.V.Held.held _ _ _ c.args.pairs.now _ _ _ c.in-Items-empty.is-0 c.in-Items-empty.len_below c.in_ok-items-in-Items-empty.ensures c.shown_list-in-Items-empty.ensures.gives
