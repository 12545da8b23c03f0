use Rattle.std.proofs.Common.{rules, ◌≡◌, true, Ok, sym, ap, ◌∙◌}
use Rattle.std.specs.Option.{option_copied}
use Rattle.rd_value.specs.Make.{is_key}
use Rattle.rd_interpreter.proofs.MethodDicts.{got_held}
use Rattle.rd_interpreter.proofs.methods.on_dict.get.Goals as goal

pub returns-in_ok-held-in-Some : goal.returns-in_ok-held-in-Some
returns-in_ok-held-in-Some g c =
    let key : is_key c.args.key.now ≡ true = search rules in
    got_held g.V.Held.held _ _ c.args.other _ key (sym c.under.ensures ∙ ap option_copied c.in-Some.is) ∙ ap Ok (sym c.in_ok-held-in-Some.ensures)

pub returns-in-None : goal.returns-in-None
returns-in-None g c =
    let key : is_key c.args.key.now ≡ true = search rules in
    got_held g.V.Held.held _ _ c.args.other _ key (sym c.under.ensures ∙ ap option_copied c.in-None.is)
