use Rattle.std.proofs.Common.{◌≡◌, ◌∙◌, [], ap, sym, map, refl}
use Rattle.rd_names.specs.Uses.{locals, assigned_in}
use Rattle.rd_names.specs.Names.{is_among, with_names}
use Rattle.rd_names.proofs.NameSets.{with_both}
use Rattle.rd_names.proofs.OneMore.{among_all}
use Rattle.rd_names.proofs.Walking.{third_behind}
use Rattle.rd_names.proofs.names.judge_function.Goals as goal

pub returns : goal.returns
returns c =
    let given = map (λ p. p.name.text) c.args.function.now.parameters in
    let put = assigned_in c.args.function.now.body in
    let made : c.in_ok-locals.locals.keys ≡ with_names [] given = rw c.as_slice.ensures at c.in_ok-locals.ensures.names in
    let grown : c.add_assigned.new.locals.keys ≡ with_names c.in_ok-locals.locals.keys put = rw c.as_slice-2.ensures at c.in_ok-add_assigned.ensures in
    let whole : c.add_assigned.new.locals.keys ≡ with_names [] (locals c.args.function.now) = grown ∙ ap (λ ks. with_names ks put) made ∙ sym (with_both [] given put) in
    let local : is_among c.add_assigned.new.locals.keys ≡ is_among (locals c.args.function.now) = ap is_among whole ∙ among_all (locals c.args.function.now) in
    third_behind c.judge_body.result c.args.all.now.items c.judge_task.new.all.items c.note_parameters.new.all.items c.judge_body.new.all.items _ _ _ _
    (rw (local, c.as_slice-3.ensures) at c.judge_body.ensures.all) (rw c.as_slice.ensures at c.in_ok-locals.ensures.all) c.in_ok-judge_task.ensures refl
