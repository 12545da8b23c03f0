use Rattle.std.proofs.Common.{[], map, ap, sym, ◌∙◌}
use Rattle.rd_code.specs.Mentions.{named_in_block, plain}
use Rattle.rd_code.specs.Numbering.{with_mentions}
use Rattle.rd_code.proofs.WithMentions.{with_both}
use Rattle.rd_code.proofs.numbering.texts_within.Goals as goal

pub returns : goal.returns
returns c =
    let ps = map (λ p. plain p.name) c.args.parameters.now in
    let block = named_in_block c.args.block.now in
    c.in_ok-add_mentions.ensures ∙ ap (with_mentions c.add_parameters.new.texts.keys) (c.as_slice.ensures.value ∙ c.in_ok-mentions.ensures)
    ∙ ap (λ texts. with_mentions texts block) (c.in_ok-add_parameters.ensures ∙ ap (λ texts. with_mentions texts ps) c.new-texts.ensures.empty) ∙ sym (with_both [] ps block)
