use Rattle.std.proofs.Common.{sym, ◌∙◌}
use Rattle.rd_interpreter.proofs.Sources.{character_item, no_character}
use Rattle.rd_interpreter.proofs.turns.source.character_at.Goals as goal

pub returns-in_ok-character-in-Some : goal.returns-in_ok-character-in-Some
returns-in_ok-character-in-Some c =
    character_item c.args.text.now c.range_from.result.now _ _ c.args.place c.in-Some.c _ c.requires.0 c.range_from.ensures.value c.range_from.utf8 (sym c.chars.ensures.rest ∙ c.in-Some.ensures.steps.0) c.len_utf8.ensures.value c.in_ok-character-in-Some.ensures

pub returns-in-None : goal.returns-in-None
returns-in-None c = no_character c.args.text.now c.range_from.result.now c.args.place c.range_from.ensures.value (rw c.chars.ensures.rest at c.in-None.ensures.steps.0.0)
