use Rattle.std.proofs.Common.{◌≡◌, ◌<◌, true, length, rules, ap, sym, ◌∙◌, get_or}
use Rattle.std.proofs.lemmas.Str.{IsCharBoundary-after_ascii}
use Rattle.rd_interpreter.specs.Texts.{is_space}
use Rattle.rd_interpreter.proofs.TextPieces.{space_ascii}
use Rattle.rd_interpreter.proofs.texts.skipped.Goals as goal

pub range_from-rest-requires : goal.range_from-rest-requires
range_from-rest-requires c h =
    let some : 0 < length c.loop-rest.rest.now = search rules in
    let space : is_space (get_or c.loop-rest.rest.now 0 0) ≡ true = ap (λ l. is_space (get_or l 0 0)) (sym c.as_bytes.ensures.value) ∙ sym c.is_space.ensures ∙ c.if-is_space.true in
    IsCharBoundary-after_ascii c.loop-rest.rest.now 0 c.loop-rest.invariant.0 some (space_ascii _ space)
