use Rattle.std.proofs.Common.{length, arith}
use Rattle.rd_value.proofs.Cut.{floor_is}
use borrow.Author.Tests.{lt-leb}
use Rattle.std.proofs.lemmas.Grind.{common_steps}
use Rattle.rd_value.specs.Raise.{longest}
use Rattle.rd_value.proofs.raise.cut.Goals as goal

pub returns : goal.returns
returns c =
    let kept = c.floor_char_boundary.result in
    let is = floor_is c.args.text.now longest kept c.if-text-le-LONGEST.false c.floor_char_boundary.ensures.bound c.floor_char_boundary.ensures.boundary c.floor_char_boundary.ensures.nearest in
    rw (c.range.ensures.value, lt-leb (length c.args.text.now) longest c.if-text-le-LONGEST.false, is) (grind (arith, common_steps))
