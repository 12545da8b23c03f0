use Rattle.std.proofs.Common.{sym, ◌∙◌}
use Rattle.rd_parse.specs.Terminal.{among}
use Rattle.rd_parse.specs.Modules.{begins_part}
use Rattle.rd_parse.specs.ModuleReading.{read_part}
use Rattle.rd_parse.proofs.Loops.{plain_goes_on}
use Rattle.rd_parse.proofs.Modules.{part_short}
use Rattle.rd_parse.proofs.module.parts.Goals as goal

pub loop-alloc-smaller : goal.loop-alloc-smaller
loop-alloc-smaller c = part_short c.args.depth c.in_ok-next.next c.loop-alloc.rest.now c.in_ok-next.after.now c.in_ok-next.ensures

pub loop-alloc-preserved : goal.loop-alloc-preserved
loop-alloc-preserved c =
    rw c.in_ok-push.ensures.items (sym (plain_goes_on (among begins_part) (read_part c.args.depth) (part_short c.args.depth) c.loop-alloc.all.items c.loop-alloc.rest.now c.in_ok-next.after.now c.in_ok-next.next
    (sym c.begins_part.ensures ∙ c.loop-alloc-test.true) c.in_ok-next.ensures) ∙ c.loop-alloc.invariant)
