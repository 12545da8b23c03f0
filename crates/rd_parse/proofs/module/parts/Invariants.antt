use Rattle.std.proofs.Common.{◌≡◌, length}
use Rattle.rd_parse.specs.Reader.{onto, read_many}
use Rattle.rd_parse.specs.Terminal.{among}
use Rattle.rd_parse.specs.Modules.{begins_part}
use Rattle.rd_parse.specs.ModuleReading.{read_part}
use Rattle.rd_parse.proofs.module.parts.Given as goal

abbrev pub invariant-loop-alloc : goal.invariant-loop-alloc
invariant-loop-alloc l = onto l.all.items (read_many (among begins_part) (read_part l.depth)) l.rest ≡ read_many (among begins_part) (read_part l.depth) l.fn.tokens

abbrev pub decreases-loop-alloc : goal.decreases-loop-alloc
decreases-loop-alloc l = length l.rest
