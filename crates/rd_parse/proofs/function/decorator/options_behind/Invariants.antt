use Rattle.std.proofs.Common.{◌≡◌, length}
use Rattle.rd_parse.specs.declared.terminal.Terminal.TheVariants as w
use Rattle.rd_parse.specs.Reader.{hits, onto, read_more}
use Rattle.rd_parse.specs.Terminal.{is}
use Rattle.rd_parse.specs.ModuleReading.{read_option}
use Rattle.rd_parse.proofs.function.decorator.options_behind.Given as goal

abbrev pub invariant-loop-behind : goal.invariant-loop-behind
invariant-loop-behind l = onto l.all.items (read_more (is w.Comma) (hits (is w.Name)) (read_option l.depth)) l.rest ≡ onto l.fn.all.items (read_more (is w.Comma) (hits (is w.Name)) (read_option l.depth)) l.fn.tokens

abbrev pub decreases-loop-behind : goal.decreases-loop-behind
decreases-loop-behind l = length l.rest
