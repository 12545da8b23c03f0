use Rattle.std.proofs.Common.{rules}
use Rattle.rd_parse.specs.declared.terminal.Terminal.TheVariants as w
use Rattle.rd_parse.specs.Reader.{read_more}
use Rattle.rd_parse.specs.Terminal.{among, is}
use Rattle.rd_parse.specs.Expressions.{begins_expression}
use Rattle.rd_parse.specs.Reading.{inner, read_pair, read_more_pairs}
use Rattle.rd_parse.proofs.Halts.{behind_first}
use Rattle.rd_parse.proofs.expression.nested.Inner.more_pairs.Goals as goal

pub returns : goal.returns
unfolding read_more_pairs
returns g c = behind_first _ c.pairs_behind.result (read_more (is w.Comma) (among begins_expression) (read_pair c.args.depth (inner c.args.depth))) c.args.first c.push.new.self.items c.args.tokens.now (search rules) c.pairs_behind.ensures
