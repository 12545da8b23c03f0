use Rattle.std.proofs.Common.{rules, ◌∷◌, subst}
use Rattle.rd_parse.specs.Reader.{and_then, pure}
use Rattle.rd_parse.specs.Gives.{Gives}
use Rattle.rd_parse.specs.Reading.{inner, read_arguments_behind, read_more_arguments}
use Rattle.rd_parse.proofs.Halts.{behind_first}
use Rattle.rd_parse.proofs.expression.nested.Inner.more_arguments.Goals as goal

pub returns : goal.returns
unfolding read_more_arguments
returns g c =
    subst (λ s. Gives (λ x. (x.0.items, x.1.now)) c.arguments_behind.result (and_then (read_arguments_behind c.args.depth (inner c.args.depth) s c.args.tokens.now) (λ more. pure (c.args.first ∷ more)))) c.behind-keywords.ensures
    (behind_first _ c.arguments_behind.result (read_arguments_behind c.args.depth (inner c.args.depth) c.behind-keywords.result) c.args.first c.push.new.self.items c.args.tokens.now (search rules) c.arguments_behind.ensures)
