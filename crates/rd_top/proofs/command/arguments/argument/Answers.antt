use Rattle.std.proofs.Common.{ℕ, List, sym, ap, subst, ◌∙◌, arith}
use Rattle.rd_names.specs.Spelling.{is_name}
use Rattle.rd_top.specs.Command.{Means}
use Rattle.rd_top.proofs.command.arguments.argument.Goals as goal

pub returns : goal.returns
returns c =
    let b = c.in-Some.ensures.byte (omega arith) (λ w o f. f) in
    record {
      has = b.2;
      named = ap is_name (sym b.0) ∙ (sym c.is_name.ensures ∙ c.if-not-is_name.false);
      name = c.in_ok-from_str.ensures ∙ b.0;
      means = subst (λ (t : List ℕ). Means t c.in_ok-value.value) b.1 c.in_ok-value.ensures;
      within = sym c.within.ensures ∙ c.if-not-within.false;
    }
