use Rattle.std.proofs.Common.{◌≡◌, ℕ, None, Some, refl, sym, ◌∙◌}
use Rattle.std.specs.Prelude.{Option}
use Rattle.std.specs.Option.{option_map}
use Rattle.std.proofs.lemmas.Iterator.{YieldsList-from_chars}
use Rattle.std.proofs.lemmas.Iterator.Consumers.{nth_from_yields_List}
use Rattle.rd_meaning.proofs.index.nth.Goals as goal

as_it_is : (o : Option ℕ) → option_map (λ c. c) o ≡ o
as_it_is None = refl
as_it_is (Some c) = refl

pub returns : goal.returns
returns c = sym (as_it_is c.nth.result) ∙ nth_from_yields_List c.nth.result _ c.args.place c.nth.ensures.ran (YieldsList-from_chars c.args.text.now c.utf8.text cc)
