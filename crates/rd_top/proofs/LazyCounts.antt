-- How many lazy expressions are in one of each kind.
use Rattle.std.proofs.Common.{◌≡◌, ℕ, ◌+◌, List, map}
use Rattle.std.specs.Prelude.{sum}
use Rattle.rd_value.specs.declared.value.Datum.{Datum}
use Rattle.rd_value.specs.declared.expr.Lazy.{Lazy}
use Rattle.rd_value.specs.declared.expr.Lazy.TheViews as made
use Rattle.rd_value.specs.declared.expr.Lazy.TheVariants as variant
use Rattle.rd_value.specs.declared.expr.Lazy.TheOpen.{Lazy-F}
use Rattle.rd_value.specs.declared.expr.Lazy.TheFolds.{fold-roll-Lazy}
use Rattle.rd_registry.specs.Fits.{lazies, lazies_at, counts}

module _ {F : Type 0} where
  pub lazies_call : (t : List ℕ) (es : List (Lazy F)) (ks : List (List ℕ × Lazy F)) → lazies (variant.Call t es ks) ≡ (sum (map lazies es) + sum (counts (map (λ p. (p.0, lazies p.1)) ks))) + 1
  unfolding made.roll-Lazy denote.Hole.Carrier.roll
  lazies_call t es ks = fold-roll-Lazy F ℕ lazies_at (Lazy-F.Call t es ks)

  pub lazies_dict_of : (ps : List (Datum F × Lazy F)) → lazies (variant.DictOf ps) ≡ sum (counts (map (λ p. (p.0, lazies p.1)) ps)) + 1
  unfolding made.roll-Lazy denote.Hole.Carrier.roll
  lazies_dict_of ps = fold-roll-Lazy F ℕ lazies_at (Lazy-F.DictOf ps)
