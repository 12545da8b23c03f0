-- A whole evaluation.
use Rattle.std.proofs.Common.{◌≡◌, ◌≢◌, ℕ, inl, inr, Result, Ok, Err, sym, ap, ◌∙◌, arith}
use Rattle.rd_value.specs.declared.value.FileValue.{FileValue}
use Rattle.rd_value.specs.declared.expr.Lazy.{Lazy}
use Rattle.rd_value.specs.declared.failure.Outcome.{Outcome}
use Rattle.rd_value.specs.declared.failure.Outcome.TheVariants as outcome
use Rattle.rd_top.specs.declared.evaluate.Stop.{Stop}
use Rattle.rd_top.specs.declared.evaluate.Stop.TheVariants.{TooLarge, OutOfMemory}
use Rattle.rd_tree.specs.declared.tree.Module.{Module}
use Rattle.rd_top.specs.Running.{own}
use Rattle.rd_registry.specs.Fresh.{Deep, fresh, trace}
use Rattle.rd_registry.specs.Fits.{most_nested, Fits, FreshGives}
use Rattle.rd_top.specs.Evaluating.{answer_of, IsPast, Evaluates, at_depth, met_out}
use Rattle.rd_registry.proofs.Deeper.{deeper}

pub not_deep : (y : Outcome) → answer_of y ≢ Deep
not_deep (outcome.Value v) e = cc
not_deep (outcome.Failed f) e = cc

module _ (m : Module) (e : Lazy FileValue) (b : ℕ) where
  ends : (y : Outcome) → Evaluates answer_of (met_out m most_nested e) 0 b (Ok y) → fresh own m most_nested e ≡ answer_of y
  unfolding Evaluates fresh at_depth met_out
  ends y h = h.gives

  pub fits_ok : (y : Outcome) → Evaluates answer_of (met_out m most_nested e) 0 b (Ok y) → Fits own m e
  unfolding Evaluates trace at_depth met_out
  fits_ok y h = record { ends = λ d. not_deep y (sym (ends y h) ∙ d); few = let c = h.counted in let l = h.fits in omega arith }

  pub gives_ok : (y : Outcome) → Evaluates answer_of (met_out m most_nested e) 0 b (Ok y) → FreshGives own m e (answer_of y)
  unfolding fresh
  gives_ok y h =
      let at = ends y h in
      (most_nested, λ k l. sym (ap (λ o. o.answer) (deeper own m most_nested k l e (λ d. not_deep y (sym at ∙ d)))) ∙ at)

  pub too_large : (r : Result Outcome Stop) → Evaluates answer_of (met_out m most_nested e) 0 b r → r ≡ Err TooLarge → Fits own m e → ⊥
  unfolding Evaluates IsPast fresh trace at_depth met_out
  too_large (Ok y) h i f = cc
  too_large (Err TooLarge) (inl d) i f = f.ends d
  too_large (Err TooLarge) (inr l) i f = let k = f.few in omega arith
  too_large (Err OutOfMemory) h i f = cc
