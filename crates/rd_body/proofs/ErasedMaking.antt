-- What a body makes, with other files.
use Rattle.std.proofs.Common.{◌≡◌, Bool, Option, None, Some, Result, Ok, Err, refl, sym, ap, ◌∙◌}
use Rattle.std.specs.Option.{option_map}
use Rattle.rd_value.specs.declared.value.ErrorValue.{ErrorValue}
use Rattle.rd_value.specs.declared.value.FileValue.{FileValue}
use Rattle.rd_value.specs.declared.value.Datum.{Datum}
use Rattle.rd_value.specs.declared.expr.Lazy.{Lazy}
use Rattle.rd_value.specs.declared.expr.Lazy.TheVariants as lazy
use Rattle.rd_value.specs.Erase.{with_files, with_files_expr}
use Rattle.rd_value.specs.Limits.{is_within_expr}
use Rattle.rd_value.specs.Make.{value_of}
use Rattle.rd_value.proofs.ErasedExpand.{val_with_files, value_with_files}
use Rattle.rd_value.proofs.ErasedLimits.{is_within_with_files, is_within_expr_with_files}
use Rattle.rd_value.proofs.ErasedOperators.{bool_with_files}
use Rattle.rd_interpreter.specs.State.{Part}
use Rattle.rd_interpreter.specs.Making.{making, making_held, is_kept_by, is_kept, measured, made, worked, taken, truth_value}
use Rattle.rd_body.proofs.ErasedParts.{mapped, state_with, Carries, either_by, spend_both}
use Rattle.rd_body.proofs.ErasedHeld.{making_with_files, making_held_with_files}

module _ {F G : Type 0} (h : F → G) (file : G → FileValue) where
  -- the files of the first
  abbrev pub before : F → FileValue
  before f = file (h f)

  kept_by_put : (e : Lazy F) (o : Option (Datum F)) → is_kept_by file (with_files_expr h e) (option_map (with_files h) o) ≡ is_kept_by before e o
  kept_by_put e (Some v) = is_within_with_files h file v
  kept_by_put e None = is_within_expr_with_files h file e

  kept_put : (e : Lazy F) → is_kept file (with_files_expr h e) ≡ is_kept before e
  kept_put e = ap (is_kept_by file (with_files_expr h e)) (value_with_files h e) ∙ kept_by_put e (value_of e)

module _ {N F G : Type 0} (h : F → G) where
  -- a part that gives an expression does the same
  abbrev pub Same : Part N F (Lazy F) → Part N G (Lazy G) → Type 0
  Same = Carries h (with_files_expr h)

  taken_put : (x : Result (Datum F) ErrorValue) → Same (taken x) (taken (mapped (with_files h) x))
  taken_put (Ok v) = λ s. ap (λ e. Ok (e, state_with h s)) (sym (val_with_files h v))
  taken_put (Err e) = λ s. refl

  pub taken_same : (x : Result (Datum F) ErrorValue) (y : Result (Datum G) ErrorValue) → y ≡ mapped (with_files h) x → Same (taken x) (taken y)
  taken_same x y e s = ap (λ z. taken z (state_with h s)) e ∙ taken_put x s

  worked_put : (x : Result (Datum F) ErrorValue) → Same (worked x) (worked (mapped (with_files h) x))
  worked_put (Ok v) =
      spend_both h (with_files_expr h) (making v) (making (with_files h v)) (λ t. Ok (lazy.Val v, t)) (λ t. Ok (lazy.Val (with_files h v), t)) (making_with_files h v)
      (λ t. ap (λ e. Ok (e, state_with h t)) (sym (val_with_files h v)))
  worked_put (Err e) = λ s. refl

  pub worked_same : (x : Result (Datum F) ErrorValue) (y : Result (Datum G) ErrorValue) → y ≡ mapped (with_files h) x → Same (worked x) (worked y)
  worked_same x y e s = ap (λ z. worked z (state_with h s)) e ∙ worked_put x s

  truth_put : (x : Result Bool ErrorValue) → Same (truth_value x) (truth_value x)
  truth_put (Ok b) = λ s. ap (λ e. Ok (e, state_with h s)) (sym (val_with_files h _ ∙ ap lazy.Val (bool_with_files h b)))
  truth_put (Err e) = λ s. refl

  pub truth_same : (x y : Result Bool ErrorValue) → y ≡ x → Same (truth_value x) (truth_value y)
  truth_same x y e s = ap (λ z. truth_value z (state_with h s)) e ∙ truth_put x s

  module _ (file : G → FileValue) where
    pub measured_put : (e : Lazy F) → Same (measured (before h file) e) (measured file (with_files_expr h e))
    measured_put e s = either_by h (with_files_expr h) (is_within_expr (before h file) e) (is_within_expr file (with_files_expr h e)) _ _ _ _ (is_within_expr_with_files h file e) refl refl

    pub measured_same : (e : Lazy F) (d : Lazy G) → d ≡ with_files_expr h e → Same (measured (before h file) e) (measured file d)
    measured_same e d u s = ap (λ z. measured file z (state_with h s)) u ∙ measured_put e s

    pub made_put : (e : Lazy F) → Same (made (before h file) e) (made file (with_files_expr h e))
    made_put e s =
        either_by h (with_files_expr h) (is_kept (before h file) e) (is_kept file (with_files_expr h e)) _ _ _ _ (kept_put h file e)
        (spend_both h (with_files_expr h) (making_held e) (making_held (with_files_expr h e)) (λ t. Ok (e, t)) (λ t. Ok (with_files_expr h e, t)) (making_held_with_files h e) (λ t. refl) s) refl

    pub made_same : (e : Lazy F) (d : Lazy G) → d ≡ with_files_expr h e → Same (made (before h file) e) (made file d)
    made_same e d u s = ap (λ z. made file z (state_with h s)) u ∙ made_put e s
