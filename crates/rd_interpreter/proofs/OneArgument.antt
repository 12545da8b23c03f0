-- Builtins that take one argument, and those that take others.
use Rattle.std.proofs.Common.{◌≡◌, List, refl}
use Rattle.rd_value.specs.declared.value.FileValue.{FileValue}
use Rattle.rd_value.specs.declared.value.Datum.{Datum}
use Rattle.rd_value.specs.declared.expr.Lazy.{Lazy}
use Rattle.rd_routine.specs.declared.builtin.Builtin.{Builtin}
use Rattle.rd_routine.specs.declared.builtin.Builtin.TheVariants.{Len, Str, Int, Range, Sum, Min, Max, Sorted, Abs}
use Rattle.rd_interpreter.specs.State.{State}
use Rattle.rd_interpreter.specs.Builtins.{on_values, on_one, on_arguments, on_others, the_only}
use Rattle.rd_interpreter.specs.Running.{own}

module _ {N : Type 0} (s : State N FileValue) where
  pub on_values_by_one : (kind : Builtin) (vs : List (Datum FileValue)) → (kind ≡ Range → ⊥) → (kind ≡ Min → ⊥) → (kind ≡ Max → ⊥) → on_values own kind vs s ≡ on_one own kind (the_only vs) s
  on_values_by_one Len vs f g h = refl
  on_values_by_one Str vs f g h = refl
  on_values_by_one Int vs f g h = refl
  on_values_by_one Range vs f g h = absurd (f refl)
  on_values_by_one Sum vs f g h = refl
  on_values_by_one Min vs f g h = absurd (g refl)
  on_values_by_one Max vs f g h = absurd (h refl)
  on_values_by_one Sorted vs f g h = refl
  on_values_by_one Abs vs f g h = refl

  pub on_arguments_by_others : (kind : Builtin) (es : List (Lazy FileValue)) → (kind ≡ Len → ⊥) → on_arguments own kind es s ≡ on_others own kind es s
  on_arguments_by_others Len es f = absurd (f refl)
  on_arguments_by_others Str es f = refl
  on_arguments_by_others Int es f = refl
  on_arguments_by_others Range es f = refl
  on_arguments_by_others Sum es f = refl
  on_arguments_by_others Min es f = refl
  on_arguments_by_others Max es f = refl
  on_arguments_by_others Sorted es f = refl
  on_arguments_by_others Abs es f = refl
