-- Operators on lists with parts that aren't settled.
use Rattle.std.proofs.Common.{◌≡◌, ℕ, ℤ, ◌<◌, length, true, false, List, ◌++◌, Option, Some, None, Err, is_some, refl, sym, ap, ◌∙◌}
use Rattle.rd_value.specs.declared.value.FileValue.{FileValue}
use Rattle.rd_value.specs.declared.expr.Lazy.{Lazy}
use Rattle.rd_value.specs.Expand.{listed}
use Rattle.std.specs.List.{repeat}
use Rattle.rd_value.specs.declared.value.ErrorValue.{ErrorValue}
use Rattle.rd_value.specs.Limits.{max_size}
use Rattle.rd_value.specs.Operators.{value_limit, times}
use Rattle.rd_interpreter.specs.declared.halt.Halt.{Halt}
use Rattle.rd_interpreter.specs.declared.halt.Halt.TheVariants.{Raised, OutOfMemory}
use Rattle.rd_interpreter.specs.State.{State, Ran}
use Rattle.rd_interpreter.specs.Making.{made, is_kept}
use Rattle.rd_interpreter.specs.Operations.{unsettled_plus, repeated}
use Rattle.rd_interpreter.specs.Running.{own, items_or_none, Gives, Raises}
use Rattle.rd_interpreter.proofs.Sizes.{long_list}

abbrev Items : Type 0
Items = List (Lazy FileValue)

pub plus_lists : (xs ys : Option Items) (all : Items) (a b : Lazy FileValue) (s : State ℕ FileValue) → is_some xs ≡ true → is_some ys ≡ true → all ≡ items_or_none xs ++ items_or_none ys → unsettled_plus own xs ys a b s ≡ made own (listed own all) s
plus_lists (Some xs) (Some ys) all a b s h k e = ap (λ l. made own (listed own l) s) (sym e)
plus_lists (Some xs) None all a b s h k e = absurd cc
plus_lists None ys all a b s h k e = absurd cc

-- what isn't kept is past the limits
pub not_made : (e : Lazy FileValue) (s : State ℕ FileValue) → is_kept own e ≡ false → made own e s ≡ Err value_limit
not_made e s h = rw h refl

-- more items than any list within the limits has
pub too_many_items : (es : Items) (n : ℤ) (k : ℕ) (s : State ℕ FileValue) → k ≡ times n → max_size < length (repeat k es) → repeated own es n s ≡ Err value_limit
too_many_items es n k s is more =
    let long : max_size < length (repeat (times n) es) = rw is at more in
    not_made (listed own (repeat (times n) es)) s (long_list own (repeat (times n) es) long)

-- an error of the program's own
pub raised_gives : {A : Type 0} (h : Halt) (e : ErrorValue) (s : State ℕ FileValue) (ran : Ran ℕ FileValue A) → Raises h e → ran ≡ Err e → Gives {A = A} (Err h) s ran
raised_gives (Raised x) e s ran is h = h ∙ ap Err (sym is)
raised_gives OutOfMemory e s ran is h = tt
