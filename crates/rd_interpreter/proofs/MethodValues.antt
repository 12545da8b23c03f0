-- What the methods of texts make.
use Rattle.std.proofs.Common.{◌≡◌, ℕ, ◌<◌, Bool, true, false, ◌&&◌, nat_le, List, [], ◌∷◌, ◌++◌, length, map, refl, sym, ap, subst, ◌∙◌, arith, append_assoc, append-nil, length-append, Option, Some, None, Result, Ok, Err}
use Rattle.std.specs.Prelude.{if◌then◌else◌}
use Rattle.std.proofs.lemmas.Bool.Decides.{nat_tests}
use Rattle.rd_value.specs.declared.value.ErrorValue.{ErrorValue}
use Rattle.rd_value.specs.declared.value.FileValue.{FileValue}
use Rattle.rd_value.specs.declared.value.Datum.{Datum}
use Rattle.rd_value.specs.declared.value.Datum.TheViews as datum
use Rattle.rd_value.specs.declared.value.Datum.TheVariants as value
use Rattle.rd_value.specs.declared.value.Datum.TheOpen.{Datum-F}
use Rattle.rd_value.specs.declared.value.Datum.TheFolds.{fold-roll-Datum}
use Rattle.rd_value.specs.declared.expr.Lazy.{Lazy, out-Lazy}
use Rattle.rd_value.specs.declared.expr.Lazy.TheViews as expr
use Rattle.rd_value.specs.declared.expr.Lazy.TheVariants as lazy
use Rattle.rd_value.specs.declared.expr.Lazy.TheOpen.{Lazy-F}
use Rattle.rd_value.specs.Canon.{canon_at, string}
use Rattle.rd_value.specs.Depth.{depth}
use Rattle.rd_value.specs.Limits.{size, max_size, max_depth}
use Rattle.rd_value.specs.Make.{value_at}
use Rattle.rd_value.specs.Operators.{bad_operand, value_limit}
use Rattle.rd_value.specs.Truth.{is_empty}
use Rattle.rd_interpreter.specs.declared.halt.Halt.{Halt}
use Rattle.rd_interpreter.specs.declared.halt.Halt.TheVariants.{Raised, OutOfMemory}
use Rattle.rd_interpreter.specs.Builtins.{produced, then_}
use Rattle.rd_interpreter.specs.Draft.{bounded, added, all_added, drafted, all_drafted}
use Rattle.rd_interpreter.specs.Held.{all_held, iterated, iterated_at, iterated_value}
use Rattle.rd_interpreter.specs.Making.{is_kept, is_kept_by, made, making_held}
use Rattle.rd_interpreter.specs.Methods.{text_at, text_of, replaced_by, empty_pattern, texts_of, with_text, text_value, joined_by, led, held_text_at}
use Rattle.rd_interpreter.specs.Running.{Answers, Gives, own}
use Rattle.rd_interpreter.specs.State.{State, spend}
use Rattle.rd_interpreter.specs.Texts.{joined, behind_each, replaced}
use Rattle.rd_interpreter.proofs.Drafts.{added_twice}

out_val : (v : Datum FileValue) → out-Lazy FileValue (lazy.Val v) ≡ Lazy-F.Val v
unfolding expr.roll-Lazy denote.Hole.Carrier.roll
out_val v = expr.out-roll-Lazy FileValue (Lazy-F.Val v)

size_text : (t : List ℕ) → size own (value.Text t) ≡ length (string t)
unfolding datum.roll-Datum denote.Hole.Carrier.roll
size_text t = ap length (fold-roll-Datum FileValue (List ℕ) (canon_at own) (Datum-F.Text t))

-- a text that is too long is no value
too_large : (t : List ℕ) → nat_le (length t) max_size ≡ false → is_kept own (lazy.Val (value.Text t)) ≡ false
too_large t h = ap (λ x. is_kept_by own (lazy.Val (value.Text t)) (value_at x)) (out_val (value.Text t)) ∙ ap (λ b. b && nat_le (depth {F = FileValue} (value.Text t)) max_depth) large
  where
    large : nat_le (size own (value.Text t)) max_size ≡ false
    large = rw (size_text t) (grind (arith, nat_tests, length-append))

pub drafted_is : (t : List ℕ) (s : State ℕ FileValue) → drafted own (added (Some []) t) s ≡ made own (lazy.Val (value.Text t)) s
unfolding bounded
drafted_is t s = by_test (nat_le (length t) max_size) refl
  where
    by_test : (b : Bool) → nat_le (length t) max_size ≡ b → drafted own (if b then Some t else None) s ≡ made own (lazy.Val (value.Text t)) s
    by_test true h = refl
    by_test false h = ap (λ b. if b then spend (making_held {F = FileValue} (lazy.Val (value.Text t))) s (λ u. Ok (lazy.Val (value.Text t), u)) else Err value_limit) (sym (too_large t h))

all_drafted_is : (r : Result (List ℕ) ErrorValue) (s : State ℕ FileValue) → all_drafted own (all_added (Some []) r) s ≡ produced own (text_value r) s
all_drafted_is (Ok t) s = drafted_is t s
all_drafted_is (Err e) s = refl

-- ---- texts with a separator

-- the same as the definition's, on texts
abbrev led_by : List ℕ → List ℕ → Option (List ℕ) → List (List ℕ) → Option (List ℕ)
led_by between separator o [] = o
led_by between separator o (t ∷ ts) = led_by separator separator (added (added o between) t) ts

abbrev led_all : List ℕ → List ℕ → Option (List ℕ) → Option (List (List ℕ)) → Result (Option (List ℕ)) ErrorValue
led_all between separator o None = Err bad_operand
led_all between separator o (Some ts) = Ok (led_by between separator o ts)

led_texts : (separator : List ℕ) (vs : List (Datum FileValue)) (between : List ℕ) (o : Option (List ℕ)) → led between separator o (map lazy.Val vs) ≡ led_all between separator o (texts_of vs)
led_texts separator [] between o = refl
led_texts separator (v ∷ vs) between o =
    ap (λ x. elim (held_text_at x) as (λ y. Result (Option (List ℕ)) ErrorValue) [ None ↦ Err bad_operand | Some t ↦ led separator separator (added (added o between) t) (map lazy.Val vs) ]) (out_val v)
    ∙ by_text (text_of v) (λ t. led_texts separator vs separator (added (added o between) t))
  where
    by_text : (x : Option (List ℕ)) → ((t : List ℕ) → led separator separator (added (added o between) t) (map lazy.Val vs) ≡ led_all separator separator (added (added o between) t) (texts_of vs)) → (elim x as (λ y. Result (Option (List ℕ)) ErrorValue) [ None ↦ Err bad_operand | Some t ↦ led separator separator (added (added o between) t) (map lazy.Val vs) ]) ≡ led_all between separator o (with_text x (texts_of vs))
    by_text None more = refl
    by_text (Some t) more = more t ∙ by_rest (texts_of vs)
      where
        by_rest : (y : Option (List (List ℕ))) → led_all separator separator (added (added o between) t) y ≡ led_all between separator o (with_text (Some t) y)
        by_rest None = refl
        by_rest (Some ts) = refl

led_behind : (separator : List ℕ) (ts : List (List ℕ)) (o : Option (List ℕ)) → added o [] ≡ o → led_by separator separator o ts ≡ added o (behind_each separator ts)
led_behind separator [] o h = sym h
led_behind separator (t ∷ ts) o h =
    led_behind separator ts (added (added o separator) t) (added_twice (added o separator) t [] ∙ ap (added (added o separator)) (append-nil t))
    ∙ added_twice (added o separator) t (behind_each separator ts)
    ∙ added_twice o separator (t ++ behind_each separator ts)
    ∙ ap (added o) (sym (append_assoc separator t (behind_each separator ts)))

led_joined : (separator : List ℕ) (ts : List (List ℕ)) → led_by [] separator (Some []) ts ≡ added (Some []) (joined separator ts)
unfolding bounded
led_joined separator [] = refl
led_joined separator (t ∷ ts) =
    led_behind separator ts (added (added (Some []) []) t) (added_twice (added (Some []) []) t [] ∙ ap (added (added (Some []) [])) (append-nil t))
    ∙ added_twice (added (Some []) []) t (behind_each separator ts)
    ∙ added_twice (Some []) [] (t ++ behind_each separator ts)

joined_is : (separator : List ℕ) (o : Option (List (List ℕ))) (s : State ℕ FileValue) → all_drafted own (led_all [] separator (Some []) o) s ≡ produced own (joined_by separator o) s
joined_is separator None s = refl
joined_is separator (Some ts) s = ap (λ o. drafted own o s) (led_joined separator ts) ∙ drafted_is (joined separator ts) s

all_joined_is : (separator : List ℕ) (v : Datum FileValue) (s : State ℕ FileValue) → all_drafted own (then_ (iterated (lazy.Val v)) (led [] separator (Some []))) s ≡ produced own (then_ (iterated_value v) (λ vs. joined_by separator (texts_of vs))) s
all_joined_is separator v s =
    ap (λ x. all_drafted own (then_ (iterated_at x) (led [] separator (Some []))) s) (out_val v) ∙ by_items (iterated_value v)
  where
    by_items : (r : Result (List (Datum FileValue)) ErrorValue) → all_drafted own (then_ (all_held r) (led [] separator (Some []))) s ≡ produced own (then_ r (λ vs. joined_by separator (texts_of vs))) s
    by_items (Ok vs) = ap (λ x. all_drafted own x s) (led_texts separator vs [] (Some [])) ∙ joined_is separator (texts_of vs) s
    by_items (Err e) = refl

-- ---- what the functions return

text_is : (v : Datum FileValue) (t : List ℕ) → v ≡ value.Text t → text_of v ≡ Some t
unfolding datum.roll-Datum denote.Hole.Carrier.roll
text_is v t e = ap text_of e ∙ ap text_at (datum.out-roll-Datum FileValue (Datum-F.Text t))

not_empty : (t : List ℕ) → 0 < length t → is_empty t ≡ false
not_empty [] h = absurd (omega arith)
not_empty (b ∷ bs) h = refl

module _ (x : Result (Lazy FileValue) Halt) (new old : State ℕ FileValue) where
  -- a text that was made
  pub made_text : (t : List ℕ) (o : Option (List ℕ)) → o ≡ added (Some []) t → Gives x new (drafted own o old) → Gives x new (made own (lazy.Val (value.Text t)) old)
  made_text t o e g = subst (Gives x new) (ap (λ y. drafted own y old) e ∙ drafted_is t old) g

  pub made_format : (r : Result (List ℕ) ErrorValue) (o : Option (List ℕ)) → all_added (Some []) r ≡ Ok o → Gives x new (drafted own o old) → Gives x new (produced own (text_value r) old)
  made_format r o e g = subst (Gives x new) (ap (λ y. all_drafted own y old) (sym e) ∙ all_drafted_is r old) g

  pub made_join : (separator : List ℕ) (v : Datum FileValue) (o : Option (List ℕ)) → then_ (iterated (lazy.Val v)) (led [] separator (Some [])) ≡ Ok o → Gives x new (drafted own o old) → Gives x new (produced own (then_ (iterated_value v) (λ vs. joined_by separator (texts_of vs))) old)
  made_join separator v o e g = subst (Gives x new) (ap (λ y. all_drafted own y old) (sym e) ∙ all_joined_is separator v old) g

module _ (x : Result (Lazy FileValue) Halt) (s' s : State ℕ FileValue) where
  -- a text that was made by replacing
  pub made_replace : (t old new : List ℕ) (a b : Datum FileValue) (o : Option (List ℕ)) → a ≡ value.Text old → b ≡ value.Text new → 0 < length old → o ≡ added (Some []) (replaced old new t) → Gives x s' (drafted own o s) → Gives x s' (produced own (replaced_by t (text_of a) (text_of b)) s)
  made_replace t old new a b o e f some g h =
      subst (Gives x s') (sym (ap (λ y. produced own (replaced_by t y (text_of b)) s) (text_is a old e) ∙ ap (λ y. produced own (replaced_by t (Some old) y) s) (text_is b new f) ∙ ap (λ y. produced own (if y then Err empty_pattern else Ok (value.Text (replaced old new t))) s) (not_empty old some)))
      (made_text x s' s (replaced old new t) o g h)

pub failed_format : (h : Halt) (s : State ℕ FileValue) (r : Result (List ℕ) ErrorValue) → Answers (Err h) (all_added (Some []) r) → Gives (Err h) s (produced own (text_value r) s)
failed_format (Raised e) s r a = sym (all_drafted_is r s) ∙ ap (λ y. all_drafted own y s) a
failed_format OutOfMemory s r a = tt

pub failed_join : (h : Halt) (s : State ℕ FileValue) (separator : List ℕ) (v : Datum FileValue) → Answers (Err h) (then_ (iterated (lazy.Val v)) (led [] separator (Some []))) → Gives (Err h) s (produced own (then_ (iterated_value v) (λ vs. joined_by separator (texts_of vs))) s)
failed_join (Raised e) s separator v a = sym (all_joined_is separator v s) ∙ ap (λ y. all_drafted own y s) a
failed_join OutOfMemory s separator v a = tt
