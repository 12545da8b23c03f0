-- The functions that every module has, with other files.
use Rattle.std.proofs.Common.{◌≡◌, ℕ, zero, suc, ℤ, Bool, true, false, ◌&&◌, ◌||◌, List, [], ◌∷◌, map, length, cond, Option, None, Some, Result, Ok, Err, refl, sym, ap, ◌∙◌}
use Rattle.std.specs.Prelude.{pos, ◌+ℤ◌, neg_ℤ}
use Rattle.std.specs.Int.{is_negative}
use Rattle.std.specs.List.{list_all}
use Rattle.std.specs.Option.{option_map}
use Rattle.std.specs.Ordering.{is_lt, is_gt, is_some_and}
use Rattle.rd_value.specs.declared.value.ErrorValue.{ErrorValue}
use Rattle.rd_value.specs.declared.value.FileValue.{FileValue}
use Rattle.rd_value.specs.declared.value.Datum.{Datum, out-Datum}
use Rattle.rd_value.specs.declared.value.Datum.TheVariants as value
use Rattle.rd_value.specs.declared.value.Datum.TheOpen.{Datum-F}
use Rattle.rd_value.specs.declared.expr.Lazy.{Lazy, out-Lazy}
use Rattle.rd_value.specs.declared.expr.Lazy.TheVariants as lazy
use Rattle.rd_value.specs.declared.expr.Lazy.TheOpen.{Lazy-F}
use Rattle.rd_value.specs.Compare.{number_of_bool}
use Rattle.rd_value.specs.Erase.{with_files, with_files_expr}
use Rattle.rd_value.specs.Make.{values_of}
use Rattle.rd_value.specs.Operators.{bad_operand, kept_int}
use Rattle.rd_value.specs.Repr.{repr}
use Rattle.rd_value.specs.Truth.{is_zero}
use Rattle.rd_value.proofs.Erased.{int_with_files, text_with_files, list_with_files, repr_with_files}
use Rattle.rd_value.proofs.ErasedCompare.{lifted, out_with_files, compared_with_files}
use Rattle.rd_value.proofs.ErasedExpand.{val_with_files, out_with_files_expr, values_with_files}
use Rattle.rd_value.proofs.ErasedOperators.{count_map, kept_int_carried}
use Rattle.rd_routine.specs.declared.builtin.Builtin.{Builtin}
use Rattle.rd_routine.specs.declared.builtin.Builtin.TheVariants as builtin
use Rattle.rd_interpreter.specs.State.{Part}
use Rattle.rd_interpreter.specs.Held.{iterated_value}
use Rattle.rd_interpreter.specs.Making.{taken}
use Rattle.rd_interpreter.specs.Operations.{number_of}
use Rattle.rd_interpreter.specs.Texts.{whole_number}
use Rattle.rd_interpreter.specs.Builtins as spec
use Rattle.rd_interpreter.specs.Builtins.{then_, the_only, length_of_value, length_at, length_of, length_of_one, whole, int_of_number, int_at, ranging, range_length, range_of, range_at, step_is_zero, sum_with, sum_from, is_number, is_text_at, is_text, or_zero, number_or_zero, text_at, text_or_empty, number_less, text_less, have_one_order, best_from, best, inserted, str_at, str, takes, less, greater, candidates_by, candidates, sorted, absolute, produced, str_held, on_one, on_range, on_settled, on_others, on_arguments}
use Rattle.rd_body.proofs.ErasedParts.{mapped, mapped_same, state_with}
use Rattle.rd_body.proofs.ErasedHeld.{value_pair_with, expr_lifted, pairs_twice, number_with_files, iterated_value_with_files}
use Rattle.rd_body.proofs.ErasedMaking.{Same, taken_same, before, made_same}

-- ---- answers and lists

then_mapped : {A A' B B' : Type 0} (k : A → A') (l : B → B') (x : Result A ErrorValue) (go : A → Result B ErrorValue) (go' : A' → Result B' ErrorValue)
    → ((a : A) → go' (k a) ≡ mapped l (go a)) → then_ (mapped k x) go' ≡ mapped l (then_ x go)
then_mapped k l (Ok a) go go' u = u a
then_mapped k l (Err e) go go' u = refl

pub then_put : {A A' B B' : Type 0} (k : A → A') (l : B → B') (x : Result A ErrorValue) (y : Result A' ErrorValue) (go : A → Result B ErrorValue) (go' : A' → Result B' ErrorValue)
    → y ≡ mapped k x → ((a : A) → go' (k a) ≡ mapped l (go a)) → then_ y go' ≡ mapped l (then_ x go)
then_put k l x y go go' e u = ap (λ z. then_ z go') e ∙ then_mapped k l x go go' u

-- an answer or an error, by the same test
pub tested_put : {A B : Type 0} (k : A → B) (b c : Bool) (x x' : Result A ErrorValue) (y y' : Result B ErrorValue) → c ≡ b → y ≡ mapped k x → y' ≡ mapped k x' → cond c y y' ≡ mapped k (cond b x x')
tested_put k true c x x' y y' e u w = ap (λ d. cond d y y') e ∙ u
tested_put k false c x x' y y' e u w = ap (λ d. cond d y y') e ∙ w

pub only_put : {A B : Type 0} (k : A → B) (xs : List A) → the_only (map k xs) ≡ option_map k (the_only xs)
only_put k [] = refl
only_put k (x ∷ []) = refl
only_put k (x ∷ y ∷ xs) = refl

all_map : {A B : Type 0} (f : A → B) (p : A → Bool) (q : B → Bool) → ((x : A) → q (f x) ≡ p x) → (xs : List A) → list_all q (map f xs) ≡ list_all p xs
all_map f p q e [] = refl
all_map f p q e (x ∷ xs) = ap (λ b. b && list_all q (map f xs)) (e x) ∙ ap (λ b. p x && b) (all_map f p q e xs)

-- lists that are put in order, and their best, where two stand to each other as before
module _ {V W : Type 0} (k : V → W) (p : V → V → Bool) (q : W → W → Bool) (e : (v w : V) → q (k v) (k w) ≡ p v w) where
  picked : (b c : Bool) (v w : V) → c ≡ b → cond c (k v) (k w) ≡ k (cond b v w)
  picked true c v w u = ap (λ d. cond d (k v) (k w)) u
  picked false c v w u = ap (λ d. cond d (k v) (k w)) u

  best_put : (v : V) (ws : List V) → best_from q (k v) (map k ws) ≡ k (best_from p v ws)
  best_put v [] = refl
  best_put v (w ∷ ws) = ap (λ x. best_from q x (map k ws)) (picked (p w v) (q (k w) (k v)) w v (e w v)) ∙ best_put (cond (p w v) w v) ws

  inserted_by : (b c : Bool) (v w : V) (ws : List V) (ys : List W) → c ≡ b → ys ≡ map k (inserted p v ws) → cond c (k w ∷ ys) (k v ∷ k w ∷ map k ws) ≡ map k (cond b (w ∷ inserted p v ws) (v ∷ w ∷ ws))
  inserted_by true c v w ws ys u i = ap (λ d. cond d (k w ∷ ys) (k v ∷ k w ∷ map k ws)) u ∙ ap (λ zs. k w ∷ zs) i
  inserted_by false c v w ws ys u i = ap (λ d. cond d (k w ∷ ys) (k v ∷ k w ∷ map k ws)) u

  inserted_put : (v : V) (ws : List V) → inserted q (k v) (map k ws) ≡ map k (inserted p v ws)
  inserted_put v [] = refl
  inserted_put v (w ∷ ws) = inserted_by (p w v) (q (k w) (k v)) v w ws _ (e w v) (inserted_put v ws)

  in_order_put : (vs : List V) → spec.in_order q (map k vs) ≡ map k (spec.in_order p vs)
  in_order_put [] = refl
  in_order_put (v ∷ vs) = ap (inserted q (k v)) (in_order_put vs) ∙ inserted_put v (spec.in_order p vs)

module _ {F G : Type 0} (h : F → G) where
  -- an answer on values
  abbrev Answers : Result (Datum F) ErrorValue → Result (Datum G) ErrorValue → Type 0
  Answers x y = y ≡ mapped (with_files h) x

  -- ---- `len`

  length_lifted : (x : Datum-F F (Datum F)) → length_of_value (lifted h x) ≡ length_of_value x
  length_lifted (Datum-F.Text t) = refl
  length_lifted (Datum-F.List vs) = ap Ok (count_map (with_files h) vs)
  length_lifted (Datum-F.Dict ps) = ap Ok (count_map (value_pair_with h) ps)
  length_lifted x = refl

  length_expr_lifted : (x : Lazy-F F (Lazy F)) → length_at (expr_lifted h x) ≡ length_at x
  length_expr_lifted (Lazy-F.Val v) = ap length_of_value (out_with_files h v) ∙ length_lifted (out-Datum F v)
  length_expr_lifted (Lazy-F.ListOf es) = ap Ok (count_map (with_files_expr h) es)
  length_expr_lifted (Lazy-F.DictOf ps) = ap (λ qs. Ok (length qs)) (pairs_twice h ps) ∙ ap Ok (count_map _ ps)
  length_expr_lifted x = refl

  counted_put : (x : Result ℕ ErrorValue) → Answers (spec.counted x) (spec.counted x)
  counted_put (Ok n) = ap Ok (sym (int_with_files h (pos n)))
  counted_put (Err e) = refl

  length_put : (o : Option (Lazy F)) → Answers (length_of_one o) (length_of_one (option_map (with_files_expr h) o))
  length_put (Some e) = ap spec.counted (ap length_at (out_with_files_expr h e) ∙ length_expr_lifted (out-Lazy F e)) ∙ counted_put (length_of e)
  length_put None = refl

  -- ---- `int`

  kept_int_put : (n : ℤ) → Answers (kept_int n) (kept_int n)
  kept_int_put n = kept_int_carried h n

  whole_put : (n : Option ℤ) → Answers (whole n) (whole n)
  whole_put (Some n) = kept_int_put n
  whole_put None = refl

  int_of_number_put : (n : Option ℤ) → Answers (int_of_number n) (int_of_number n)
  int_of_number_put (Some n) = ap Ok (sym (int_with_files h n))
  int_of_number_put None = refl

  int_lifted : (x : Datum-F F (Datum F)) → Answers (int_at x) (int_at (lifted h x))
  int_lifted (Datum-F.Text t) = whole_put (whole_number t)
  int_lifted (Datum-F.Bool b) = int_of_number_put (Some (number_of_bool b))
  int_lifted (Datum-F.Int n) = int_of_number_put (Some n)
  int_lifted x = refl

  int_put : (v : Datum F) → Answers (int_at (out-Datum F v)) (int_at (out-Datum G (with_files h v)))
  int_put v = ap int_at (out_with_files h v) ∙ int_lifted (out-Datum F v)

  -- ---- `range`

  ranging_put : (n : ℕ) (a s : ℤ) → ranging n a s ≡ map (with_files h) (ranging n a s)
  ranging_put zero a s = refl
  ranging_put (suc n) a s = ap (λ v. v ∷ ranging n (a +ℤ s) s) (sym (int_with_files h a)) ∙ ap (λ vs. with_files h (value.Int a) ∷ vs) (ranging_put n (a +ℤ s) s)

  list_put : (ws : List (Datum G)) (vs : List (Datum F)) → ws ≡ map (with_files h) vs → value.List ws ≡ with_files h (value.List vs)
  list_put ws vs e = ap value.List e ∙ sym (list_with_files h vs)

  range_of_put : (a b s : ℤ) → Answers (range_of a b s) (range_of a b s)
  range_of_put a b s =
      tested_put (with_files h) (is_zero s) (is_zero s) (Err step_is_zero) (Ok (value.List (ranging (range_length a b s) a s))) _ _ refl refl (ap Ok (list_put _ _ (ranging_put (range_length a b s) a s)))

  range_at_put : (a b s : Option ℤ) → Answers (range_at a b s) (range_at a b s)
  range_at_put (Some a) (Some b) (Some s) = range_of_put a b s
  range_at_put (Some a) (Some b) None = refl
  range_at_put (Some a) None s = refl
  range_at_put None b s = refl

  -- ---- `sum`

  sum_put : (total : ℤ) (vs : List (Datum F)) → Answers (sum_from total vs) (sum_from total (map (with_files h) vs))
  sum_put total [] = ap Ok (sym (int_with_files h total))
  sum_put total (v ∷ vs) = then_put (λ n. n) (with_files h) (sum_with total (number_of v)) (sum_with total (number_of (with_files h v))) _ _ (ap (sum_with total) (number_with_files h v) ∙ mapped_same (sum_with total (number_of v))) (λ more. sum_put more vs)

  -- ---- `min`, `max`, `sorted`

  number_put : (v : Datum F) → is_number (with_files h v) ≡ is_number v
  number_put v = ap (λ o. elim o as (λ x. Bool) [ None ↦ false | Some n ↦ true ]) (number_with_files h v)

  text_lifted : (x : Datum-F F (Datum F)) → is_text_at (lifted h x) ≡ is_text_at x
  text_lifted (Datum-F.Text t) = refl
  text_lifted x = refl

  text_put : (v : Datum F) → is_text (with_files h v) ≡ is_text v
  text_put v = ap is_text_at (out_with_files h v) ∙ text_lifted (out-Datum F v)

  order_put : (vs : List (Datum F)) → have_one_order (map (with_files h) vs) ≡ have_one_order vs
  order_put vs =
      ap (λ b. b || list_all is_text (map (with_files h) vs)) (all_map (with_files h) is_number is_number number_put vs)
      ∙ ap (λ b. list_all is_number vs || b) (all_map (with_files h) is_text is_text text_put vs)

  absolute_put : (file : G → FileValue) (n : Option ℤ) → Answers (absolute (before h file) n) (absolute file n)
  absolute_put file (Some n) = kept_int_put (cond (is_negative n) (neg_ℤ n) n)
  absolute_put file None = refl

module _ {F G : Type 0} (h : F → G) (file : G → FileValue) where
  abbrev own : F → FileValue
  own = before h file

  less_put : (v w : Datum F) → less file (with_files h v) (with_files h w) ≡ less own v w
  less_put v w = ap (is_some_and is_lt) (compared_with_files h file v w)

  greater_put : (v w : Datum F) → greater file (with_files h v) (with_files h w) ≡ greater own v w
  greater_put v w = ap (is_some_and is_gt) (compared_with_files h file v w)

  best_of_put : (p : Datum F → Datum F → Bool) (q : Datum G → Datum G → Bool) → ((v w : Datum F) → q (with_files h v) (with_files h w) ≡ p v w)
      → (vs : List (Datum F)) → Answers h (best p vs) (best q (map (with_files h) vs))
  best_of_put p q e [] = refl
  best_of_put p q e (v ∷ vs) =
      tested_put (with_files h) (have_one_order (v ∷ vs)) (have_one_order (map (with_files h) (v ∷ vs))) (Ok (best_from p v vs)) (Err bad_operand) (Ok (best_from q (with_files h v) (map (with_files h) vs))) (Err bad_operand)
      (order_put h (v ∷ vs)) (ap Ok (best_put (with_files h) p q e v vs)) refl

  sorted_put : (vs : List (Datum F)) → Answers h (sorted own vs) (sorted file (map (with_files h) vs))
  sorted_put vs =
      tested_put (with_files h) (have_one_order vs) (have_one_order (map (with_files h) vs)) (Ok (value.List (spec.in_order (less own) vs))) (Err bad_operand) _ _
      (order_put h vs) (ap Ok (list_put h _ _ (in_order_put (with_files h) (less own) (less file) less_put vs))) refl

  candidates_by_put : (vs : List (Datum F)) (o : Option (Datum F)) → candidates_by file (map (with_files h) vs) (option_map (with_files h) o) ≡ mapped (map (with_files h)) (candidates_by own vs o)
  candidates_by_put vs (Some v) = iterated_value_with_files h v
  candidates_by_put vs None = refl

  candidates_put : (vs : List (Datum F)) → candidates file (map (with_files h) vs) ≡ mapped (map (with_files h)) (candidates own vs)
  candidates_put vs = ap (candidates_by file (map (with_files h) vs)) (only_put (with_files h) vs) ∙ candidates_by_put vs (the_only vs)

  -- ---- `str`

  str_lifted : (v : Datum F) (x : Datum-F F (Datum F)) → str_at file (with_files h v) (lifted h x) ≡ str_at own v x
  str_lifted v (Datum-F.Text t) = refl
  str_lifted v (Datum-F.Error e) = refl
  str_lifted v (Datum-F.File f) = refl
  str_lifted v x = repr_with_files h file v

  pub str_put : (v : Datum F) → str file (with_files h v) ≡ str own v
  str_put v = ap (str_at file (with_files h v)) (out_with_files h v) ∙ str_lifted v (out-Datum F v)

  module _ {N : Type 0} where
    abbrev Alike : Part N F (Lazy F) → Part N G (Lazy G) → Type 0
    Alike = Same h

    produced_put : (x : Result (Datum F) ErrorValue) → Alike (produced own x) (produced file (mapped (with_files h) x))
    produced_put (Ok v) = made_same h file (lazy.Val v) (lazy.Val (with_files h v)) (sym (val_with_files h v))
    produced_put (Err e) = λ s. refl

    pub produced_same : (x : Result (Datum F) ErrorValue) (y : Result (Datum G) ErrorValue) → y ≡ mapped (with_files h) x → Alike (produced own x) (produced file y)
    produced_same x y e s = ap (λ z. produced file z (state_with h s)) e ∙ produced_put x s

    printed_same : (v : Datum F) → Alike (produced own (Ok (value.Text (repr own v)))) (produced file (Ok (value.Text (repr file (with_files h v)))))
    printed_same v = produced_same (Ok (value.Text (repr own v))) (Ok (value.Text (repr file (with_files h v)))) (ap (λ t. Ok (value.Text t)) (repr_with_files h file v) ∙ ap Ok (sym (text_with_files h _)))

    text_same : (t : List ℕ) → Alike (taken (Ok (value.Text t))) (taken (Ok (value.Text t)))
    text_same t = taken_same h (Ok (value.Text t)) (Ok (value.Text t)) (ap Ok (sym (text_with_files h t)))

    str_held_lifted : (v : Datum F) (x : Datum-F F (Datum F)) → Alike (str_held own v x) (str_held file (with_files h v) (lifted h x))
    str_held_lifted v (Datum-F.Text t) = taken_same h (Ok v) (Ok (with_files h v)) refl
    str_held_lifted v (Datum-F.Error e) = text_same e.text
    str_held_lifted v (Datum-F.File f) = text_same (file (h f)).path
    str_held_lifted v x = printed_same v

    str_same : (v : Datum F) → Alike (str_held own v (out-Datum F v)) (str_held file (with_files h v) (out-Datum G (with_files h v)))
    str_same v s = ap (λ x. str_held file (with_files h v) x (state_with h s)) (out_with_files h v) ∙ str_held_lifted v (out-Datum F v) s

    one_same : (b : Builtin) (o : Option (Datum F)) → Alike (on_one own b o) (on_one file b (option_map (with_files h) o))
    one_same builtin.Str (Some v) = str_same v
    one_same builtin.Int (Some v) = taken_same h (int_at (out-Datum F v)) (int_at (out-Datum G (with_files h v))) (int_put h v)
    one_same builtin.Sum (Some v) =
        taken_same h (then_ (iterated_value v) (sum_from (pos 0))) (then_ (iterated_value (with_files h v)) (sum_from (pos 0)))
        (then_put (map (with_files h)) (with_files h) (iterated_value v) (iterated_value (with_files h v)) (sum_from (pos 0)) (sum_from (pos 0)) (iterated_value_with_files h v) (sum_put h (pos 0)))
    one_same builtin.Sorted (Some v) =
        produced_same (then_ (iterated_value v) (sorted own)) (then_ (iterated_value (with_files h v)) (sorted file))
        (then_put (map (with_files h)) (with_files h) (iterated_value v) (iterated_value (with_files h v)) (sorted own) (sorted file) (iterated_value_with_files h v) sorted_put)
    one_same builtin.Abs (Some v) = taken_same h (absolute own (number_of v)) (absolute file (number_of (with_files h v))) (ap (absolute file) (number_with_files h v) ∙ absolute_put h file (number_of v))
    one_same b o = λ s. refl

    range_same : (a b c : Option ℤ) (a' b' c' : Option ℤ) → a' ≡ a → b' ≡ b → c' ≡ c → Alike (produced own (range_at a b c)) (produced file (range_at a' b' c'))
    range_same a b c a' b' c' u w x =
        produced_same (range_at a b c) (range_at a' b' c') (ap (λ n. range_at n b' c') u ∙ ap (λ n. range_at a n c') w ∙ ap (range_at a b) x ∙ range_at_put h a b c)

    on_range_same : (vs : List (Datum F)) → Alike (on_range own vs) (on_range file (map (with_files h) vs))
    on_range_same [] = λ s. refl
    on_range_same (b ∷ []) = range_same (Some (pos 0)) (number_of b) (Some (pos 1)) (Some (pos 0)) (number_of (with_files h b)) (Some (pos 1)) refl (number_with_files h b) refl
    on_range_same (a ∷ b ∷ []) = range_same (number_of a) (number_of b) (Some (pos 1)) (number_of (with_files h a)) (number_of (with_files h b)) (Some (pos 1)) (number_with_files h a) (number_with_files h b) refl
    on_range_same (a ∷ b ∷ c ∷ []) = range_same (number_of a) (number_of b) (number_of c) (number_of (with_files h a)) (number_of (with_files h b)) (number_of (with_files h c)) (number_with_files h a) (number_with_files h b) (number_with_files h c)
    on_range_same (a ∷ b ∷ c ∷ d ∷ vs) = λ s. refl

    best_same : (p : Datum F → Datum F → Bool) (q : Datum G → Datum G → Bool) → ((v w : Datum F) → q (with_files h v) (with_files h w) ≡ p v w)
        → (vs : List (Datum F)) → Alike (taken (then_ (candidates own vs) (best p))) (taken (then_ (candidates file (map (with_files h) vs)) (best q)))
    best_same p q e vs =
        taken_same h (then_ (candidates own vs) (best p)) (then_ (candidates file (map (with_files h) vs)) (best q))
        (then_put (map (with_files h)) (with_files h) (candidates own vs) (candidates file (map (with_files h) vs)) (best p) (best q) (candidates_put vs) (best_of_put p q e))

    only_same : (b : Builtin) (vs : List (Datum F)) → Alike (on_one own b (the_only vs)) (on_one file b (the_only (map (with_files h) vs)))
    only_same b vs s = ap (λ o. on_one file b o (state_with h s)) (only_put (with_files h) vs) ∙ one_same b (the_only vs) s

    values_same : (b : Builtin) (vs : List (Datum F)) → Alike (spec.on_values own b vs) (spec.on_values file b (map (with_files h) vs))
    values_same builtin.Range vs = on_range_same vs
    values_same builtin.Min vs = best_same (less own) (less file) less_put vs
    values_same builtin.Max vs = best_same (greater own) (greater file) greater_put vs
    values_same b vs = only_same b vs

    settled_same : (b : Builtin) (o : Option (List (Datum F))) → Alike (on_settled own b o) (on_settled file b (option_map (map (with_files h)) o))
    settled_same b (Some vs) = values_same b vs
    settled_same b None = λ s. refl

    -- the same test of the number of arguments
    pub chosen_same : (b c : Bool) (p : Part N F (Lazy F)) (q : Part N G (Lazy G)) (e : ErrorValue) → c ≡ b → Alike p q → Alike (cond b p (taken (Err e))) (cond c q (taken (Err e)))
    chosen_same true c p q e u w s = ap (λ d. cond d q (taken (Err e)) (state_with h s)) u ∙ w s
    chosen_same false c p q e u w s = ap (λ d. cond d q (taken (Err e)) (state_with h s)) u

    settled_as : (b : Builtin) (es : List (Lazy F)) → Alike (on_settled own b (values_of es)) (on_settled file b (values_of (map (with_files_expr h) es)))
    settled_as b es s = ap (λ o. on_settled file b o (state_with h s)) (values_with_files h es) ∙ settled_same b (values_of es) s

    others_same : (b : Builtin) (es : List (Lazy F)) → Alike (on_others own b es) (on_others file b (map (with_files_expr h) es))
    others_same b es = chosen_same (takes b (length es)) (takes b (length (map (with_files_expr h) es))) _ _ _ (ap (takes b) (count_map (with_files_expr h) es)) (settled_as b es)

    pub arguments_same : (b : Builtin) (es : List (Lazy F)) → Alike (on_arguments own b es) (on_arguments file b (map (with_files_expr h) es))
    arguments_same builtin.Len es =
        taken_same h (length_of_one (the_only es)) (length_of_one (the_only (map (with_files_expr h) es))) (ap length_of_one (only_put (with_files_expr h) es) ∙ length_put h (the_only es))
    arguments_same b es = others_same b es
