-- Operators do not look at what files carry.
use Rattle.std.proofs.Common.{◌≡◌, ℕ, zero, suc, Bool, true, false, ◌++◌, not, refl, sym, ap, ◌∙◌, List, [], ◌∷◌, length, map, None, Some, Ok, Err, cond}
use Rattle.std.specs.Prelude.{ℤ, Option, Result, ◌+ℤ◌, ◌-ℤ◌, ◌*ℤ◌, neg_ℤ}
use Rattle.std.specs.List.{repeat, slice_get}
use Rattle.std.specs.Option.{option_map}
use Rattle.std.specs.Str.{chars}
use Rattle.std.specs.declared.cmp.Ordering.{Ordering}
use Rattle.std.specs.Ordering.{is_lt, is_le, is_gt, is_ge}
use Rattle.std.proofs.lemmas.List.{map-append, length-map}
use Rattle.rd_value.specs.declared.class.Class.TheVariants.{KeyError}
use Rattle.rd_value.specs.declared.value.ErrorValue.{ErrorValue}
use Rattle.rd_value.specs.declared.value.FileValue.{FileValue}
use Rattle.rd_value.specs.declared.value.Datum.{Datum, out-Datum}
use Rattle.rd_value.specs.declared.value.Datum.TheViews as made
use Rattle.rd_value.specs.declared.value.Datum.TheVariants as variant
use Rattle.rd_value.specs.declared.value.Datum.TheOpen.{Datum-F}
use Rattle.rd_value.specs.declared.value.Datum.TheFolds.{fold-roll-Datum}
use Rattle.rd_value.specs.declared.expr.OpKind.{OpKind}
use Rattle.rd_value.specs.declared.expr.OpKind.TheVariants as op
use Rattle.rd_value.specs.Compare.{number_at, number_of_bool, equal, compared}
use Rattle.rd_value.specs.Erase.{with_file, with_files, carried}
use Rattle.rd_value.specs.Limits.{is_within}
use Rattle.rd_value.specs.Raise.{raised}
use Rattle.rd_value.specs.Repr.{repr}
use Rattle.rd_value.specs.Truth.{is_zero}
use Rattle.rd_value.specs.Operators as spec
use Rattle.rd_value.specs.Operators.{kept, kept_int, is_in_range, on_numbers, plus_numbers, plus, plus_at, value_limit, out_of_range, division_by_zero, bad_operand}
use Rattle.rd_value.proofs.Erased.{list_with_files, text_with_files, int_with_files, repr_with_files}
use Rattle.rd_value.proofs.ErasedCompare.{lifted, out_with_files, number_lifted, compared_with_files, equal_with_files}
use Rattle.rd_value.proofs.ErasedLimits.{is_within_with_files}

-- ---- lists

pub slice_get_map : {A B : Type 0} (f : A → B) (xs : List A) (i : ℕ) → slice_get (map f xs) i ≡ option_map f (slice_get xs i)
slice_get_map f [] i = refl
slice_get_map f (x ∷ xs) zero = refl
slice_get_map f (x ∷ xs) (suc i) = slice_get_map f xs i

pub count_map : {A B : Type 0} (f : A → B) (xs : List A) → length (map f xs) ≡ length xs
count_map f xs = simp length-map

pub repeat_map : {A B : Type 0} (f : A → B) (n : ℕ) (xs : List A) → map f (repeat n xs) ≡ repeat n (map f xs)
repeat_map f zero xs = refl
repeat_map f (suc n) xs = map-append f xs (repeat n xs) ∙ ap (λ ys. map f xs ++ ys) (repeat_map f n xs)

module _ {F G : Type 0} (h : F → G) where
  pub bool_with_files : (b : Bool) → with_files h (variant.Bool b) ≡ variant.Bool b
  unfolding made.roll-Datum denote.Hole.Carrier.roll
  bool_with_files b = fold-roll-Datum F (Datum G) (λ x. made.roll-Datum G (with_file h x)) (Datum-F.Bool b)

  -- ---- numbers

  pub kept_int_carried : (n : ℤ) → kept_int n ≡ carried h (kept_int n)
  kept_int_carried n =
      elim (is_in_range n) as (λ b. cond b (Ok (variant.Int n)) (Err out_of_range) ≡ carried h (cond b (Ok (variant.Int n)) (Err out_of_range))) [ true ↦ ap Ok (sym (int_with_files h n)) | false ↦ refl ]

  on_numbers_carried : (f : ℤ → ℤ → Result (Datum F) ErrorValue) (g : ℤ → ℤ → Result (Datum G) ErrorValue) → ((m n : ℤ) → g m n ≡ carried h (f m n)) →
      (a b : Option ℤ) → on_numbers g a b ≡ carried h (on_numbers f a b)
  on_numbers_carried f g e None b = refl
  on_numbers_carried f g e (Some m) None = refl
  on_numbers_carried f g e (Some m) (Some n) = e m n

  divided_carried : (f : ℤ → ℤ → ℤ) (m n : ℤ) → spec.divided f m n ≡ carried h (spec.divided f m n)
  divided_carried f m n =
      elim (is_zero n) as (λ b. cond b (Err division_by_zero) (kept_int (f m n)) ≡ carried h (cond b (Err division_by_zero) (kept_int (f m n)))) [ true ↦ refl | false ↦ kept_int_carried (f m n) ]

  negated_carried : (n : Option ℤ) → spec.negated n ≡ carried h (spec.negated n)
  negated_carried None = refl
  negated_carried (Some n) = kept_int_carried (neg_ℤ n)

  -- ---- places

  found_carried : {A B : Type 0} (k : A → B) (f : A → Datum F) (g : B → Datum G) → ((x : A) → g (k x) ≡ with_files h (f x)) →
      (o : Option A) → spec.found g (option_map k o) ≡ carried h (spec.found f o)
  found_carried k f g e None = refl
  found_carried k f g e (Some x) = ap Ok (e x)

  indexed_carried : {A B : Type 0} (k : A → B) (f : A → Datum F) (g : B → Datum G) → ((x : A) → g (k x) ≡ with_files h (f x)) →
      (xs : List A) (n : Option ℤ) → spec.indexed g (map k xs) n ≡ carried h (spec.indexed f xs n)
  indexed_carried k f g e xs None = refl
  indexed_carried k f g e xs (Some n) =
      ap (spec.found g) (ap (λ c. slice_get (map k xs) (spec.place n c)) (count_map k xs) ∙ slice_get_map k xs (spec.place n (length xs))) ∙ found_carried k f g e (spec.item_at xs n)

  map_same : {A : Type 0} (xs : List A) → map (λ x. x) xs ≡ xs
  map_same [] = refl
  map_same (x ∷ xs) = ap (λ ys. x ∷ ys) (map_same xs)

  character_carried : (cs : List ℕ) (n : Option ℤ) → spec.indexed spec.character cs n ≡ carried h (spec.indexed spec.character cs n)
  character_carried cs n =
      ap (λ xs. spec.indexed spec.character xs n) (sym (map_same cs)) ∙ indexed_carried (λ c. c) spec.character spec.character (λ c. sym (text_with_files h _)) cs n

  tested_carried : (test : Ordering → Bool) (o : Option Ordering) → spec.tested test o ≡ carried h (spec.tested test o)
  tested_carried test None = refl
  tested_carried test (Some o) = ap Ok (sym (bool_with_files (test o)))

  have_order_lifted : (x y : Datum-F F (Datum F)) → spec.have_order (lifted h x) (lifted h y) ≡ spec.have_order x y
  have_order_lifted (Datum-F.Text s) (Datum-F.Text t) = refl
  have_order_lifted (Datum-F.List xs) (Datum-F.List ys) = refl
  have_order_lifted (Datum-F.Bool b) y = ap (spec.both_numbers (Some (number_of_bool b))) (number_lifted h y)
  have_order_lifted (Datum-F.Int n) y = ap (spec.both_numbers (Some n)) (number_lifted h y)
  have_order_lifted x y = refl

module _ {F G : Type 0} (h : F → G) (file : G → FileValue) where
  kept_carried : (v : Datum F) (w : Datum G) → w ≡ with_files h v → kept file w ≡ carried h (kept (λ f. file (h f)) v)
  kept_carried v w e = rw (e, is_within_with_files h file v) (elim (is_within (λ f. file (h f)) v) as (λ b. cond b (Ok (with_files h v)) (Err value_limit) ≡ carried h (cond b (Ok v) (Err value_limit))) [ true ↦ refl | false ↦ refl ])

  -- ---- `+` and `*`

  plus_layers : (x y : Datum-F F (Datum F)) → plus_at file (lifted h x) (lifted h y) ≡ carried h (plus_at (λ f. file (h f)) x y)
  plus_layers (Datum-F.Text s) (Datum-F.Text t) = kept_carried (variant.Text (s ++ t)) (variant.Text (s ++ t)) (sym (text_with_files h (s ++ t)))
  plus_layers (Datum-F.List xs) (Datum-F.List ys) = kept_carried (variant.List (xs ++ ys)) _ (ap variant.List (sym (map-append (with_files h) xs ys)) ∙ sym (list_with_files h (xs ++ ys)))
  plus_layers (Datum-F.Bool b) y = rw (number_lifted h y) (on_numbers_carried h (λ m n. kept_int (m +ℤ n)) _ (λ m n. kept_int_carried h (m +ℤ n)) (Some (number_of_bool b)) (number_at y))
  plus_layers (Datum-F.Int n) y = rw (number_lifted h y) (on_numbers_carried h (λ m n. kept_int (m +ℤ n)) _ (λ m n. kept_int_carried h (m +ℤ n)) (Some n) (number_at y))
  plus_layers x y = refl

  pub plus_with_files : (a b : Datum F) → plus file (with_files h a) (with_files h b) ≡ carried h (plus (λ f. file (h f)) a b)
  plus_with_files a b = rw (out_with_files h a, out_with_files h b) (plus_layers (out-Datum F a) (out-Datum F b))

  repeated_text_carried : (t : List ℕ) (n : Option ℤ) → spec.repeated_text file t n ≡ carried h (spec.repeated_text (λ f. file (h f)) t n)
  repeated_text_carried t None = refl
  repeated_text_carried t (Some n) = kept_carried (variant.Text (repeat (spec.times n) t)) _ (sym (text_with_files h _))

  repeated_list_carried : (xs : List (Datum F)) (n : Option ℤ) → spec.repeated_list file (map (with_files h) xs) n ≡ carried h (spec.repeated_list (λ f. file (h f)) xs n)
  repeated_list_carried xs None = refl
  repeated_list_carried xs (Some n) = kept_carried (variant.List (repeat (spec.times n) xs)) _ (ap variant.List (sym (repeat_map (with_files h) (spec.times n) xs)) ∙ sym (list_with_files h _))

  number_times_carried : (m : Option ℤ) (y : Datum-F F (Datum F)) → spec.number_times file m (lifted h y) ≡ carried h (spec.number_times (λ f. file (h f)) m y)
  number_times_carried m (Datum-F.Text t) = repeated_text_carried t m
  number_times_carried m (Datum-F.List xs) = repeated_list_carried xs m
  number_times_carried m (Datum-F.Bool b) = on_numbers_carried h (λ m n. kept_int (m *ℤ n)) _ (λ m n. kept_int_carried h (m *ℤ n)) m (Some (number_of_bool b))
  number_times_carried m (Datum-F.Int n) = on_numbers_carried h (λ m n. kept_int (m *ℤ n)) _ (λ m n. kept_int_carried h (m *ℤ n)) m (Some n)
  number_times_carried m y = on_numbers_carried h (λ m n. kept_int (m *ℤ n)) _ (λ m n. kept_int_carried h (m *ℤ n)) m None

  times_layers : (x y : Datum-F F (Datum F)) → spec.times_at file (lifted h x) (lifted h y) ≡ carried h (spec.times_at (λ f. file (h f)) x y)
  times_layers (Datum-F.Text s) y = rw (number_lifted h y) (repeated_text_carried s (number_at y))
  times_layers (Datum-F.List xs) y = rw (number_lifted h y) (repeated_list_carried xs (number_at y))
  times_layers (Datum-F.Bool b) y = number_times_carried (Some (number_of_bool b)) y
  times_layers (Datum-F.Int n) y = number_times_carried (Some n) y
  times_layers x y = number_times_carried None y

  -- ---- an index

  under_carried : (key : Datum F) (ps : List (Datum F × Datum F)) →
      spec.under file (with_files h key) (map (λ p. (with_files h p.0, with_files h p.1)) ps) ≡ carried h (spec.under (λ f. file (h f)) key ps)
  under_carried key [] = rw (repr_with_files h file key) refl
  under_carried key (p ∷ ps) =
      rw (equal_with_files h file p.0 key)
      (elim (equal (λ f. file (h f)) p.0 key) as (λ b. cond b (Ok (with_files h p.1)) (spec.under file (with_files h key) (map (λ q. (with_files h q.0, with_files h q.1)) ps)) ≡ carried h (cond b (Ok p.1) (spec.under (λ f. file (h f)) key ps)))
      [ true ↦ refl | false ↦ under_carried key ps ])

  under_key : (key : Datum F) (w : Datum G) → w ≡ with_files h key → (ps : List (Datum F × Datum F)) →
      spec.under file w (map (λ p. (with_files h p.0, with_files h p.1)) ps) ≡ carried h (spec.under (λ f. file (h f)) key ps)
  under_key key w e ps = ap (λ k. spec.under file k (map (λ p. (with_files h p.0, with_files h p.1)) ps)) e ∙ under_carried key ps

  keyed_carried : (ps : List (Datum F × Datum F)) (y : Datum-F F (Datum F)) → spec.keyed_at file (map (λ p. (with_files h p.0, with_files h p.1)) ps) (lifted h y) ≡ carried h (spec.keyed_at (λ f. file (h f)) ps y)
  keyed_carried ps (Datum-F.Int n) = under_key (variant.Int n) (variant.Int n) (sym (int_with_files h n)) ps
  keyed_carried ps (Datum-F.Text t) = under_key (variant.Text t) (variant.Text t) (sym (text_with_files h t)) ps
  keyed_carried ps y = refl

  index_layers : (x y : Datum-F F (Datum F)) → spec.index_at file (lifted h x) (lifted h y) ≡ carried h (spec.index_at (λ f. file (h f)) x y)
  index_layers (Datum-F.Text t) y = rw (number_lifted h y) (character_carried h (chars t) (number_at y))
  index_layers (Datum-F.List xs) y = rw (number_lifted h y) (indexed_carried h (with_files h) (λ x. x) (λ x. x) (λ x. refl) xs (number_at y))
  index_layers (Datum-F.Dict ps) y = keyed_carried ps y
  index_layers x y = refl

  -- ---- on values

  numbers_carried : (f : ℤ → ℤ → Result (Datum F) ErrorValue) (g : ℤ → ℤ → Result (Datum G) ErrorValue) → ((m n : ℤ) → g m n ≡ carried h (f m n)) →
      (a b : Datum F) → spec.numbers file g (with_files h a) (with_files h b) ≡ carried h (spec.numbers (λ f. file (h f)) f a b)
  numbers_carried f g e a b = rw (out_with_files h a, out_with_files h b, number_lifted h (out-Datum F a), number_lifted h (out-Datum F b)) (on_numbers_carried h f g e (number_at (out-Datum F a)) (number_at (out-Datum F b)))

  ordered_carried : (test : Ordering → Bool) (a b : Datum F) → spec.ordered file test (with_files h a) (with_files h b) ≡ carried h (spec.ordered (λ f. file (h f)) test a b)
  ordered_carried test a b =
      rw (out_with_files h a, out_with_files h b, have_order_lifted h (out-Datum F a) (out-Datum F b), compared_with_files h file a b)
      (elim (spec.have_order (out-Datum F a) (out-Datum F b)) as (λ t. cond t (spec.tested test (compared (λ f. file (h f)) a b)) (Err bad_operand) ≡ carried h (cond t (spec.tested test (compared (λ f. file (h f)) a b)) (Err bad_operand)))
      [ true ↦ tested_carried h test (compared (λ f. file (h f)) a b) | false ↦ refl ])

  binary_carried : (kind : OpKind) (a b : Datum F) → spec.binary file kind (with_files h a) (with_files h b) ≡ carried h (spec.binary (λ f. file (h f)) kind a b)
  binary_carried op.Add a b = plus_with_files a b
  binary_carried op.Sub a b = numbers_carried _ _ (λ m n. kept_int_carried h (m -ℤ n)) a b
  binary_carried op.Mul a b = rw (out_with_files h a, out_with_files h b) (times_layers (out-Datum F a) (out-Datum F b))
  binary_carried op.FloorDiv a b = numbers_carried _ _ (divided_carried h spec.floor_quotient) a b
  binary_carried op.Mod a b = numbers_carried _ _ (divided_carried h spec.floor_remainder) a b
  binary_carried op.Neg a b = refl
  binary_carried op.Eq a b = ap Ok (ap variant.Bool (equal_with_files h file a b) ∙ sym (bool_with_files h _))
  binary_carried op.Ne a b = ap Ok (ap (λ t. variant.Bool (not t)) (equal_with_files h file a b) ∙ sym (bool_with_files h _))
  binary_carried op.Lt a b = ordered_carried is_lt a b
  binary_carried op.Le a b = ordered_carried is_le a b
  binary_carried op.Gt a b = ordered_carried is_gt a b
  binary_carried op.Ge a b = ordered_carried is_ge a b
  binary_carried op.Index a b = rw (out_with_files h a, out_with_files h b) (index_layers (out-Datum F a) (out-Datum F b))

  unary_carried : (kind : OpKind) (a : Datum F) → spec.unary file kind (with_files h a) ≡ carried h (spec.unary (λ f. file (h f)) kind a)
  unary_carried op.Neg a = rw (out_with_files h a, number_lifted h (out-Datum F a)) (negated_carried h (number_at (out-Datum F a)))
  unary_carried kind a = refl

  pub applied_with_files : (kind : OpKind) (vs : List (Datum F)) → spec.applied file kind (map (with_files h) vs) ≡ carried h (spec.applied (λ f. file (h f)) kind vs)
  applied_with_files kind [] = refl
  applied_with_files kind (a ∷ []) = unary_carried kind a
  applied_with_files kind (a ∷ b ∷ []) = binary_carried kind a b
  applied_with_files kind (a ∷ b ∷ c ∷ vs) = refl
