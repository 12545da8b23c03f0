-- The operators of a body, with other files.
use Rattle.std.proofs.Common.{◌≡◌, ℕ, ℤ, Bool, true, false, not, ◌||◌, List, [], ◌∷◌, ◌++◌, map, length, cond, Option, None, Some, Result, Ok, Err, refl, sym, ap, ◌∙◌}
use Rattle.std.specs.List.{list_any, repeat, slice_get}
use Rattle.std.specs.Option.{option_map}
use Rattle.std.proofs.lemmas.List.{map-append}
use Rattle.rd_value.specs.declared.value.ErrorValue.{ErrorValue}
use Rattle.rd_value.specs.declared.value.FileValue.{FileValue}
use Rattle.rd_value.specs.declared.value.Datum.{Datum, out-Datum}
use Rattle.rd_value.specs.declared.value.Datum.TheVariants as value
use Rattle.rd_value.specs.declared.value.Datum.TheOpen.{Datum-F}
use Rattle.rd_value.specs.declared.class.Class.TheVariants.{KeyError}
use Rattle.rd_value.specs.declared.expr.OpKind.{OpKind}
use Rattle.rd_value.specs.declared.expr.OpKind.TheVariants as op
use Rattle.rd_value.specs.declared.expr.Lazy.{Lazy, out-Lazy}
use Rattle.rd_value.specs.declared.expr.Lazy.TheOpen.{Lazy-F}
use Rattle.rd_value.specs.declared.expr.Lazy.TheVariants as lazy
use Rattle.rd_value.specs.Compare.{equal}
use Rattle.rd_value.specs.Erase.{with_files, with_files_expr}
use Rattle.rd_value.specs.Expand.{listed}
use Rattle.rd_value.specs.Make.{value_of}
use Rattle.rd_value.specs.Operators.{binary, unary, item_at, place, times}
use Rattle.rd_value.specs.Raise.{raised}
use Rattle.rd_value.proofs.Erased.{int_with_files, text_with_files, repr_with_files}
use Rattle.rd_value.proofs.ErasedCompare.{lifted, out_with_files, equal_with_files}
use Rattle.rd_value.proofs.ErasedExpand.{out_with_files_expr, value_with_files, listed_with_files}
use Rattle.rd_value.proofs.ErasedOperators.{applied_with_files, slice_get_map, count_map, repeat_map}
use Rattle.rd_tree.specs.declared.tree.Comparison.{Comparison}
use Rattle.rd_tree.specs.declared.tree.Comparison.TheVariants as comparison
use Rattle.rd_interpreter.specs.State.{Part}
use Rattle.rd_interpreter.specs.Held.{items_of}
use Rattle.rd_interpreter.specs.Operations.{number_of, item_found, item_under, has_item, has_key, turned, key_in, text_in, contained_in, membership, held_under, under_key, counted, repetition, operation, unsettled_plus, repeated, repeated_or, unsettled_times, index_into, unsettled_index, unsettled, on_values, on_both, operate, negated, negative, compare}
use Rattle.rd_body.proofs.ErasedParts.{mapped, state_with, answered_carries}
use Rattle.rd_body.proofs.ErasedHeld.{pair_with, value_pair_with, expr_lifted, pairs_twice, number_with_files, items_with_files, op_of_with_files}
use Rattle.rd_body.proofs.ErasedMaking.{Same, taken_same, worked_same, truth_same, before, measured_same, made_same}

any_map : {A B : Type 0} (f : A → B) (p : A → Bool) (q : B → Bool) → ((x : A) → q (f x) ≡ p x) → (xs : List A) → list_any q (map f xs) ≡ list_any p xs
any_map f p q e [] = refl
any_map f p q e (x ∷ xs) = ap (λ b. b || list_any q (map f xs)) (e x) ∙ ap (λ b. p x || b) (any_map f p q e xs)

module _ {F G : Type 0} (h : F → G) where
  found_put : (o : Option (Lazy F)) → item_found (option_map (with_files_expr h) o) ≡ mapped (with_files_expr h) (item_found o)
  found_put None = refl
  found_put (Some e) = refl

  item_put : (es : List (Lazy F)) (n : ℤ) → item_at (map (with_files_expr h) es) n ≡ option_map (with_files_expr h) (item_at es n)
  item_put es n = ap (λ c. slice_get (map (with_files_expr h) es) (place n c)) (count_map (with_files_expr h) es) ∙ slice_get_map (with_files_expr h) es (place n (length es))

  item_under_put : (es : List (Lazy F)) (n : Option ℤ) → item_under (map (with_files_expr h) es) n ≡ mapped (with_files_expr h) (item_under es n)
  item_under_put es None = refl
  item_under_put es (Some n) = ap item_found (item_put es n) ∙ found_put (item_at es n)

  abbrev first_with : List (Lazy F) × ℤ → List (Lazy G) × ℤ
  first_with p = (map (with_files_expr h) p.0, p.1)

  counted_put : (x : Lazy-F F (Lazy F)) (n : Option ℤ) → counted (expr_lifted h x) n ≡ option_map first_with (counted x n)
  counted_put (Lazy-F.ListOf es) (Some n) = refl
  counted_put (Lazy-F.ListOf es) None = refl
  counted_put x n = refl

  counted_as : (x : Lazy-F F (Lazy F)) (w : Datum F) → counted (expr_lifted h x) (number_of (with_files h w)) ≡ option_map first_with (counted x (number_of w))
  counted_as x w = ap (counted (expr_lifted h x)) (number_with_files h w) ∙ counted_put x (number_of w)

  repetition_put : (v w : Option (Datum F)) (x y : Lazy-F F (Lazy F)) → repetition (option_map (with_files h) v) (option_map (with_files h) w) (expr_lifted h x) (expr_lifted h y) ≡ option_map first_with (repetition v w x y)
  repetition_put None (Some w) x y = counted_as x w
  repetition_put (Some v) None x y = counted_as y v
  repetition_put None None x y = refl
  repetition_put (Some v) (Some w) x y = refl

  repetition_of : (a b : Lazy F) → repetition (value_of (with_files_expr h a)) (value_of (with_files_expr h b)) (out-Lazy G (with_files_expr h a)) (out-Lazy G (with_files_expr h b)) ≡ option_map first_with (repetition (value_of a) (value_of b) (out-Lazy F a) (out-Lazy F b))
  repetition_of a b = rw (value_with_files h a, value_with_files h b, out_with_files_expr h a, out_with_files_expr h b) (repetition_put (value_of a) (value_of b) (out-Lazy F a) (out-Lazy F b))

module _ {F G : Type 0} (h : F → G) (file : G → FileValue) where
  abbrev own : F → FileValue
  own = before h file

  -- ---- `in`

  has_item_put : (v : Datum F) (vs : List (Datum F)) → has_item file (with_files h v) (map (with_files h) vs) ≡ has_item own v vs
  has_item_put v vs = any_map (with_files h) _ _ (λ x. equal_with_files h file x v) vs

  has_key_put : (k : Datum F) (l : Datum G) → l ≡ with_files h k → (ps : List (Datum F × Datum F)) → has_key file l (map (value_pair_with h) ps) ≡ has_key own k ps
  has_key_put k l e ps = ap (λ m. has_key file m (map (value_pair_with h) ps)) e ∙ any_map (value_pair_with h) _ _ (λ p. equal_with_files h file p.0 k) ps

  key_in_put : (x : Datum-F F (Datum F)) (ps : List (Datum F × Datum F)) → key_in file (lifted h x) (map (value_pair_with h) ps) ≡ key_in own x ps
  key_in_put (Datum-F.Int n) ps = ap Ok (has_key_put (value.Int n) (value.Int n) (sym (int_with_files h n)) ps)
  key_in_put (Datum-F.Text t) ps = ap Ok (has_key_put (value.Text t) (value.Text t) (sym (text_with_files h t)) ps)
  key_in_put x ps = refl

  text_in_put : (x : Datum-F F (Datum F)) (t : List ℕ) → text_in file (lifted h x) t ≡ text_in own x t
  text_in_put (Datum-F.Text s) t = refl
  text_in_put x t = refl

  contained_in_put : (v : Datum F) (y : Datum-F F (Datum F)) → contained_in file (with_files h v) (lifted h y) ≡ contained_in own v y
  contained_in_put v (Datum-F.Text t) = ap (λ x. text_in file x t) (out_with_files h v) ∙ text_in_put (out-Datum F v) t
  contained_in_put v (Datum-F.List vs) = ap Ok (has_item_put v vs)
  contained_in_put v (Datum-F.Dict ps) = ap (λ x. key_in file x (map (value_pair_with h) ps)) (out_with_files h v) ∙ key_in_put (out-Datum F v) ps
  contained_in_put v y = refl

  membership_by : (v w : Option (Datum F)) → membership file (option_map (with_files h) v) (option_map (with_files h) w) ≡ membership own v w
  membership_by (Some v) (Some w) = ap (contained_in file (with_files h v)) (out_with_files h w) ∙ contained_in_put v (out-Datum F w)
  membership_by (Some v) None = refl
  membership_by None w = refl

  membership_put : (a b : Lazy F) → membership file (value_of (with_files_expr h a)) (value_of (with_files_expr h b)) ≡ membership own (value_of a) (value_of b)
  membership_put a b = ap (λ v. membership file v (value_of (with_files_expr h b))) (value_with_files h a) ∙ ap (membership file (option_map (with_files h) (value_of a))) (value_with_files h b) ∙ membership_by (value_of a) (value_of b)

  -- ---- under a key

  held_under_by : (b c : Bool) → c ≡ b → (e : Lazy F) (x : Result (Lazy F) ErrorValue) (y : Result (Lazy G) ErrorValue) → y ≡ mapped (with_files_expr h) x
      → cond c (Ok (with_files_expr h e)) y ≡ mapped (with_files_expr h) (cond b (Ok e) x)
  held_under_by true c e v x y u = ap (λ d. cond d (Ok (with_files_expr h v)) y) e
  held_under_by false c e v x y u = ap (λ d. cond d (Ok (with_files_expr h v)) y) e ∙ u

  held_under_put : (k : Datum F) (ps : List (Datum F × Lazy F)) → held_under file (with_files h k) (map (pair_with h) ps) ≡ mapped (with_files_expr h) (held_under own k ps)
  held_under_put k [] = ap (λ t. Err (raised KeyError t)) (repr_with_files h file k)
  held_under_put k (p ∷ ps) = held_under_by (equal own p.0 k) (equal file (with_files h p.0) (with_files h k)) (equal_with_files h file p.0 k) p.1 (held_under own k ps) _ (held_under_put k ps)

  held_under_key : (k : Datum F) (l : Datum G) → l ≡ with_files h k → (ps : List (Datum F × Lazy F)) → held_under file l (map (pair_with h) ps) ≡ mapped (with_files_expr h) (held_under own k ps)
  held_under_key k l e ps = ap (λ m. held_under file m (map (pair_with h) ps)) e ∙ held_under_put k ps

  under_key_put : (ps : List (Datum F × Lazy F)) (x : Datum-F F (Datum F)) → under_key file (map (pair_with h) ps) (lifted h x) ≡ mapped (with_files_expr h) (under_key own ps x)
  under_key_put ps (Datum-F.Int n) = held_under_key (value.Int n) (value.Int n) (sym (int_with_files h n)) ps
  under_key_put ps (Datum-F.Text t) = held_under_key (value.Text t) (value.Text t) (sym (text_with_files h t)) ps
  under_key_put ps x = refl

  module _ {N : Type 0} where
    abbrev Alike : Part N F (Lazy F) → Part N G (Lazy G) → Type 0
    Alike = Same h

    -- ---- operators of which a side isn't settled

    operation_same : (kind : OpKind) (es : List (Lazy F)) → Alike (operation own kind es) (operation file kind (map (with_files_expr h) es))
    operation_same kind es = measured_same h file (lazy.Op kind es) (lazy.Op kind (map (with_files_expr h) es)) (sym (op_of_with_files h kind es))

    plus_same : (xs ys : Option (List (Lazy F))) (a b : Lazy F) → Alike (unsettled_plus own xs ys a b) (unsettled_plus file (option_map (map (with_files_expr h)) xs) (option_map (map (with_files_expr h)) ys) (with_files_expr h a) (with_files_expr h b))
    plus_same (Some xs) (Some ys) a b =
        made_same h file (listed own (xs ++ ys)) (listed file (map (with_files_expr h) xs ++ map (with_files_expr h) ys))
        (ap (listed file) (sym (map-append (with_files_expr h) xs ys)) ∙ listed_with_files h file (xs ++ ys))
    plus_same (Some xs) None a b = operation_same op.Add (a ∷ b ∷ [])
    plus_same None ys a b = operation_same op.Add (a ∷ b ∷ [])

    repeated_same : (es : List (Lazy F)) (n : ℤ) → Alike (repeated own es n) (repeated file (map (with_files_expr h) es) n)
    repeated_same es n =
        made_same h file (listed own (repeat (times n) es)) (listed file (repeat (times n) (map (with_files_expr h) es)))
        (ap (listed file) (sym (repeat_map (with_files_expr h) (times n) es)) ∙ listed_with_files h file (repeat (times n) es))

    repeated_or_same : (o : Option (List (Lazy F) × ℤ)) (a b : Lazy F) → Alike (repeated_or own o a b) (repeated_or file (option_map (first_with h) o) (with_files_expr h a) (with_files_expr h b))
    repeated_or_same (Some p) a b = repeated_same p.0 p.1
    repeated_or_same None a b = operation_same op.Mul (a ∷ b ∷ [])

    times_same : (a b : Lazy F) → Alike (unsettled_times own a b) (unsettled_times file (with_files_expr h a) (with_files_expr h b))
    times_same a b s = ap (λ o. repeated_or file o (with_files_expr h a) (with_files_expr h b) (state_with h s)) (repetition_of h a b) ∙ repeated_or_same (repetition (value_of a) (value_of b) (out-Lazy F a) (out-Lazy F b)) a b s

    index_into_same : (x : Lazy-F F (Lazy F)) (w : Datum F) (a b : Lazy F) → Alike (index_into own x w a b) (index_into file (expr_lifted h x) (with_files h w) (with_files_expr h a) (with_files_expr h b))
    index_into_same (Lazy-F.ListOf es) w a b =
        answered_carries h (with_files_expr h) (item_under es (number_of w)) (item_under (map (with_files_expr h) es) (number_of (with_files h w)))
        (ap (item_under (map (with_files_expr h) es)) (number_with_files h w) ∙ item_under_put h es (number_of w))
    index_into_same (Lazy-F.DictOf ps) w a b =
        answered_carries h (with_files_expr h) (under_key own ps (out-Datum F w)) _
        (ap (λ qs. under_key file qs (out-Datum G (with_files h w))) (pairs_twice h ps) ∙ ap (under_key file (map (pair_with h) ps)) (out_with_files h w) ∙ under_key_put ps (out-Datum F w))
    index_into_same x w a b = operation_same op.Index (a ∷ b ∷ [])

    index_same : (w : Option (Datum F)) (a b : Lazy F) → Alike (unsettled_index own w a b) (unsettled_index file (option_map (with_files h) w) (with_files_expr h a) (with_files_expr h b))
    index_same None a b s = operation_same op.Index (a ∷ b ∷ []) s
    index_same (Some w) a b s =
        ap (λ x. index_into file x (with_files h w) (with_files_expr h a) (with_files_expr h b) (state_with h s)) (out_with_files_expr h a) ∙ index_into_same (out-Lazy F a) w a b s

    unsettled_same : (kind : OpKind) (a b : Lazy F) → Alike (unsettled own kind a b) (unsettled file kind (with_files_expr h a) (with_files_expr h b))
    unsettled_same op.Add a b s =
        ap (λ xs. unsettled_plus file xs (items_of (with_files_expr h b)) (with_files_expr h a) (with_files_expr h b) (state_with h s)) (items_with_files h a)
        ∙ ap (λ ys. unsettled_plus file (option_map (map (with_files_expr h)) (items_of a)) ys (with_files_expr h a) (with_files_expr h b) (state_with h s)) (items_with_files h b)
        ∙ plus_same (items_of a) (items_of b) a b s
    unsettled_same op.Mul a b s = times_same a b s
    unsettled_same op.Index a b s =
        ap (λ w. unsettled_index file w (with_files_expr h a) (with_files_expr h b) (state_with h s)) (value_with_files h b) ∙ index_same (value_of b) a b s
    unsettled_same kind a b s = operation_same kind (a ∷ b ∷ []) s

    -- ---- all operators

    values_same : (kind : OpKind) (v w : Datum F) → Alike (on_values own kind v w) (on_values file kind (with_files h v) (with_files h w))
    values_same op.Index v w = taken_same h (binary own op.Index v w) (binary file op.Index (with_files h v) (with_files h w)) (applied_with_files h file op.Index (v ∷ w ∷ []))
    values_same kind v w = worked_same h (binary own kind v w) (binary file kind (with_files h v) (with_files h w)) (applied_with_files h file kind (v ∷ w ∷ []))

    both_same : (kind : OpKind) (v w : Option (Datum F)) (a b : Lazy F) → Alike (on_both own kind v w a b) (on_both file kind (option_map (with_files h) v) (option_map (with_files h) w) (with_files_expr h a) (with_files_expr h b))
    both_same kind (Some v) (Some w) a b = values_same kind v w
    both_same kind (Some v) None a b = unsettled_same kind a b
    both_same kind None w a b = unsettled_same kind a b

    pub operate_same : (kind : OpKind) (a b : Lazy F) → Alike (operate own kind a b) (operate file kind (with_files_expr h a) (with_files_expr h b))
    operate_same kind a b s =
        ap (λ v. on_both file kind v (value_of (with_files_expr h b)) (with_files_expr h a) (with_files_expr h b) (state_with h s)) (value_with_files h a)
        ∙ ap (λ w. on_both file kind (option_map (with_files h) (value_of a)) w (with_files_expr h a) (with_files_expr h b) (state_with h s)) (value_with_files h b)
        ∙ both_same kind (value_of a) (value_of b) a b s

    negated_same : (v : Option (Datum F)) (a : Lazy F) → Alike (negated own v a) (negated file (option_map (with_files h) v) (with_files_expr h a))
    negated_same (Some v) a = worked_same h (unary own op.Neg v) (unary file op.Neg (with_files h v)) (applied_with_files h file op.Neg (v ∷ []))
    negated_same None a = operation_same op.Neg (a ∷ [])

    pub negative_same : (a : Lazy F) → Alike (negative own a) (negative file (with_files_expr h a))
    negative_same a s = ap (λ v. negated file v (with_files_expr h a) (state_with h s)) (value_with_files h a) ∙ negated_same (value_of a) a s

    pub compare_same : (c : Comparison) (a b : Lazy F) → Alike (compare own c a b) (compare file c (with_files_expr h a) (with_files_expr h b))
    compare_same comparison.Eq a b = operate_same op.Eq a b
    compare_same comparison.Ne a b = operate_same op.Ne a b
    compare_same comparison.Lt a b = operate_same op.Lt a b
    compare_same comparison.Le a b = operate_same op.Le a b
    compare_same comparison.Gt a b = operate_same op.Gt a b
    compare_same comparison.Ge a b = operate_same op.Ge a b
    compare_same comparison.In a b = truth_same h (membership own (value_of a) (value_of b)) (membership file (value_of (with_files_expr h a)) (value_of (with_files_expr h b))) (membership_put a b)
    compare_same comparison.NotIn a b = truth_same h (turned not (membership own (value_of a) (value_of b))) (turned not (membership file (value_of (with_files_expr h a)) (value_of (with_files_expr h b)))) (ap (turned not) (membership_put a b))
