-- What operators, builtins and methods give names no other tasks than their operands.
use Rattle.std.proofs.Common.{◌≡◌, ℕ, zero, suc, ℤ, pos, Bool, true, false, not, List, [], ◌∷◌, ◌++◌, map, length, Option, None, Some, Result, Ok, Err, refl}
use Rattle.std.specs.Prelude.{if◌then◌else◌}
use Rattle.std.specs.List.{slice_get, repeat}
use Rattle.rd_value.specs.declared.value.ErrorValue.{ErrorValue}
use Rattle.rd_value.specs.declared.value.FileValue.{FileValue}
use Rattle.rd_value.specs.declared.value.Datum.{Datum, out-Datum}
use Rattle.rd_value.specs.declared.value.Datum.TheVariants as value
use Rattle.rd_value.specs.declared.value.Datum.TheOpen.{Datum-F}
use Rattle.rd_value.specs.declared.expr.OpKind.{OpKind}
use Rattle.rd_value.specs.declared.expr.OpKind.TheVariants as op
use Rattle.rd_value.specs.declared.expr.Lazy.{Lazy, out-Lazy}
use Rattle.rd_value.specs.declared.expr.Lazy.TheVariants as lazy
use Rattle.rd_value.specs.declared.expr.Lazy.TheOpen.{Lazy-F}
use Rattle.rd_value.specs.Compare.{equal}
use Rattle.rd_value.specs.Expand.{listed}
use Rattle.rd_value.specs.Make.{is_key, value_of, values_of}
use Rattle.rd_value.specs.Repr.{repr}
use Rattle.rd_value.specs.Operators.{times, place, item_at, binary, unary}
use Rattle.rd_value.proofs.Ind.{Each, EachSecond}
use Rattle.rd_tree.specs.declared.tree.Comparison.{Comparison}
use Rattle.rd_tree.specs.declared.tree.Comparison.TheVariants as comparison
use Rattle.rd_routine.specs.declared.builtin.Builtin.{Builtin}
use Rattle.rd_routine.specs.declared.builtin.Builtin.TheVariants as builtin
use Rattle.rd_interpreter.specs.declared.method.Method.{Method}
use Rattle.rd_interpreter.specs.declared.method.Method.TheVariants as method
use Rattle.rd_interpreter.specs.State.{Part}
use Rattle.rd_interpreter.specs.Held.{not_settled, items_of, pair_held, iterated_value}
use Rattle.rd_interpreter.specs.Making.{taken}
use Rattle.rd_interpreter.specs.Texts.{begins, ends, filled, stripped, words}
use Rattle.rd_interpreter.specs.Operations.{number_of, item_found, item_under, turned, membership, held_under, under_key, counted, repetition, operation, unsettled_plus, repeated_or, index_into, unsettled_index, unsettled, on_values, on_both, operate, negated, negative, compare}
use Rattle.rd_interpreter.specs.Builtins as builtins
use Rattle.rd_interpreter.specs.Methods as methods
use Rattle.rd_body.proofs.HomeParts.{IfThere, IfFound, answered_keeps}
use Rattle.rd_body.proofs.HomeMakings.{Home, KeepsHome, home_val, home_op, items_home, pairs_home, pairs_held_home, items_of_home, listed_home, worked_keeps, taken_keeps, truth_keeps, measured_keeps, made_keeps}

-- what holds of each holds of both lists in turn, and of a list so many times
both_lists : {A : Type 0} (P : A → Type 0) (xs ys : List A) → Each P xs → Each P ys → Each P (xs ++ ys)
both_lists P [] ys us ws = ws
both_lists P (x ∷ xs) ys us ws = (us.0, both_lists P xs ys us.1 ws)

times_list : {A : Type 0} (P : A → Type 0) (n : ℕ) (xs : List A) → Each P xs → Each P (repeat n xs)
times_list P zero xs us = tt
times_list P (suc n) xs us = both_lists P xs (repeat n xs) us (times_list P n xs us)

at_place : {A : Type 0} (P : A → Type 0) (xs : List A) (n : ℕ) → Each P xs → IfThere P (slice_get xs n)
at_place P [] n us = tt
at_place P (x ∷ xs) zero us = us.0
at_place P (x ∷ xs) (suc n) us = at_place P xs n us.1

found_either : {A : Type 0} (P : A → Type 0) (b : Bool) (x y : Result A ErrorValue) → IfFound P x → IfFound P y → IfFound P (if b then x else y)
found_either P true x y u w = u
found_either P false x y u w = w

there_either : {A : Type 0} (P : A → Type 0) (b : Bool) (x y : Option A) → IfThere P x → IfThere P y → IfThere P (if b then x else y)
there_either P true x y u w = u
there_either P false x y u w = w

module _ (F : Type 0) (IsTask : List ℕ → Type 0) (file : F → FileValue) where
  abbrev OfTasks : Lazy F → Type 0
  OfTasks = Home F IsTask

  -- ---- parts of lists and dicts

  item_found_home : (o : Option (Lazy F)) → IfThere OfTasks o → IfFound OfTasks (item_found o)
  item_found_home None u = tt
  item_found_home (Some e) u = u

  item_under_home : (es : List (Lazy F)) (o : Option ℤ) → Each OfTasks es → IfFound OfTasks (item_under es o)
  item_under_home es None us = tt
  item_under_home es (Some n) us = item_found_home (item_at es n) (at_place OfTasks es (place n (length es)) us)

  held_under_home : (key : Datum F) (ps : List (Datum F × Lazy F)) → EachSecond OfTasks ps → IfFound OfTasks (held_under file key ps)
  held_under_home key [] us = tt
  held_under_home key (p ∷ ps) us = found_either OfTasks (equal file p.0 key) (Ok p.1) (held_under file key ps) us.0 (held_under_home key ps us.1)

  under_key_home : (ps : List (Datum F × Lazy F)) (x : Datum-F F (Datum F)) → EachSecond OfTasks ps → IfFound OfTasks (under_key file ps x)
  under_key_home ps (Datum-F.Int n) us = held_under_home (value.Int n) ps us
  under_key_home ps (Datum-F.Text t) us = held_under_home (value.Text t) ps us
  under_key_home ps x us = tt

  abbrev Repeats : Option (List (Lazy F) × ℤ) → Type 0
  Repeats = IfThere (λ p. Each OfTasks p.0)

  counted_home : (e : Lazy F) (x : Lazy-F F (Lazy F)) → out-Lazy F e ≡ x → OfTasks e → (o : Option ℤ) → Repeats (counted x o)
  counted_home e (Lazy-F.ListOf es) is h None = tt
  counted_home e (Lazy-F.ListOf es) is h (Some n) = items_home F IsTask e es is h
  counted_home e x is h o = tt

  repetition_home : (v w : Option (Datum F)) (a b : Lazy F) → OfTasks a → OfTasks b → Repeats (repetition v w (out-Lazy F a) (out-Lazy F b))
  repetition_home None None a b f g = tt
  repetition_home None (Some w) a b f g = counted_home a (out-Lazy F a) refl f (number_of w)
  repetition_home (Some v) None a b f g = counted_home b (out-Lazy F b) refl g (number_of v)
  repetition_home (Some v) (Some w) a b f g = tt

  module _ (N : Type 0) where
    abbrev pub Fine : Part N F (Lazy F) → Type 0
    Fine = KeepsHome F IsTask {N = N}

    part_either : (b : Bool) (p q : Part N F (Lazy F)) → Fine p → Fine q → Fine (if b then p else q)
    part_either true p q u w = u
    part_either false p q u w = w

    -- ---- operators

    operation_home : (kind : OpKind) (es : List (Lazy F)) → Each OfTasks es → Fine (operation file kind es)
    operation_home kind es us = measured_keeps F IsTask file (lazy.Op kind es) (home_op F IsTask kind es us)

    plus_home : (xs ys : Option (List (Lazy F))) (a b : Lazy F) → IfThere (Each OfTasks) xs → IfThere (Each OfTasks) ys → OfTasks a → OfTasks b → Fine (unsettled_plus file xs ys a b)
    plus_home (Some xs) (Some ys) a b u w f g = made_keeps F IsTask file (listed file (xs ++ ys)) (listed_home F IsTask file (xs ++ ys) (both_lists OfTasks xs ys u w))
    plus_home (Some xs) None a b u w f g = operation_home op.Add (a ∷ b ∷ []) (f, (g, tt))
    plus_home None ys a b u w f g = operation_home op.Add (a ∷ b ∷ []) (f, (g, tt))

    repeated_home : (o : Option (List (Lazy F) × ℤ)) (a b : Lazy F) → Repeats o → OfTasks a → OfTasks b → Fine (repeated_or file o a b)
    repeated_home (Some p) a b u f g = made_keeps F IsTask file (listed file (repeat (times p.1) p.0)) (listed_home F IsTask file (repeat (times p.1) p.0) (times_list OfTasks (times p.1) p.0 u))
    repeated_home None a b u f g = operation_home op.Mul (a ∷ b ∷ []) (f, (g, tt))

    into_home : (e : Lazy F) (x : Lazy-F F (Lazy F)) → out-Lazy F e ≡ x → OfTasks e → (w : Datum F) (b : Lazy F) → OfTasks b → Fine (index_into file x w e b)
    into_home e (Lazy-F.ListOf es) is h w b g = answered_keeps OfTasks OfTasks (item_under es (number_of w)) (item_under_home es (number_of w) (items_home F IsTask e es is h))
    into_home e (Lazy-F.DictOf ps) is h w b g = answered_keeps OfTasks OfTasks (under_key file ps (out-Datum F w)) (under_key_home ps (out-Datum F w) (pairs_home F IsTask e ps is h))
    into_home e x is h w b g = operation_home op.Index (e ∷ b ∷ []) (h, (g, tt))

    index_home : (o : Option (Datum F)) (a b : Lazy F) → OfTasks a → OfTasks b → Fine (unsettled_index file o a b)
    index_home None a b f g = operation_home op.Index (a ∷ b ∷ []) (f, (g, tt))
    index_home (Some w) a b f g = into_home a (out-Lazy F a) refl f w b g

    unsettled_home : (kind : OpKind) (a b : Lazy F) → OfTasks a → OfTasks b → Fine (unsettled file kind a b)
    unsettled_home op.Add a b f g = plus_home (items_of a) (items_of b) a b (items_of_home F IsTask a f) (items_of_home F IsTask b g) f g
    unsettled_home op.Mul a b f g = repeated_home (repetition (value_of a) (value_of b) (out-Lazy F a) (out-Lazy F b)) a b (repetition_home (value_of a) (value_of b) a b f g) f g
    unsettled_home op.Index a b f g = index_home (value_of b) a b f g
    unsettled_home kind a b f g = operation_home kind (a ∷ b ∷ []) (f, (g, tt))

    values_fine : (kind : OpKind) (v w : Datum F) → Fine (on_values file kind v w)
    values_fine op.Index v w = taken_keeps F IsTask (binary file op.Index v w)
    values_fine kind v w = worked_keeps F IsTask (binary file kind v w)

    both_home : (kind : OpKind) (v w : Option (Datum F)) (a b : Lazy F) → OfTasks a → OfTasks b → Fine (on_both file kind v w a b)
    both_home kind (Some v) (Some w) a b f g = values_fine kind v w
    both_home kind (Some v) None a b f g = unsettled_home kind a b f g
    both_home kind None w a b f g = unsettled_home kind a b f g

    pub operate_home : (kind : OpKind) (a b : Lazy F) → OfTasks a → OfTasks b → Fine (operate file kind a b)
    operate_home kind a b f g = both_home kind (value_of a) (value_of b) a b f g

    negated_home : (o : Option (Datum F)) (a : Lazy F) → OfTasks a → Fine (negated file o a)
    negated_home (Some v) a f = worked_keeps F IsTask (unary file op.Neg v)
    negated_home None a f = operation_home op.Neg (a ∷ []) (f, tt)

    pub negative_home : (a : Lazy F) → OfTasks a → Fine (negative file a)
    negative_home a f = negated_home (value_of a) a f

    pub compare_home : (c : Comparison) (a b : Lazy F) → OfTasks a → OfTasks b → Fine (compare file c a b)
    compare_home comparison.Eq a b f g = operate_home op.Eq a b f g
    compare_home comparison.Ne a b f g = operate_home op.Ne a b f g
    compare_home comparison.Lt a b f g = operate_home op.Lt a b f g
    compare_home comparison.Le a b f g = operate_home op.Le a b f g
    compare_home comparison.Gt a b f g = operate_home op.Gt a b f g
    compare_home comparison.Ge a b f g = operate_home op.Ge a b f g
    compare_home comparison.In a b f g = truth_keeps F IsTask (membership file (value_of a) (value_of b))
    compare_home comparison.NotIn a b f g = truth_keeps F IsTask (turned not (membership file (value_of a) (value_of b)))

    -- ---- builtins

    produced_fine : (x : Result (Datum F) ErrorValue) → Fine (builtins.produced file x)
    produced_fine (Ok v) = made_keeps F IsTask file (lazy.Val v) (home_val F IsTask v)
    produced_fine (Err e) = λ s h. tt

    str_fine : (v : Datum F) (x : Datum-F F (Datum F)) → Fine (builtins.str_held file v x)
    str_fine v (Datum-F.Text t) = taken_keeps F IsTask (Ok v)
    str_fine v (Datum-F.Error e) = taken_keeps F IsTask (Ok (value.Text e.text))
    str_fine v (Datum-F.File f) = taken_keeps F IsTask (Ok (value.Text (file f).path))
    str_fine v x = produced_fine (Ok (value.Text (repr file v)))

    one_fine : (kind : Builtin) (o : Option (Datum F)) → Fine (builtins.on_one file kind o)
    one_fine builtin.Str (Some v) = str_fine v (out-Datum F v)
    one_fine builtin.Int (Some v) = taken_keeps F IsTask (builtins.int_at (out-Datum F v))
    one_fine builtin.Sum (Some v) = taken_keeps F IsTask (builtins.then_ (iterated_value v) (builtins.sum_from (pos 0)))
    one_fine builtin.Sorted (Some v) = produced_fine (builtins.then_ (iterated_value v) (builtins.sorted file))
    one_fine builtin.Abs (Some v) = taken_keeps F IsTask (builtins.absolute file (number_of v))
    one_fine kind o = λ s h. tt

    range_fine : (vs : List (Datum F)) → Fine (builtins.on_range file vs)
    range_fine [] = λ s h. tt
    range_fine (b ∷ []) = produced_fine (builtins.range_at (Some (pos 0)) (number_of b) (Some (pos 1)))
    range_fine (a ∷ b ∷ []) = produced_fine (builtins.range_at (number_of a) (number_of b) (Some (pos 1)))
    range_fine (a ∷ b ∷ c ∷ []) = produced_fine (builtins.range_at (number_of a) (number_of b) (number_of c))
    range_fine (a ∷ b ∷ c ∷ d ∷ vs) = λ s h. tt

    builtin_fine : (kind : Builtin) (vs : List (Datum F)) → Fine (builtins.on_values file kind vs)
    builtin_fine builtin.Range vs = range_fine vs
    builtin_fine builtin.Min vs = taken_keeps F IsTask (builtins.then_ (builtins.candidates file vs) (builtins.best (builtins.less file)))
    builtin_fine builtin.Max vs = taken_keeps F IsTask (builtins.then_ (builtins.candidates file vs) (builtins.best (builtins.greater file)))
    builtin_fine builtin.Len vs = one_fine builtin.Len (builtins.the_only vs)
    builtin_fine builtin.Str vs = one_fine builtin.Str (builtins.the_only vs)
    builtin_fine builtin.Int vs = one_fine builtin.Int (builtins.the_only vs)
    builtin_fine builtin.Sum vs = one_fine builtin.Sum (builtins.the_only vs)
    builtin_fine builtin.Sorted vs = one_fine builtin.Sorted (builtins.the_only vs)
    builtin_fine builtin.Abs vs = one_fine builtin.Abs (builtins.the_only vs)

    settled_fine : (kind : Builtin) (o : Option (List (Datum F))) → Fine (builtins.on_settled file kind o)
    settled_fine kind (Some vs) = builtin_fine kind vs
    settled_fine kind None = λ s h. tt

    others_fine : (kind : Builtin) (es : List (Lazy F)) → Fine (builtins.on_others file kind es)
    others_fine kind es =
        part_either (builtins.takes kind (length es)) (builtins.on_settled file kind (values_of es)) (taken (Err builtins.bad_arguments)) (settled_fine kind (values_of es)) (taken_keeps F IsTask (Err builtins.bad_arguments))

    pub arguments_fine : (kind : Builtin) (es : List (Lazy F)) → Fine (builtins.on_arguments file kind es)
    arguments_fine builtin.Len es = taken_keeps F IsTask (builtins.length_of_one (builtins.the_only es))
    arguments_fine builtin.Str es = others_fine builtin.Str es
    arguments_fine builtin.Int es = others_fine builtin.Int es
    arguments_fine builtin.Range es = others_fine builtin.Range es
    arguments_fine builtin.Sum es = others_fine builtin.Sum es
    arguments_fine builtin.Min es = others_fine builtin.Min es
    arguments_fine builtin.Max es = others_fine builtin.Max es
    arguments_fine builtin.Sorted es = others_fine builtin.Sorted es
    arguments_fine builtin.Abs es = others_fine builtin.Abs es

    -- ---- methods

    text_fine : (m : Method) (t : List ℕ) (vs : List (Datum F)) → Fine (methods.on_text file m t vs)
    text_fine method.Format t vs = produced_fine (methods.text_value (filled t (map (builtins.str file) vs)))
    text_fine method.Split t [] = produced_fine (Ok (methods.texts (words t)))
    text_fine method.Split t (v ∷ []) = produced_fine (methods.split_by t (methods.text_of v))
    text_fine method.Join t (v ∷ []) = produced_fine (builtins.then_ (iterated_value v) (λ vs. methods.joined_by t (methods.texts_of vs)))
    text_fine method.Strip t [] = produced_fine (Ok (value.Text (stripped t)))
    text_fine method.StartsWith t (v ∷ []) = taken_keeps F IsTask (methods.tested begins t (methods.text_of v))
    text_fine method.EndsWith t (v ∷ []) = taken_keeps F IsTask (methods.tested ends t (methods.text_of v))
    text_fine method.Replace t (v ∷ w ∷ []) = produced_fine (methods.replaced_by t (methods.text_of v) (methods.text_of w))
    text_fine m t vs = λ s h. tt

    held_fine : (x : Result (Lazy F) ErrorValue) → IfFound OfTasks x → Fine (methods.held file x)
    held_fine (Ok e) u = λ s h. (u, h)
    held_fine (Err e) u = λ s h. tt

    under_home : (key : Datum F) (ps : List (Datum F × Lazy F)) → EachSecond OfTasks ps → IfThere OfTasks (methods.value_under file key ps)
    under_home key [] us = tt
    under_home key (p ∷ ps) us = there_either OfTasks (equal file p.0 key) (Some p.1) (methods.value_under file key ps) us.0 (under_home key ps us.1)

    or_else_home : (o : Option (Lazy F)) (e : Lazy F) → IfThere OfTasks o → OfTasks e → OfTasks (methods.or_else o e)
    or_else_home (Some a) e u w = u
    or_else_home None e u w = w

    got_home : (ps : List (Datum F × Lazy F)) (key other : Datum F) → EachSecond OfTasks ps → IfFound OfTasks (methods.got file ps key other)
    got_home ps key other us =
        found_either OfTasks (is_key key) (Ok (methods.or_else (methods.value_under file key ps) (lazy.Val other))) _ (or_else_home (methods.value_under file key ps) (lazy.Val other) (under_home key ps us) (home_val F IsTask other)) tt

    keys_home : (ps : List (Datum F × Lazy F)) → Each OfTasks (map (λ p. lazy.Val p.0) ps)
    keys_home [] = tt
    keys_home (p ∷ ps) = (home_val F IsTask p.0, keys_home ps)

    seconds_home : (ps : List (Datum F × Lazy F)) → EachSecond OfTasks ps → Each OfTasks (map (λ p. p.1) ps)
    seconds_home [] us = tt
    seconds_home (p ∷ ps) us = (us.0, seconds_home ps us.1)

    items_are_home : (ps : List (Datum F × Lazy F)) → EachSecond OfTasks ps → Each OfTasks (map (methods.item file) ps)
    items_are_home [] us = tt
    items_are_home (p ∷ ps) us = (listed_home F IsTask file (lazy.Val p.0 ∷ p.1 ∷ []) (home_val F IsTask p.0, (us.0, tt)), items_are_home ps us.1)

    dict_fine : (m : Method) (ps : List (Datum F × Lazy F)) (vs : List (Datum F)) → EachSecond OfTasks ps → Fine (methods.on_dict file m ps vs)
    dict_fine method.Get ps (k ∷ []) us = held_fine (methods.got file ps k value.Nothing) (got_home ps k value.Nothing us)
    dict_fine method.Get ps (k ∷ v ∷ []) us = held_fine (methods.got file ps k v) (got_home ps k v us)
    dict_fine method.Keys ps [] us = made_keeps F IsTask file (listed file (map (λ p. lazy.Val p.0) ps)) (listed_home F IsTask file (map (λ p. lazy.Val p.0) ps) (keys_home ps))
    dict_fine method.Values ps [] us = made_keeps F IsTask file (listed file (map (λ p. p.1) ps)) (listed_home F IsTask file (map (λ p. p.1) ps) (seconds_home ps us))
    dict_fine method.Items ps [] us = made_keeps F IsTask file (listed file (map (methods.item file) ps)) (listed_home F IsTask file (map (methods.item file) ps) (items_are_home ps us))
    dict_fine m ps vs us = λ s h. tt

    on_given : (go : List (Datum F) → Part N F (Lazy F)) (x : Result (List (Datum F)) ErrorValue) → ((vs : List (Datum F)) → Fine (go vs)) → Fine (methods.on_arguments file go x)
    on_given go (Ok vs) u = u vs
    on_given go (Err e) u = λ s h. tt

    method_fine : (go : Method → List (Datum F) → Part N F (Lazy F)) (none : ErrorValue) (o : Option Method) (es : List (Lazy F)) → ((m : Method) (vs : List (Datum F)) → Fine (go m vs)) → Fine (methods.on_method file go none o es)
    method_fine go none None es u = λ s h. tt
    method_fine go none (Some m) es u = on_given (go m) (methods.arguments_of m es) (u m)

    of_value_fine : (x : Datum-F F (Datum F)) (name : List ℕ) (es : List (Lazy F)) → Fine (methods.of_value file x name es)
    of_value_fine (Datum-F.Text t) name es = method_fine (λ m. methods.on_text file m t) (methods.no_method name) (methods.text_method name) es (λ m vs. text_fine m t vs)
    of_value_fine (Datum-F.Dict ps) name es = method_fine (λ m. methods.on_dict file m (map pair_held ps)) (methods.no_method name) (methods.dict_method name) es (λ m vs. dict_fine m (map pair_held ps) vs (pairs_held_home F IsTask ps))
    of_value_fine x name es = λ s h. tt

    receiver_by : (e : Lazy F) (x : Lazy-F F (Lazy F)) → out-Lazy F e ≡ x → OfTasks e → (name : List ℕ) (es : List (Lazy F)) → Fine (methods.of_held file x name es)
    receiver_by e (Lazy-F.Val v) is h name es = of_value_fine (out-Datum F v) name es
    receiver_by e (Lazy-F.DictOf ps) is h name es = method_fine (λ m. methods.on_dict file m ps) not_settled (methods.dict_method name) es (λ m vs. dict_fine m ps vs (pairs_home F IsTask e ps is h))
    receiver_by e x is h name es = λ s h. tt

    pub receiver_home : (e : Lazy F) → OfTasks e → (name : List ℕ) (es : List (Lazy F)) → Fine (methods.on_receiver file e name es)
    receiver_home e h name es = receiver_by e (out-Lazy F e) refl h name es
