-- What a body makes is the same under other names.
use Rattle.std.proofs.Common.{ℕ, ℤ, Bool, true, false, List, [], ◌∷◌, ◌++◌, map, length, Option, None, Some, Result, Ok, Err, refl}
use Rattle.std.specs.Prelude.{if◌then◌else◌}
use Rattle.rd_value.specs.declared.value.ErrorValue.{ErrorValue}
use Rattle.rd_value.specs.declared.value.FileValue.{FileValue}
use Rattle.rd_value.specs.declared.value.Datum.{Datum, out-Datum}
use Rattle.rd_value.specs.declared.value.Datum.TheVariants as value
use Rattle.rd_value.specs.declared.value.Datum.TheOpen.{Datum-F}
use Rattle.rd_value.specs.declared.expr.Lazy.{Lazy, out-Lazy}
use Rattle.rd_value.specs.declared.expr.Lazy.TheVariants as lazy
use Rattle.rd_value.specs.declared.expr.Lazy.TheOpen.{Lazy-F}
use Rattle.rd_value.specs.declared.expr.OpKind.{OpKind}
use Rattle.rd_value.specs.declared.expr.OpKind.TheVariants as op
use Rattle.rd_value.specs.Expand.{listed}
use Rattle.rd_value.specs.Limits.{is_within_expr}
use Rattle.rd_value.specs.Make.{value_of, values_of}
use Rattle.rd_value.specs.Operators.{binary, unary}
use Rattle.rd_value.specs.Repr.{repr}
use Rattle.rd_tree.specs.declared.tree.Comparison.{Comparison}
use Rattle.rd_tree.specs.declared.tree.Comparison.TheVariants as comparison
use Rattle.rd_routine.specs.declared.builtin.Builtin.{Builtin}
use Rattle.rd_routine.specs.declared.builtin.Builtin.TheVariants as builtin
use Rattle.rd_interpreter.specs.declared.method.Method.{Method}
use Rattle.rd_interpreter.specs.declared.method.Method.TheVariants as method
use Rattle.rd_interpreter.specs.State.{Part}
use Rattle.rd_interpreter.specs.Held.{pair_held, items_of}
use Rattle.rd_interpreter.specs.Making.{making, making_held, is_kept, measured, made, worked, taken, truth_value}
use Rattle.rd_interpreter.specs.Operations.{number_of, operate, negative, compare, unsettled, unsettled_plus, repeated_or, index_into, unsettled_index, on_both, negated}
use Rattle.rd_interpreter.specs.Operations as operations
use Rattle.rd_interpreter.specs.Builtins.{takes, produced, str_held, on_values, on_settled, on_others, on_arguments}
use Rattle.rd_interpreter.specs.Methods as methods
use Rattle.rd_interpreter.specs.Methods.{on_text, on_dict, on_method, of_value, of_held, on_receiver, held}
use Rattle.rd_interpreter.specs.Texts.{stripped, words}
use Rattle.rd_body.proofs.RenamedParts.{Carries, either, spend_carries, answered_carries}

module _ {N M F : Type 0} (r : N → M) where
  -- a part that does the same under both kinds of names
  abbrev pub Steady : {A : Type 0} → Part N F A → Part M F A → Type 0
  Steady = Carries r

  taken_steady : (x : Result (Datum F) ErrorValue) → Steady (taken x) (taken x)
  taken_steady (Ok v) = λ s. refl
  taken_steady (Err e) = λ s. refl

  worked_steady : (x : Result (Datum F) ErrorValue) → Steady (worked x) (worked x)
  worked_steady (Ok v) = spend_carries r (making v) (λ t. Ok (lazy.Val v, t)) (λ t. Ok (lazy.Val v, t)) (λ t. refl)
  worked_steady (Err e) = λ s. refl

  pub truth_steady : (x : Result Bool ErrorValue) → Steady (truth_value x) (truth_value x)
  truth_steady (Ok b) = λ s. refl
  truth_steady (Err e) = λ s. refl

  module _ (file : F → FileValue) where
    held_steady : (x : Result (Lazy F) ErrorValue) → Steady (held file x) (held file x)
    held_steady (Ok e) = λ s. refl
    held_steady (Err e) = λ s. refl

    pub measured_steady : (e : Lazy F) → Steady (measured file e) (measured file e)
    measured_steady e s = either r (is_within_expr file e) _ _ _ _ refl refl

    pub made_steady : (e : Lazy F) → Steady (made file e) (made file e)
    made_steady e s = either r (is_kept file e) _ _ _ _ (spend_carries r (making_held e) (λ t. Ok (e, t)) (λ t. Ok (e, t)) (λ t. refl) s) refl

    -- ---- operators

    plus_steady : (xs ys : Option (List (Lazy F))) (a b : Lazy F) → Steady (unsettled_plus file xs ys a b) (unsettled_plus file xs ys a b)
    plus_steady (Some xs) (Some ys) a b = made_steady (listed file (xs ++ ys))
    plus_steady (Some xs) None a b = measured_steady _
    plus_steady None ys a b = measured_steady _

    repeated_or_steady : (o : Option (List (Lazy F) × ℤ)) (a b : Lazy F) → Steady (repeated_or file o a b) (repeated_or file o a b)
    repeated_or_steady (Some p) a b = made_steady _
    repeated_or_steady None a b = measured_steady _

    index_into_steady : (x : Lazy-F F (Lazy F)) (w : Datum F) (a b : Lazy F) → Steady (index_into file x w a b) (index_into file x w a b)
    index_into_steady (Lazy-F.ListOf es) w a b = answered_carries r _
    index_into_steady (Lazy-F.DictOf ps) w a b = answered_carries r _
    index_into_steady x w a b = measured_steady _

    index_steady : (w : Option (Datum F)) (a b : Lazy F) → Steady (unsettled_index file w a b) (unsettled_index file w a b)
    index_steady None a b = measured_steady _
    index_steady (Some w) a b = index_into_steady (out-Lazy F a) w a b

    unsettled_steady : (kind : OpKind) (a b : Lazy F) → Steady (unsettled file kind a b) (unsettled file kind a b)
    unsettled_steady op.Add a b = plus_steady (items_of a) (items_of b) a b
    unsettled_steady op.Mul a b = repeated_or_steady _ a b
    unsettled_steady op.Index a b = index_steady (value_of b) a b
    unsettled_steady op.Sub a b = measured_steady _
    unsettled_steady op.FloorDiv a b = measured_steady _
    unsettled_steady op.Mod a b = measured_steady _
    unsettled_steady op.Neg a b = measured_steady _
    unsettled_steady op.Eq a b = measured_steady _
    unsettled_steady op.Ne a b = measured_steady _
    unsettled_steady op.Lt a b = measured_steady _
    unsettled_steady op.Le a b = measured_steady _
    unsettled_steady op.Gt a b = measured_steady _
    unsettled_steady op.Ge a b = measured_steady _

    values_steady : (kind : OpKind) (v w : Datum F) → Steady (operations.on_values file kind v w) (operations.on_values file kind v w)
    values_steady op.Index v w = taken_steady (binary file op.Index v w)
    values_steady op.Add v w = worked_steady (binary file op.Add v w)
    values_steady op.Sub v w = worked_steady (binary file op.Sub v w)
    values_steady op.Mul v w = worked_steady (binary file op.Mul v w)
    values_steady op.FloorDiv v w = worked_steady (binary file op.FloorDiv v w)
    values_steady op.Mod v w = worked_steady (binary file op.Mod v w)
    values_steady op.Neg v w = worked_steady (binary file op.Neg v w)
    values_steady op.Eq v w = worked_steady (binary file op.Eq v w)
    values_steady op.Ne v w = worked_steady (binary file op.Ne v w)
    values_steady op.Lt v w = worked_steady (binary file op.Lt v w)
    values_steady op.Le v w = worked_steady (binary file op.Le v w)
    values_steady op.Gt v w = worked_steady (binary file op.Gt v w)
    values_steady op.Ge v w = worked_steady (binary file op.Ge v w)

    both_steady : (kind : OpKind) (v w : Option (Datum F)) (a b : Lazy F) → Steady (on_both file kind v w a b) (on_both file kind v w a b)
    both_steady kind (Some v) (Some w) a b = values_steady kind v w
    both_steady kind (Some v) None a b = unsettled_steady kind a b
    both_steady kind None w a b = unsettled_steady kind a b

    pub operate_steady : (kind : OpKind) (a b : Lazy F) → Steady (operate file kind a b) (operate file kind a b)
    operate_steady kind a b = both_steady kind (value_of a) (value_of b) a b

    negated_steady : (v : Option (Datum F)) (a : Lazy F) → Steady (negated file v a) (negated file v a)
    negated_steady (Some v) a = worked_steady (unary file op.Neg v)
    negated_steady None a = measured_steady _

    pub negative_steady : (a : Lazy F) → Steady (negative file a) (negative file a)
    negative_steady a = negated_steady (value_of a) a

    pub compare_steady : (c : Comparison) (a b : Lazy F) → Steady (compare file c a b) (compare file c a b)
    compare_steady comparison.Eq a b = operate_steady op.Eq a b
    compare_steady comparison.Ne a b = operate_steady op.Ne a b
    compare_steady comparison.Lt a b = operate_steady op.Lt a b
    compare_steady comparison.Le a b = operate_steady op.Le a b
    compare_steady comparison.Gt a b = operate_steady op.Gt a b
    compare_steady comparison.Ge a b = operate_steady op.Ge a b
    compare_steady comparison.In a b = truth_steady _
    compare_steady comparison.NotIn a b = truth_steady _

    -- ---- builtins

    produced_steady : (x : Result (Datum F) ErrorValue) → Steady (produced file x) (produced file x)
    produced_steady (Ok v) = made_steady (lazy.Val v)
    produced_steady (Err e) = λ s. refl

    str_steady : (v : Datum F) (x : Datum-F F (Datum F)) → Steady (str_held file v x) (str_held file v x)
    str_steady v (Datum-F.Text t) = λ s. refl
    str_steady v (Datum-F.Error e) = λ s. refl
    str_steady v (Datum-F.File f) = λ s. refl
    str_steady v Datum-F.Nothing = made_steady (lazy.Val (value.Text (repr file v)))
    str_steady v (Datum-F.Bool b) = made_steady (lazy.Val (value.Text (repr file v)))
    str_steady v (Datum-F.Int n) = made_steady (lazy.Val (value.Text (repr file v)))
    str_steady v (Datum-F.List xs) = made_steady (lazy.Val (value.Text (repr file v)))
    str_steady v (Datum-F.Dict ps) = made_steady (lazy.Val (value.Text (repr file v)))

    builtin_steady : (b : Builtin) (vs : List (Datum F)) → Steady (on_values file b vs) (on_values file b vs)
    builtin_steady builtin.Len vs = λ s. refl
    builtin_steady builtin.Str [] = λ s. refl
    builtin_steady builtin.Str (v ∷ []) = str_steady v (out-Datum F v)
    builtin_steady builtin.Str (v ∷ w ∷ vs) = λ s. refl
    builtin_steady builtin.Int [] = λ s. refl
    builtin_steady builtin.Int (v ∷ []) = taken_steady _
    builtin_steady builtin.Int (v ∷ w ∷ vs) = λ s. refl
    builtin_steady builtin.Range [] = λ s. refl
    builtin_steady builtin.Range (a ∷ []) = produced_steady _
    builtin_steady builtin.Range (a ∷ b ∷ []) = produced_steady _
    builtin_steady builtin.Range (a ∷ b ∷ c ∷ []) = produced_steady _
    builtin_steady builtin.Range (a ∷ b ∷ c ∷ d ∷ vs) = λ s. refl
    builtin_steady builtin.Sum [] = λ s. refl
    builtin_steady builtin.Sum (v ∷ []) = taken_steady _
    builtin_steady builtin.Sum (v ∷ w ∷ vs) = λ s. refl
    builtin_steady builtin.Min vs = taken_steady _
    builtin_steady builtin.Max vs = taken_steady _
    builtin_steady builtin.Sorted [] = λ s. refl
    builtin_steady builtin.Sorted (v ∷ []) = produced_steady _
    builtin_steady builtin.Sorted (v ∷ w ∷ vs) = λ s. refl
    builtin_steady builtin.Abs [] = λ s. refl
    builtin_steady builtin.Abs (v ∷ []) = taken_steady _
    builtin_steady builtin.Abs (v ∷ w ∷ vs) = λ s. refl

    settled_steady : (b : Builtin) (vs : Option (List (Datum F))) → Steady (on_settled file b vs) (on_settled file b vs)
    settled_steady b (Some vs) = builtin_steady b vs
    settled_steady b None = λ s. refl

    chosen_steady : (b : Bool) (p : Part N F (Lazy F)) (q : Part M F (Lazy F)) (e : ErrorValue) → Steady p q → Steady (if b then p else taken (Err e)) (if b then q else taken (Err e))
    chosen_steady true p q e u = u
    chosen_steady false p q e u = λ s. refl

    others_steady : (b : Builtin) (es : List (Lazy F)) → Steady (on_others file b es) (on_others file b es)
    others_steady b es = chosen_steady (takes b (length es)) _ _ _ (settled_steady b (values_of es))

    pub arguments_steady : (b : Builtin) (es : List (Lazy F)) → Steady (on_arguments file b es) (on_arguments file b es)
    arguments_steady builtin.Len [] = λ s. refl
    arguments_steady builtin.Len (e ∷ []) = taken_steady _
    arguments_steady builtin.Len (e ∷ d ∷ es) = λ s. refl
    arguments_steady builtin.Str es = others_steady builtin.Str es
    arguments_steady builtin.Int es = others_steady builtin.Int es
    arguments_steady builtin.Range es = others_steady builtin.Range es
    arguments_steady builtin.Sum es = others_steady builtin.Sum es
    arguments_steady builtin.Min es = others_steady builtin.Min es
    arguments_steady builtin.Max es = others_steady builtin.Max es
    arguments_steady builtin.Sorted es = others_steady builtin.Sorted es
    arguments_steady builtin.Abs es = others_steady builtin.Abs es

    -- ---- methods

    text_steady : (m : Method) (t : List ℕ) (vs : List (Datum F)) → Steady (on_text file m t vs) (on_text file m t vs)
    text_steady method.Format t vs = produced_steady _
    text_steady method.Split t [] = made_steady (lazy.Val (methods.texts (words t)))
    text_steady method.Split t (v ∷ []) = produced_steady _
    text_steady method.Split t (v ∷ w ∷ vs) = λ s. refl
    text_steady method.Join t [] = λ s. refl
    text_steady method.Join t (v ∷ []) = produced_steady _
    text_steady method.Join t (v ∷ w ∷ vs) = λ s. refl
    text_steady method.Strip t [] = made_steady (lazy.Val (value.Text (stripped t)))
    text_steady method.Strip t (v ∷ vs) = λ s. refl
    text_steady method.StartsWith t [] = λ s. refl
    text_steady method.StartsWith t (v ∷ []) = taken_steady _
    text_steady method.StartsWith t (v ∷ w ∷ vs) = λ s. refl
    text_steady method.EndsWith t [] = λ s. refl
    text_steady method.EndsWith t (v ∷ []) = taken_steady _
    text_steady method.EndsWith t (v ∷ w ∷ vs) = λ s. refl
    text_steady method.Replace t [] = λ s. refl
    text_steady method.Replace t (v ∷ []) = λ s. refl
    text_steady method.Replace t (v ∷ w ∷ []) = produced_steady _
    text_steady method.Replace t (v ∷ w ∷ x ∷ vs) = λ s. refl
    text_steady method.Get t vs = λ s. refl
    text_steady method.Keys t vs = λ s. refl
    text_steady method.Values t vs = λ s. refl
    text_steady method.Items t vs = λ s. refl

    dict_steady : (m : Method) (ps : List (Datum F × Lazy F)) (vs : List (Datum F)) → Steady (on_dict file m ps vs) (on_dict file m ps vs)
    dict_steady method.Get ps [] = λ s. refl
    dict_steady method.Get ps (k ∷ []) = held_steady _
    dict_steady method.Get ps (k ∷ v ∷ []) = held_steady _
    dict_steady method.Get ps (k ∷ v ∷ w ∷ vs) = λ s. refl
    dict_steady method.Keys ps [] = made_steady _
    dict_steady method.Keys ps (v ∷ vs) = λ s. refl
    dict_steady method.Values ps [] = made_steady _
    dict_steady method.Values ps (v ∷ vs) = λ s. refl
    dict_steady method.Items ps [] = made_steady _
    dict_steady method.Items ps (v ∷ vs) = λ s. refl
    dict_steady method.Format ps vs = λ s. refl
    dict_steady method.Split ps vs = λ s. refl
    dict_steady method.Join ps vs = λ s. refl
    dict_steady method.Strip ps vs = λ s. refl
    dict_steady method.StartsWith ps vs = λ s. refl
    dict_steady method.EndsWith ps vs = λ s. refl
    dict_steady method.Replace ps vs = λ s. refl

    module _ (go : Method → List (Datum F) → Part N F (Lazy F)) (go' : Method → List (Datum F) → Part M F (Lazy F)) (u : (m : Method) (vs : List (Datum F)) → Steady (go m vs) (go' m vs)) where
      settled_method : (m : Method) (vs : Result (List (Datum F)) ErrorValue) → Steady (methods.on_arguments file (go m) vs) (methods.on_arguments file (go' m) vs)
      settled_method m (Ok vs) = u m vs
      settled_method m (Err e) = λ s. refl

      method_steady : (none : ErrorValue) (m : Option Method) (es : List (Lazy F)) → Steady (on_method file go none m es) (on_method file go' none m es)
      method_steady none None es = λ s. refl
      method_steady none (Some m) es = settled_method m (methods.arguments_of m es)

    of_value_steady : (x : Datum-F F (Datum F)) (name : List ℕ) (es : List (Lazy F)) → Steady (of_value file x name es) (of_value file x name es)
    of_value_steady (Datum-F.Text t) name es = method_steady (λ m. on_text file m t) (λ m. on_text file m t) (λ m. text_steady m t) _ _ es
    of_value_steady (Datum-F.Dict ps) name es = method_steady (λ m. on_dict file m (map pair_held ps)) (λ m. on_dict file m (map pair_held ps)) (λ m. dict_steady m (map pair_held ps)) _ _ es
    of_value_steady Datum-F.Nothing name es = λ s. refl
    of_value_steady (Datum-F.Bool b) name es = λ s. refl
    of_value_steady (Datum-F.Int n) name es = λ s. refl
    of_value_steady (Datum-F.List xs) name es = λ s. refl
    of_value_steady (Datum-F.File f) name es = λ s. refl
    of_value_steady (Datum-F.Error e) name es = λ s. refl

    of_held_steady : (x : Lazy-F F (Lazy F)) (name : List ℕ) (es : List (Lazy F)) → Steady (of_held file x name es) (of_held file x name es)
    of_held_steady (Lazy-F.Val v) name es = of_value_steady (out-Datum F v) name es
    of_held_steady (Lazy-F.DictOf ps) name es = method_steady (λ m. on_dict file m ps) (λ m. on_dict file m ps) (λ m. dict_steady m ps) _ _ es
    of_held_steady (Lazy-F.Call task positional keywords) name es = λ s. refl
    of_held_steady (Lazy-F.Input path) name es = λ s. refl
    of_held_steady (Lazy-F.Op kind parts) name es = λ s. refl
    of_held_steady (Lazy-F.ListOf parts) name es = λ s. refl
    of_held_steady (Lazy-F.Cond test when_true when_false) name es = λ s. refl
    of_held_steady (Lazy-F.Map task list) name es = λ s. refl
    of_held_steady (Lazy-F.Catch tried class recover) name es = λ s. refl

    pub receiver_steady : (e : Lazy F) (name : List ℕ) (es : List (Lazy F)) → Steady (on_receiver file e name es) (on_receiver file e name es)
    receiver_steady e name es = of_held_steady (out-Lazy F e) name es
