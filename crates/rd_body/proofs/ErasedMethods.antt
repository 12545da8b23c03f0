-- The methods of texts and dicts, with other files.
use Rattle.std.proofs.Common.{◌≡◌, ℕ, Bool, true, false, List, [], ◌∷◌, map, length, cond, Option, None, Some, Result, Ok, Err, refl, sym, ap, ◌∙◌}
use Rattle.std.specs.Option.{option_map}
use Rattle.rd_value.specs.declared.value.ErrorValue.{ErrorValue}
use Rattle.rd_value.specs.declared.value.FileValue.{FileValue}
use Rattle.rd_value.specs.declared.value.Datum.{Datum, out-Datum}
use Rattle.rd_value.specs.declared.value.Datum.TheVariants as value
use Rattle.rd_value.specs.declared.value.Datum.TheOpen.{Datum-F}
use Rattle.rd_value.specs.declared.expr.Lazy.{Lazy, out-Lazy}
use Rattle.rd_value.specs.declared.expr.Lazy.TheVariants as lazy
use Rattle.rd_value.specs.declared.expr.Lazy.TheOpen.{Lazy-F}
use Rattle.rd_value.specs.Compare.{equal}
use Rattle.rd_value.specs.Erase.{with_files, with_files_expr}
use Rattle.rd_value.specs.Expand.{listed}
use Rattle.rd_value.specs.Make.{is_key, values_of}
use Rattle.rd_value.specs.Operators.{bad_operand}
use Rattle.rd_value.specs.Truth.{is_empty}
use Rattle.rd_value.proofs.Erased.{text_with_files, list_with_files}
use Rattle.rd_value.proofs.ErasedCompare.{lifted, out_with_files, equal_with_files}
use Rattle.rd_value.proofs.ErasedExpand.{val_with_files, out_with_files_expr, values_with_files, listed_with_files}
use Rattle.rd_value.proofs.ErasedOperators.{bool_with_files, count_map}
use Rattle.rd_interpreter.specs.declared.method.Method.{Method}
use Rattle.rd_interpreter.specs.declared.method.Method.TheVariants as method
use Rattle.rd_interpreter.specs.State.{Part}
use Rattle.rd_interpreter.specs.Held.{not_settled, or_not_settled, pair_held, iterated_value}
use Rattle.rd_interpreter.specs.Making.{made}
use Rattle.rd_interpreter.specs.Builtins.{bad_arguments, str, then_}
use Rattle.rd_interpreter.specs.Texts.{stripped, words, begins, ends, pieces, joined, replaced, filled}
use Rattle.rd_interpreter.specs.Methods as spec
use Rattle.rd_interpreter.specs.Methods.{empty_separator, empty_pattern, text_method, dict_method, no_method, arguments_of, text_at, text_of, with_text, texts_of, texts, text_value, split_by, joined_by, tested, replaced_by, value_under, or_else, item, got, on_text, held, on_dict, on_arguments, on_method, of_value, of_held, on_receiver}
use Rattle.rd_body.proofs.ErasedParts.{mapped, state_with}
use Rattle.rd_body.proofs.ErasedHeld.{square, fused, or_not_settled_put, pair_with, expr_lifted, pairs_twice, pairs_held, keys_held, nothing_with_files, is_key_with_files, iterated_value_with_files}
use Rattle.rd_body.proofs.ErasedMaking.{Same, taken_same, before, made_same}
use Rattle.rd_body.proofs.ErasedBuiltins.{then_put, tested_put, str_put, produced_same}

module _ {F G : Type 0} (h : F → G) where
  -- an answer on values
  abbrev Answers : Result (Datum F) ErrorValue → Result (Datum G) ErrorValue → Type 0
  Answers x y = y ≡ mapped (with_files h) x

  -- ---- texts

  text_lifted : (x : Datum-F F (Datum F)) → text_at (lifted h x) ≡ text_at x
  text_lifted (Datum-F.Text t) = refl
  text_lifted x = refl

  pub text_of_with_files : (v : Datum F) → text_of (with_files h v) ≡ text_of v
  text_of_with_files v = ap text_at (out_with_files h v) ∙ text_lifted (out-Datum F v)

  texts_of_put : (vs : List (Datum F)) → texts_of (map (with_files h) vs) ≡ texts_of vs
  texts_of_put [] = refl
  texts_of_put (v ∷ vs) = ap (λ t. with_text t (texts_of (map (with_files h) vs))) (text_of_with_files v) ∙ ap (with_text (text_of v)) (texts_of_put vs)

  texts_put : (ts : List (List ℕ)) → texts ts ≡ with_files h (texts ts)
  texts_put ts = ap value.List (sym (fused value.Text (with_files h) value.Text (text_with_files h) ts)) ∙ sym (list_with_files h (map value.Text ts))

  text_put : (t : List ℕ) → Answers (Ok (value.Text t)) (Ok (value.Text t))
  text_put t = ap Ok (sym (text_with_files h t))

  text_value_put : (x : Result (List ℕ) ErrorValue) → Answers (text_value x) (text_value x)
  text_value_put (Ok t) = text_put t
  text_value_put (Err e) = refl

  split_put : (t : List ℕ) (o : Option (List ℕ)) → Answers (split_by t o) (split_by t o)
  split_put t None = refl
  split_put t (Some s) = tested_put (with_files h) (is_empty s) (is_empty s) (Err empty_separator) (Ok (texts (pieces s t))) _ _ refl refl (ap Ok (texts_put (pieces s t)))

  joined_put : (t : List ℕ) (o : Option (List (List ℕ))) → Answers (joined_by t o) (joined_by t o)
  joined_put t None = refl
  joined_put t (Some ts) = text_put (joined t ts)

  test_put : (test : List ℕ → List ℕ → Bool) (t : List ℕ) (o : Option (List ℕ)) → Answers (tested test t o) (tested test t o)
  test_put test t None = refl
  test_put test t (Some s) = ap Ok (sym (bool_with_files h (test s t)))

  replaced_put : (t : List ℕ) (o n : Option (List ℕ)) → Answers (replaced_by t o n) (replaced_by t o n)
  replaced_put t (Some old) (Some new) = tested_put (with_files h) (is_empty old) (is_empty old) (Err empty_pattern) (Ok (value.Text (replaced old new t))) _ _ refl refl (text_put (replaced old new t))
  replaced_put t (Some old) None = refl
  replaced_put t None n = refl

  -- an answer on what a value's text is
  of_text : {A : Type 0} (f : A → Result (Datum F) ErrorValue) (g : A → Result (Datum G) ErrorValue) → ((a : A) → Answers (f a) (g a)) → (a b : A) → b ≡ a → Answers (f a) (g b)
  of_text f g u a b e = ap g e ∙ u a

module _ {F G : Type 0} (h : F → G) (file : G → FileValue) where
  abbrev own : F → FileValue
  own = before h file

  -- ---- dicts

  under_by : (b c : Bool) → c ≡ b → (e : Lazy F) (x : Option (Lazy F)) (y : Option (Lazy G)) → y ≡ option_map (with_files_expr h) x → cond c (Some (with_files_expr h e)) y ≡ option_map (with_files_expr h) (cond b (Some e) x)
  under_by true c u e x y w = ap (λ d. cond d (Some (with_files_expr h e)) y) u
  under_by false c u e x y w = ap (λ d. cond d (Some (with_files_expr h e)) y) u ∙ w

  value_under_put : (k : Datum F) (ps : List (Datum F × Lazy F)) → value_under file (with_files h k) (map (pair_with h) ps) ≡ option_map (with_files_expr h) (value_under own k ps)
  value_under_put k [] = refl
  value_under_put k (p ∷ ps) = under_by (equal own p.0 k) (equal file (with_files h p.0) (with_files h k)) (equal_with_files h file p.0 k) p.1 (value_under own k ps) _ (value_under_put k ps)

  or_else_put : (o : Option (Lazy F)) (e : Lazy F) → or_else (option_map (with_files_expr h) o) (with_files_expr h e) ≡ with_files_expr h (or_else o e)
  or_else_put (Some d) e = refl
  or_else_put None e = refl

  got_put : (ps : List (Datum F × Lazy F)) (k v : Datum F) → got file (map (pair_with h) ps) (with_files h k) (with_files h v) ≡ mapped (with_files_expr h) (got own ps k v)
  got_put ps k v =
      tested_put (with_files_expr h) (is_key k) (is_key (with_files h k)) (Ok (or_else (value_under own k ps) (lazy.Val v))) (Err bad_operand) _ (Err bad_operand) (is_key_with_files h k)
      (ap (λ o. Ok (or_else o (lazy.Val (with_files h v)))) (value_under_put k ps) ∙ ap (λ e. Ok (or_else (option_map (with_files_expr h) (value_under own k ps)) e)) (sym (val_with_files h v)) ∙ ap Ok (or_else_put (value_under own k ps) (lazy.Val v))) refl

  got_nothing : (ps : List (Datum F × Lazy F)) (k : Datum F) → got file (map (pair_with h) ps) (with_files h k) value.Nothing ≡ mapped (with_files_expr h) (got own ps k value.Nothing)
  got_nothing ps k = ap (got file (map (pair_with h) ps) (with_files h k)) (sym (nothing_with_files h)) ∙ got_put ps k value.Nothing

  listed_put : (es : List (Lazy F)) (ds : List (Lazy G)) → ds ≡ map (with_files_expr h) es → listed file ds ≡ with_files_expr h (listed own es)
  listed_put es ds e = ap (listed file) e ∙ listed_with_files h file es

  item_put : (p : Datum F × Lazy F) → item file (pair_with h p) ≡ with_files_expr h (item own p)
  item_put p = listed_put (lazy.Val p.0 ∷ p.1 ∷ []) _ (ap (λ e. e ∷ with_files_expr h p.1 ∷ []) (sym (val_with_files h p.0)))

  arguments_put : (m : Method) (es : List (Lazy F)) → arguments_of m (map (with_files_expr h) es) ≡ mapped (map (with_files h)) (arguments_of m es)
  arguments_put m es =
      tested_put (map (with_files h)) (spec.takes m (length es)) (spec.takes m (length (map (with_files_expr h) es))) (or_not_settled (values_of es)) (Err bad_arguments) _ (Err bad_arguments)
      (ap (spec.takes m) (count_map (with_files_expr h) es)) (ap or_not_settled (values_with_files h es) ∙ or_not_settled_put (map (with_files h)) (values_of es)) refl

  module _ {N : Type 0} where
    abbrev Alike : Part N F (Lazy F) → Part N G (Lazy G) → Type 0
    Alike = Same h

    text_same : (m : Method) (t : List ℕ) (vs : List (Datum F)) → Alike (on_text own m t vs) (on_text file m t (map (with_files h) vs))
    text_same method.Format t vs =
        produced_same h file (text_value (filled t (map (str own) vs))) (text_value (filled t (map (str file) (map (with_files h) vs))))
        (ap (λ ts. text_value (filled t ts)) (fused (with_files h) (str file) (str own) (str_put h file) vs) ∙ text_value_put h (filled t (map (str own) vs)))
    text_same method.Split t [] = produced_same h file (Ok (texts (words t))) (Ok (texts (words t))) (ap Ok (texts_put h (words t)))
    text_same method.Split t (v ∷ []) = produced_same h file (split_by t (text_of v)) (split_by t (text_of (with_files h v))) (of_text h (split_by t) (split_by t) (split_put h t) _ _ (text_of_with_files h v))
    text_same method.Join t (v ∷ []) =
        produced_same h file (then_ (iterated_value v) (λ vs. joined_by t (texts_of vs))) (then_ (iterated_value (with_files h v)) (λ vs. joined_by t (texts_of vs)))
        (then_put (map (with_files h)) (with_files h) (iterated_value v) (iterated_value (with_files h v)) (λ vs. joined_by t (texts_of vs)) (λ vs. joined_by t (texts_of vs)) (iterated_value_with_files h v)
        (λ vs. of_text h (joined_by t) (joined_by t) (joined_put h t) _ _ (texts_of_put h vs)))
    text_same method.Strip t [] = produced_same h file (Ok (value.Text (stripped t))) (Ok (value.Text (stripped t))) (text_put h (stripped t))
    text_same method.StartsWith t (v ∷ []) = taken_same h (tested begins t (text_of v)) (tested begins t (text_of (with_files h v))) (of_text h (tested begins t) (tested begins t) (test_put h begins t) _ _ (text_of_with_files h v))
    text_same method.EndsWith t (v ∷ []) = taken_same h (tested ends t (text_of v)) (tested ends t (text_of (with_files h v))) (of_text h (tested ends t) (tested ends t) (test_put h ends t) _ _ (text_of_with_files h v))
    text_same method.Replace t (v ∷ w ∷ []) =
        produced_same h file (replaced_by t (text_of v) (text_of w)) (replaced_by t (text_of (with_files h v)) (text_of (with_files h w)))
        (ap (λ o. replaced_by t o (text_of (with_files h w))) (text_of_with_files h v) ∙ ap (replaced_by t (text_of v)) (text_of_with_files h w) ∙ replaced_put h t (text_of v) (text_of w))
    text_same method.Split t (v ∷ w ∷ vs) = λ s. refl
    text_same method.Join t [] = λ s. refl
    text_same method.Join t (v ∷ w ∷ vs) = λ s. refl
    text_same method.Strip t (v ∷ vs) = λ s. refl
    text_same method.StartsWith t [] = λ s. refl
    text_same method.StartsWith t (v ∷ w ∷ vs) = λ s. refl
    text_same method.EndsWith t [] = λ s. refl
    text_same method.EndsWith t (v ∷ w ∷ vs) = λ s. refl
    text_same method.Replace t [] = λ s. refl
    text_same method.Replace t (v ∷ []) = λ s. refl
    text_same method.Replace t (v ∷ w ∷ x ∷ vs) = λ s. refl
    text_same method.Get t vs = λ s. refl
    text_same method.Keys t vs = λ s. refl
    text_same method.Values t vs = λ s. refl
    text_same method.Items t vs = λ s. refl

    held_put : (x : Result (Lazy F) ErrorValue) → Alike (held own x) (held file (mapped (with_files_expr h) x))
    held_put (Ok e) = λ s. refl
    held_put (Err e) = λ s. refl

    held_same : (x : Result (Lazy F) ErrorValue) (y : Result (Lazy G) ErrorValue) → y ≡ mapped (with_files_expr h) x → Alike (held own x) (held file y)
    held_same x y e s = ap (λ z. held file z (state_with h s)) e ∙ held_put x s

    listed_same : (es : List (Lazy F)) (ds : List (Lazy G)) → ds ≡ map (with_files_expr h) es → Alike (made own (listed own es)) (made file (listed file ds))
    listed_same es ds e = made_same h file (listed own es) (listed file ds) (listed_put es ds e)

    dict_same : (m : Method) (ps : List (Datum F × Lazy F)) (vs : List (Datum F)) → Alike (on_dict own m ps vs) (on_dict file m (map (pair_with h) ps) (map (with_files h) vs))
    dict_same method.Get ps (k ∷ []) = held_same (got own ps k value.Nothing) (got file (map (pair_with h) ps) (with_files h k) value.Nothing) (got_nothing ps k)
    dict_same method.Get ps (k ∷ v ∷ []) = held_same (got own ps k v) (got file (map (pair_with h) ps) (with_files h k) (with_files h v)) (got_put ps k v)
    dict_same method.Keys ps [] = listed_same (map (λ p. lazy.Val p.0) ps) (map (λ p. lazy.Val p.0) (map (pair_with h) ps)) (keys_held h ps)
    dict_same method.Values ps [] = listed_same (map (λ p. p.1) ps) (map (λ p. p.1) (map (pair_with h) ps)) (square (pair_with h) (λ p. p.1) (λ p. p.1) (with_files_expr h) (λ p. refl) ps)
    dict_same method.Items ps [] = listed_same (map (item own) ps) (map (item file) (map (pair_with h) ps)) (square (pair_with h) (item file) (item own) (with_files_expr h) item_put ps)
    dict_same method.Get ps [] = λ s. refl
    dict_same method.Get ps (k ∷ v ∷ w ∷ vs) = λ s. refl
    dict_same method.Keys ps (v ∷ vs) = λ s. refl
    dict_same method.Values ps (v ∷ vs) = λ s. refl
    dict_same method.Items ps (v ∷ vs) = λ s. refl
    dict_same method.Format ps vs = λ s. refl
    dict_same method.Split ps vs = λ s. refl
    dict_same method.Join ps vs = λ s. refl
    dict_same method.Strip ps vs = λ s. refl
    dict_same method.StartsWith ps vs = λ s. refl
    dict_same method.EndsWith ps vs = λ s. refl
    dict_same method.Replace ps vs = λ s. refl

    -- ---- receivers

    module _ (go : Method → List (Datum F) → Part N F (Lazy F)) (go' : Method → List (Datum G) → Part N G (Lazy G)) (u : (m : Method) (vs : List (Datum F)) → Alike (go m vs) (go' m (map (with_files h) vs))) where
      given_same : (m : Method) (x : Result (List (Datum F)) ErrorValue) → Alike (on_arguments own (go m) x) (on_arguments file (go' m) (mapped (map (with_files h)) x))
      given_same m (Ok vs) = u m vs
      given_same m (Err e) = λ s. refl

      method_same : (none : ErrorValue) (m : Option Method) (es : List (Lazy F)) → Alike (on_method own go none m es) (on_method file go' none m (map (with_files_expr h) es))
      method_same none None es = λ s. refl
      method_same none (Some m) es = λ s. ap (λ x. on_arguments file (go' m) x (state_with h s)) (arguments_put m es) ∙ given_same m (arguments_of m es) s

    of_value_lifted : (x : Datum-F F (Datum F)) (name : List ℕ) (es : List (Lazy F)) → Alike (of_value own x name es) (of_value file (lifted h x) name (map (with_files_expr h) es))
    of_value_lifted (Datum-F.Text t) name es s = method_same (λ m. on_text own m t) (λ m. on_text file m t) (λ m. text_same m t) (no_method name) (text_method name) es s
    of_value_lifted (Datum-F.Dict ps) name es s =
        ap (λ qs. on_method file (λ m. on_dict file m qs) (no_method name) (dict_method name) (map (with_files_expr h) es) (state_with h s)) (pairs_held h ps)
        ∙ method_same (λ m. on_dict own m (map pair_held ps)) (λ m. on_dict file m (map (pair_with h) (map pair_held ps))) (λ m. dict_same m (map pair_held ps)) (no_method name) (dict_method name) es s
    of_value_lifted x name es s = refl

    of_held_lifted : (x : Lazy-F F (Lazy F)) (name : List ℕ) (es : List (Lazy F)) → Alike (of_held own x name es) (of_held file (expr_lifted h x) name (map (with_files_expr h) es))
    of_held_lifted (Lazy-F.Val v) name es s = ap (λ x. of_value file x name (map (with_files_expr h) es) (state_with h s)) (out_with_files h v) ∙ of_value_lifted (out-Datum F v) name es s
    of_held_lifted (Lazy-F.DictOf ps) name es s =
        ap (λ qs. on_method file (λ m. on_dict file m qs) not_settled (dict_method name) (map (with_files_expr h) es) (state_with h s)) (pairs_twice h ps)
        ∙ method_same (λ m. on_dict own m ps) (λ m. on_dict file m (map (pair_with h) ps)) (λ m. dict_same m ps) not_settled (dict_method name) es s
    of_held_lifted x name es s = refl

    pub receiver_same : (e : Lazy F) (name : List ℕ) (es : List (Lazy F)) → Alike (on_receiver own e name es) (on_receiver file (with_files_expr h e) name (map (with_files_expr h) es))
    receiver_same e name es s = ap (λ x. of_held file x name (map (with_files_expr h) es) (state_with h s)) (out_with_files_expr h e) ∙ of_held_lifted (out-Lazy F e) name es s
