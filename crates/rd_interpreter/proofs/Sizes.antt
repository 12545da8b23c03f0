-- How many bytes lists have at least.
use Rattle.std.proofs.Common.{◌≡◌, ℕ, suc, ◌<◌, ◌≤◌, Bool, true, false, ◌&&◌, List, [], ◌∷◌, map, length, length-append, Option, Some, None, refl, sym, ap, ◌∙◌, arith}
use Rattle.std.specs.Prelude.{nat_le}
use borrow.Author.Tests.{lt-leb}
use Rattle.rd_value.specs.declared.value.FileValue.{FileValue}
use Rattle.rd_value.specs.declared.value.Datum.{Datum}
use Rattle.rd_value.specs.declared.value.Datum.TheViews as made
use Rattle.rd_value.specs.declared.value.Datum.TheVariants as value
use Rattle.rd_value.specs.declared.value.Datum.TheOpen.{Datum-F}
use Rattle.rd_value.specs.declared.value.Datum.TheFolds.{fold-roll-Datum}
use Rattle.rd_value.specs.declared.expr.Lazy.{Lazy}
use Rattle.rd_value.specs.declared.expr.Lazy.TheViews as made_expr
use Rattle.rd_value.specs.declared.expr.Lazy.TheVariants as lazy
use Rattle.rd_value.specs.declared.expr.Lazy.TheOpen.{Lazy-F}
use Rattle.rd_value.specs.declared.expr.Lazy.TheFolds.{fold-roll-Lazy}
use Rattle.rd_value.specs.Canon.{canon, canon_at, canon_expr, canon_expr_at, joined}
use Rattle.rd_value.specs.Depth.{depth, depth_expr}
use Rattle.rd_value.specs.Expand.{listed}
use Rattle.rd_value.specs.Limits.{size, size_expr, max_size, max_depth}
use Rattle.rd_value.specs.Make.{with_first, value_of, values_of, list_of}
use Rattle.rd_value.proofs.ExprLayers.{size_call, size_input, size_op, size_list_of, size_dict_of, size_cond, size_map, size_catch}
use Rattle.rd_value.proofs.Ind.{datum_ind, lazy_ind}
use Rattle.rd_interpreter.specs.Making.{is_kept}

at_least_one : (n m : ℕ) → n ≡ m → 1 ≤ m → 1 ≤ n
at_least_one n m e h = omega (arith, e, h)

joined_length : {A : Type 0} (f : A → List ℕ) → ((a : A) → 1 ≤ length (f a)) → (xs : List A) → length xs ≤ length (joined (map f xs))
joined_length f some [] = omega arith
joined_length f some (x ∷ xs) = omega (arith, some x, joined_length f some xs, length-append (f x) (joined (map f xs)))

module _ {F : Type 0} (file : F → FileValue) where
  some_bool : (b : Bool) → 1 ≤ length (canon file (value.Bool b))
  unfolding made.roll-Datum denote.Hole.Carrier.roll
  some_bool true = at_least_one _ _ (ap length (fold-roll-Datum F (List ℕ) (canon_at file) (Datum-F.Bool true))) (omega arith)
  some_bool false = at_least_one _ _ (ap length (fold-roll-Datum F (List ℕ) (canon_at file) (Datum-F.Bool false))) (omega arith)

  -- a value has a byte at least
  pub some_bytes : (v : Datum F) → 1 ≤ length (canon file v)
  unfolding made.roll-Datum denote.Hole.Carrier.roll
  some_bytes =
      datum_ind (λ v. 1 ≤ length (canon file v))
      (at_least_one _ _ (ap length (fold-roll-Datum F (List ℕ) (canon_at file) Datum-F.Nothing)) (omega arith))
      (λ b. some_bool b)
      (λ n. at_least_one _ _ (ap length (fold-roll-Datum F (List ℕ) (canon_at file) (Datum-F.Int n))) (simp length-append (omega arith)))
      (λ t. at_least_one _ _ (ap length (fold-roll-Datum F (List ℕ) (canon_at file) (Datum-F.Text t))) (simp length-append (omega arith)))
      (λ xs h. at_least_one _ _ (ap length (fold-roll-Datum F (List ℕ) (canon_at file) (Datum-F.List xs))) (simp length-append (omega arith)))
      (λ ps h. at_least_one _ _ (ap length (fold-roll-Datum F (List ℕ) (canon_at file) (Datum-F.Dict ps))) (simp length-append (omega arith)))
      (λ f. at_least_one _ _ (ap length (fold-roll-Datum F (List ℕ) (canon_at file) (Datum-F.File f))) (simp length-append (omega arith)))
      (λ e. at_least_one _ _ (ap length (fold-roll-Datum F (List ℕ) (canon_at file) (Datum-F.Error e))) (simp length-append (omega arith)))

  -- a list of values has a byte for each
  pub list_bytes : (vs : List (Datum F)) → length vs ≤ size file (value.List vs)
  unfolding made.roll-Datum denote.Hole.Carrier.roll
  list_bytes vs =
      let e = ap length (fold-roll-Datum F (List ℕ) (canon_at file) (Datum-F.List vs)) in
      let j = joined_length (canon file) some_bytes vs in
      rw e (simp length-append (omega (arith, j)))

  -- an expression has a byte at least
  pub some_expr_bytes : (e : Lazy F) → 1 ≤ size_expr file e
  unfolding made_expr.roll-Lazy denote.Hole.Carrier.roll
  some_expr_bytes =
      lazy_ind (λ e. 1 ≤ size_expr file e)
      (λ v. at_least_one _ _ (ap length (fold-roll-Lazy F (List ℕ) (canon_expr_at file) (Lazy-F.Val v))) (simp length-append (omega arith)))
      (λ t xs ks h i. at_least_one _ _ (size_call file t xs ks) (omega arith))
      (λ p. at_least_one _ _ (size_input file p) (omega arith))
      (λ k xs h. at_least_one _ _ (size_op file k xs) (omega arith))
      (λ xs h. at_least_one _ _ (size_list_of file xs) (omega arith))
      (λ ps h. at_least_one _ _ (size_dict_of file ps) (omega arith))
      (λ a b c h i j. at_least_one _ _ (size_cond file a b c) (omega arith))
      (λ t e h. at_least_one _ _ (size_map file t e) (omega arith))
      (λ e c r h. at_least_one _ _ (size_catch file e c r) (omega arith))

  expr_list_bytes : (es : List (Lazy F)) → length es ≤ size_expr file (lazy.ListOf es)
  expr_list_bytes es = omega (arith, size_list_of file es, joined_length (canon_expr file) some_expr_bytes es)

  with_first_length : (o : Option (Datum F)) (p : Option (List (Datum F))) (vs : List (Datum F)) → with_first o p ≡ Some vs → (ws : List (Datum F)) × (p ≡ Some ws) × (length vs ≡ suc (length ws))
  with_first_length None p vs h = absurd cc
  with_first_length (Some x) None vs h = absurd cc
  with_first_length (Some x) (Some ws) [] h = absurd cc
  with_first_length (Some x) (Some ws) (v ∷ vs) h = let e : ws ≡ vs = cc in (ws, refl, ap (λ l. suc (length l)) (sym e))

  values_length : (es : List (Lazy F)) (vs : List (Datum F)) → values_of es ≡ Some vs → length vs ≡ length es
  values_length [] [] h = refl
  values_length [] (v ∷ vs) h = absurd cc
  values_length (e ∷ es) vs h = let w = with_first_length (value_of e) (values_of es) vs h in w.2 ∙ ap suc (values_length es w.0 w.1)

  past : (n : ℕ) (b : Bool) → max_size < n → (nat_le n max_size && b) ≡ false
  past n b h = rw (lt-leb n max_size h) refl

  long_by : (es : List (Lazy F)) (o : Option (List (Datum F))) → values_of es ≡ o → max_size < length es → is_kept file (list_of es o) ≡ false
  long_by es (Some vs) h more = rw (lazy.outs-Val (value.List vs)) (past (size file (value.List vs)) (nat_le (depth (value.List vs)) max_depth) (omega (arith, list_bytes vs, values_length es vs h, more)))
  long_by es None h more = rw (lazy.outs-ListOf es) (past (size_expr file (lazy.ListOf es)) (nat_le (depth_expr (lazy.ListOf es)) max_depth) (omega (arith, expr_list_bytes es, more)))

  -- a list of more items than bytes may be isn't kept
  pub long_list : (es : List (Lazy F)) → max_size < length es → is_kept file (listed file es) ≡ false
  long_list es more = long_by es (values_of es) refl more
