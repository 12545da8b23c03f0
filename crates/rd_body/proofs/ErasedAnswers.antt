-- What a body answers in no steps, with other files.
use Rattle.std.proofs.Common.{◌≡◌, ℕ, Bool, true, false, List, [], ◌∷◌, map, cond, Option, None, Some, Ok, Err, refl, sym, ap, ◌∙◌}
use Rattle.std.specs.Option.{option_map}
use Rattle.rd_value.specs.declared.class.Class.{Class}
use Rattle.rd_value.specs.declared.value.FileValue.{FileValue}
use Rattle.rd_value.specs.declared.value.Datum.{Datum, out-Datum}
use Rattle.rd_value.specs.declared.value.Datum.TheVariants as value
use Rattle.rd_value.specs.declared.value.Datum.TheOpen.{Datum-F}
use Rattle.rd_value.specs.declared.expr.Lazy.{Lazy, out-Lazy}
use Rattle.rd_value.specs.declared.expr.Lazy.TheViews as made_expr
use Rattle.rd_value.specs.declared.expr.Lazy.TheVariants as lazy
use Rattle.rd_value.specs.declared.expr.Lazy.TheOpen.{Lazy-F}
use Rattle.rd_value.specs.declared.expr.Lazy.TheFolds.{fold-roll-Lazy}
use Rattle.rd_value.specs.Compare.{equal}
use Rattle.rd_value.specs.Erase.{with_files, with_file_expr, with_files_expr}
use Rattle.rd_value.specs.Make as make
use Rattle.rd_value.specs.Make.{is_key, value_of, with_first, dict_of}
use Rattle.rd_value.specs.Operators.{bad_operand}
use Rattle.rd_value.proofs.Erased.{int_with_files, text_with_files}
use Rattle.rd_value.proofs.ErasedCompare.{lifted, out_with_files, equal_with_files}
use Rattle.rd_value.proofs.ErasedExpand.{val_with_files, out_with_files_expr, value_with_files}
use Rattle.rd_value.proofs.ErasedOperators.{bool_with_files}
use Rattle.rd_interpreter.specs.Held.{settled}
use Rattle.rd_interpreter.specs.Methods.{text_of}
use Rattle.rd_interpreter.specs.Body.{literal, literal_at, with_pair, key_held, with_pairs, raised_text, raising, path_of_value, path_at, path_of}
use Rattle.rd_body.proofs.ErasedParts.{mapped}
use Rattle.rd_body.proofs.ErasedHeld.{pair_with, value_pair_with, expr_lifted, nothing_with_files, dict_with_files, dict_of_with_files, is_key_with_files, settled_with_files}
use Rattle.rd_body.proofs.ErasedMaking.{before}
use Rattle.rd_body.proofs.ErasedBuiltins.{then_put, tested_put}
use Rattle.rd_body.proofs.ErasedMethods.{text_of_with_files}

firsts_put : {A B : Type 0} (k : A → B) (o : Option A) (os : Option (List A)) → with_first (option_map k o) (option_map (map k) os) ≡ option_map (map k) (with_first o os)
firsts_put k (Some a) (Some as') = refl
firsts_put k (Some a) None = refl
firsts_put k None os = refl

module _ {F G : Type 0} (h : F → G) where
  -- a keyword with what it is given
  abbrev pub keyword_with : List ℕ × Lazy F → List ℕ × Lazy G
  keyword_with k = (k.0, with_files_expr h k.1)

  -- both sides of a pair
  abbrev pub sides_with : Lazy F × Lazy F → Lazy G × Lazy G
  sides_with p = (with_files_expr h p.0, with_files_expr h p.1)

  pub call_of_with_files : (task : List ℕ) (es : List (Lazy F)) (ks : List (List ℕ × Lazy F)) → with_files_expr h (lazy.Call task es ks) ≡ lazy.Call task (map (with_files_expr h) es) (map keyword_with ks)
  unfolding made_expr.roll-Lazy denote.Hole.Carrier.roll
  call_of_with_files task es ks = fold-roll-Lazy F (Lazy G) (λ x. made_expr.roll-Lazy G (with_file_expr h x)) (Lazy-F.Call task es ks)

  pub cond_of_with_files : (a b c : Lazy F) → with_files_expr h (lazy.Cond a b c) ≡ lazy.Cond (with_files_expr h a) (with_files_expr h b) (with_files_expr h c)
  unfolding made_expr.roll-Lazy denote.Hole.Carrier.roll
  cond_of_with_files a b c = fold-roll-Lazy F (Lazy G) (λ x. made_expr.roll-Lazy G (with_file_expr h x)) (Lazy-F.Cond a b c)

  pub map_of_with_files : (task : List ℕ) (e : Lazy F) → with_files_expr h (lazy.Map task e) ≡ lazy.Map task (with_files_expr h e)
  unfolding made_expr.roll-Lazy denote.Hole.Carrier.roll
  map_of_with_files task e = fold-roll-Lazy F (Lazy G) (λ x. made_expr.roll-Lazy G (with_file_expr h x)) (Lazy-F.Map task e)

  pub catch_of_with_files : (e : Lazy F) (class : Class) (recover : List ℕ) → with_files_expr h (lazy.Catch e class recover) ≡ lazy.Catch (with_files_expr h e) class recover
  unfolding made_expr.roll-Lazy denote.Hole.Carrier.roll
  catch_of_with_files e class recover = fold-roll-Lazy F (Lazy G) (λ x. made_expr.roll-Lazy G (with_file_expr h x)) (Lazy-F.Catch e class recover)

  held_value : (v : Datum F) (w : Datum G) → with_files h v ≡ w → lazy.Val w ≡ with_files_expr h (lazy.Val v)
  held_value v w e = sym (val_with_files h v ∙ ap lazy.Val e)

  pub nothing_held : lazy.Val value.Nothing ≡ with_files_expr h (lazy.Val value.Nothing)
  nothing_held = held_value value.Nothing value.Nothing (nothing_with_files h)

  pub literal_at_put : (x : Datum-F FileValue (Datum FileValue)) → with_files h (literal_at x) ≡ literal_at x
  literal_at_put (Datum-F.Bool b) = bool_with_files h b
  literal_at_put (Datum-F.Int n) = int_with_files h n
  literal_at_put (Datum-F.Text t) = text_with_files h t
  literal_at_put x = nothing_with_files h

  pub literal_put : (v : Datum FileValue) → literal v ≡ with_files_expr h (literal v)
  literal_put v = held_value (literal_at (out-Datum FileValue v)) (literal_at (out-Datum FileValue v)) (literal_at_put (out-Datum FileValue v))

  -- ---- raising

  raised_text_put : {A B : Type 0} (k : A → B) (class : Class) (o : Option (List ℕ)) → raised_text class o ≡ mapped k (raised_text class o)
  raised_text_put k class (Some t) = refl
  raised_text_put k class None = refl

  pub raising_put : {A B : Type 0} (k : A → B) (class : Class) (e : Lazy F) → raising class (with_files_expr h e) ≡ mapped k (raising class e)
  raising_put k class e =
      then_put (with_files h) k (settled e) (settled (with_files_expr h e)) (λ v. raised_text class (text_of v)) (λ v. raised_text class (text_of v)) (settled_with_files h e)
      (λ v. ap (raised_text class) (text_of_with_files h v) ∙ raised_text_put k class (text_of v))

  -- ---- dicts

  key_held_put : (o : Option (Datum F)) → key_held (option_map (with_files h) o) ≡ mapped (with_files h) (key_held o)
  key_held_put None = refl
  key_held_put (Some v) = tested_put (with_files h) (is_key v) (is_key (with_files h v)) (Ok v) (Err bad_operand) _ (Err bad_operand) (is_key_with_files h v) refl refl

  under_first : (v : Datum F) (o : Option (Datum F)) → option_map (λ w. (with_files h v, w)) (option_map (with_files h) o) ≡ option_map (value_pair_with h) (option_map (λ w. (v, w)) o)
  under_first v None = refl
  under_first v (Some w) = refl

  pairs_put : (ps : List (Datum F × Lazy F)) → make.pairs_of (map (pair_with h) ps) ≡ option_map (map (value_pair_with h)) (make.pairs_of ps)
  pairs_put [] = refl
  pairs_put (p ∷ ps) =
      ap (λ o. with_first (option_map (λ w. (with_files h p.0, w)) o) (make.pairs_of (map (pair_with h) ps))) (value_with_files h p.1)
      ∙ ap (λ o. with_first o (make.pairs_of (map (pair_with h) ps))) (under_first p.0 (value_of p.1))
      ∙ ap (with_first (option_map (value_pair_with h) (option_map (λ w. (p.0, w)) (value_of p.1)))) (pairs_put ps)
      ∙ firsts_put (value_pair_with h) (option_map (λ w. (p.0, w)) (value_of p.1)) (make.pairs_of ps)

  dict_of_either : (ps : List (Datum F × Lazy F)) (o : Option (List (Datum F × Datum F))) → dict_of (map (pair_with h) ps) (option_map (map (value_pair_with h)) o) ≡ with_files_expr h (dict_of ps o)
  dict_of_either ps (Some vs) = held_value (value.Dict vs) (value.Dict (map (value_pair_with h) vs)) (dict_with_files h vs)
  dict_of_either ps None = sym (dict_of_with_files h ps)

  pub dict_put : (ps : List (Datum F × Lazy F)) → dict_of (map (pair_with h) ps) (make.pairs_of (map (pair_with h) ps)) ≡ with_files_expr h (dict_of ps (make.pairs_of ps))
  dict_put ps = ap (dict_of (map (pair_with h) ps)) (pairs_put ps) ∙ dict_of_either ps (make.pairs_of ps)

module _ {F G : Type 0} (h : F → G) (file : G → FileValue) where
  abbrev own : F → FileValue
  own = before h file

  with_pair_by : (b c : Bool) → c ≡ b → (p : Datum F × Lazy F) (v : Lazy F) (ps qs : List (Datum F × Lazy F)) (rest : List (Datum G × Lazy G)) → rest ≡ map (pair_with h) qs
      → cond c ((with_files h p.0, with_files_expr h v) ∷ map (pair_with h) ps) (pair_with h p ∷ rest) ≡ map (pair_with h) (cond b ((p.0, v) ∷ ps) (p ∷ qs))
  with_pair_by true c e p v ps qs rest u = ap (λ d. cond d ((with_files h p.0, with_files_expr h v) ∷ map (pair_with h) ps) (pair_with h p ∷ rest)) e
  with_pair_by false c e p v ps qs rest u = ap (λ d. cond d ((with_files h p.0, with_files_expr h v) ∷ map (pair_with h) ps) (pair_with h p ∷ rest)) e ∙ ap (λ rs. pair_with h p ∷ rs) u

  with_pair_put : (k : Datum F) (v : Lazy F) (ps : List (Datum F × Lazy F)) → with_pair file (with_files h k) (with_files_expr h v) (map (pair_with h) ps) ≡ map (pair_with h) (with_pair own k v ps)
  with_pair_put k v [] = refl
  with_pair_put k v (p ∷ ps) = with_pair_by (equal own p.0 k) (equal file (with_files h p.0) (with_files h k)) (equal_with_files h file p.0 k) p v ps (with_pair own k v ps) _ (with_pair_put k v ps)

  pub with_pairs_put : (ps : List (Lazy F × Lazy F)) (done : List (Datum F × Lazy F)) → with_pairs file (map (sides_with h) ps) (map (pair_with h) done) ≡ mapped (map (pair_with h)) (with_pairs own ps done)
  with_pairs_put [] done = refl
  with_pairs_put (p ∷ ps) done =
      then_put (with_files h) (map (pair_with h)) (key_held (value_of p.0)) (key_held (value_of (with_files_expr h p.0))) (λ k. with_pairs own ps (with_pair own k p.1 done))
      (λ k. with_pairs file (map (sides_with h) ps) (with_pair file k (with_files_expr h p.1) (map (pair_with h) done)))
      (ap key_held (value_with_files h p.0) ∙ key_held_put h (value_of p.0))
      (λ k. ap (with_pairs file (map (sides_with h) ps)) (with_pair_put k p.1 done) ∙ with_pairs_put ps (with_pair own k p.1 done))

  -- ---- the path of a file

  text_held : (t : List ℕ) → lazy.Val (value.Text t) ≡ with_files_expr h (lazy.Val (value.Text t))
  text_held t = held_value h (value.Text t) (value.Text t) (text_with_files h t)

  path_of_value_put : (x : Datum-F F (Datum F)) → path_of_value file (lifted h x) ≡ mapped (with_files_expr h) (path_of_value own x)
  path_of_value_put (Datum-F.File f) = ap Ok (text_held (file (h f)).path)
  path_of_value_put x = refl

  path_lifted : (x : Lazy-F F (Lazy F)) → path_at file (expr_lifted h x) ≡ mapped (with_files_expr h) (path_at own x)
  path_lifted (Lazy-F.Val v) = ap (path_of_value file) (out_with_files h v) ∙ path_of_value_put (out-Datum F v)
  path_lifted (Lazy-F.Input path) = ap Ok (text_held path)
  path_lifted x = refl

  pub path_put : (e : Lazy F) → path_of file (with_files_expr h e) ≡ mapped (with_files_expr h) (path_of own e)
  path_put e = ap (path_at file) (out_with_files_expr h e) ∙ path_lifted (out-Lazy F e)
