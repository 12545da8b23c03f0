-- What a body holds, with other files.
use Rattle.std.proofs.Common.{◌≡◌, List, [], ◌∷◌, map, length, Option, None, Some, Result, Ok, Err, refl, sym, ap, ◌∙◌}
use Rattle.std.specs.Option.{option_map}
use Rattle.std.specs.Str.{chars}
use Rattle.rd_value.specs.declared.value.ErrorValue.{ErrorValue}
use Rattle.rd_value.specs.declared.value.Datum.{Datum, out-Datum}
use Rattle.rd_value.specs.declared.value.Datum.TheViews as made
use Rattle.rd_value.specs.declared.value.Datum.TheVariants as value
use Rattle.rd_value.specs.declared.value.Datum.TheOpen.{Datum-F}
use Rattle.rd_value.specs.declared.value.Datum.TheFolds.{fold-roll-Datum}
use Rattle.rd_value.specs.declared.expr.OpKind.{OpKind}
use Rattle.rd_value.specs.declared.expr.Lazy.{Lazy, out-Lazy}
use Rattle.rd_value.specs.declared.expr.Lazy.TheViews as made_expr
use Rattle.rd_value.specs.declared.expr.Lazy.TheVariants as lazy
use Rattle.rd_value.specs.declared.expr.Lazy.TheOpen.{Lazy-F}
use Rattle.rd_value.specs.declared.expr.Lazy.TheFolds.{map-Lazy, fold-roll-Lazy}
use Rattle.rd_value.specs.Compare.{number_at}
use Rattle.rd_value.specs.Erase.{with_file, with_files, with_files_key, with_file_expr, with_files_expr}
use Rattle.rd_value.specs.Make.{is_key, is_key_at}
use Rattle.rd_value.specs.Operators.{character}
use Rattle.rd_value.proofs.Erased.{text_with_files}
use Rattle.rd_value.proofs.ErasedCompare.{lifted, out_with_files, number_lifted, truth_with_files}
use Rattle.rd_value.proofs.ErasedExpand.{val_with_files, out_with_files_expr, value_with_files}
use Rattle.rd_value.proofs.ErasedOperators.{count_map}
use Rattle.rd_interpreter.specs.Held.{pair_held, items_of, items_at, items_of_value, or_not_settled, settled, truth_of, truth_at, iterated_value, iterated_value_at, all_held, iterated, iterated_at}
use Rattle.rd_interpreter.specs.Making.{making, making_at, making_held, making_held_at}
use Rattle.rd_interpreter.specs.Operations.{number_of}
use Rattle.rd_body.proofs.ErasedParts.{mapped}

-- ---- lists

pub square : {A B C D : Type 0} (f : A → B) (g : B → D) (k : A → C) (l : C → D) → ((x : A) → g (f x) ≡ l (k x)) → (xs : List A) → map g (map f xs) ≡ map l (map k xs)
square f g k l e [] = refl
square f g k l e (x ∷ xs) = ap (λ y. y ∷ map g (map f xs)) (e x) ∙ ap (λ ys. l (k x) ∷ ys) (square f g k l e xs)

pub fused : {A B C : Type 0} (f : A → B) (g : B → C) (k : A → C) → ((x : A) → g (f x) ≡ k x) → (xs : List A) → map g (map f xs) ≡ map k xs
fused f g k e [] = refl
fused f g k e (x ∷ xs) = ap (λ y. y ∷ map g (map f xs)) (e x) ∙ ap (λ ys. k x ∷ ys) (fused f g k e xs)

pub or_not_settled_put : {A B : Type 0} (k : A → B) (o : Option A) → or_not_settled (option_map k o) ≡ mapped k (or_not_settled o)
or_not_settled_put k None = refl
or_not_settled_put k (Some a) = refl

module _ {F G : Type 0} (h : F → G) where
  -- a key and what is held under it
  abbrev pub pair_with : Datum F × Lazy F → Datum G × Lazy G
  pair_with p = (with_files h p.0, with_files_expr h p.1)

  -- a key and its value
  abbrev pub value_pair_with : Datum F × Datum F → Datum G × Datum G
  value_pair_with p = (with_files h p.0, with_files h p.1)

  -- one layer, with its parts
  abbrev pub expr_lifted : Lazy-F F (Lazy F) → Lazy-F G (Lazy G)
  expr_lifted x = with_file_expr h (map-Lazy F (Lazy F) (Lazy G) (with_files_expr h) x)

  pub vals : (vs : List (Datum F)) → map lazy.Val (map (with_files h) vs) ≡ map (with_files_expr h) (map lazy.Val vs)
  vals vs = sym (square lazy.Val (with_files_expr h) (with_files h) lazy.Val (val_with_files h) vs)

  abbrev seconds : List (Datum F × Lazy F) → List (Datum F × Lazy G)
  seconds ps = map (λ p. (p.0, with_files_expr h p.1)) ps

  pub pairs_twice : (ps : List (Datum F × Lazy F)) → map (with_files_key h) (seconds ps) ≡ map pair_with ps
  pairs_twice ps = fused (λ p. (p.0, with_files_expr h p.1)) (with_files_key h) pair_with (λ p. refl) ps

  pub pairs_held : (ps : List (Datum F × Datum F)) → map pair_held (map value_pair_with ps) ≡ map pair_with (map pair_held ps)
  pairs_held ps = square value_pair_with pair_held pair_held pair_with (λ p. ap (λ e. (with_files h p.0, e)) (sym (val_with_files h p.1))) ps

  pub nothing_with_files : with_files h value.Nothing ≡ value.Nothing
  unfolding made.roll-Datum denote.Hole.Carrier.roll
  nothing_with_files = fold-roll-Datum F (Datum G) (λ x. made.roll-Datum G (with_file h x)) Datum-F.Nothing

  pub dict_with_files : (ps : List (Datum F × Datum F)) → with_files h (value.Dict ps) ≡ value.Dict (map value_pair_with ps)
  unfolding made.roll-Datum denote.Hole.Carrier.roll
  dict_with_files ps = fold-roll-Datum F (Datum G) (λ x. made.roll-Datum G (with_file h x)) (Datum-F.Dict ps)

  dict_of_parts : (ps : List (Datum F × Lazy F)) → with_files_expr h (lazy.DictOf ps) ≡ lazy.DictOf (map (with_files_key h) (seconds ps))
  unfolding made_expr.roll-Lazy denote.Hole.Carrier.roll
  dict_of_parts ps = fold-roll-Lazy F (Lazy G) (λ x. made_expr.roll-Lazy G (with_file_expr h x)) (Lazy-F.DictOf ps)

  pub dict_of_with_files : (ps : List (Datum F × Lazy F)) → with_files_expr h (lazy.DictOf ps) ≡ lazy.DictOf (map pair_with ps)
  dict_of_with_files ps = dict_of_parts ps ∙ ap lazy.DictOf (pairs_twice ps)

  pub op_of_with_files : (kind : OpKind) (es : List (Lazy F)) → with_files_expr h (lazy.Op kind es) ≡ lazy.Op kind (map (with_files_expr h) es)
  unfolding made_expr.roll-Lazy denote.Hole.Carrier.roll
  op_of_with_files kind es = fold-roll-Lazy F (Lazy G) (λ x. made_expr.roll-Lazy G (with_file_expr h x)) (Lazy-F.Op kind es)

  -- ---- values

  pub number_with_files : (v : Datum F) → number_of (with_files h v) ≡ number_of v
  number_with_files v = ap number_at (out_with_files h v) ∙ number_lifted h (out-Datum F v)

  key_lifted : (x : Datum-F F (Datum F)) → is_key_at (lifted h x) ≡ is_key_at x
  key_lifted (Datum-F.Int n) = refl
  key_lifted (Datum-F.Text t) = refl
  key_lifted x = refl

  pub is_key_with_files : (v : Datum F) → is_key (with_files h v) ≡ is_key v
  is_key_with_files v = ap is_key_at (out_with_files h v) ∙ key_lifted (out-Datum F v)

  pub settled_with_files : (e : Lazy F) → settled (with_files_expr h e) ≡ mapped (with_files h) (settled e)
  settled_with_files e = ap or_not_settled (value_with_files h e) ∙ or_not_settled_put (with_files h) _

  -- ---- lists

  items_of_value_lifted : (x : Datum-F F (Datum F)) → items_of_value (lifted h x) ≡ option_map (map (with_files_expr h)) (items_of_value x)
  items_of_value_lifted (Datum-F.List vs) = ap Some (vals vs)
  items_of_value_lifted x = refl

  items_lifted : (x : Lazy-F F (Lazy F)) → items_at (expr_lifted x) ≡ option_map (map (with_files_expr h)) (items_at x)
  items_lifted (Lazy-F.Val v) = ap items_of_value (out_with_files h v) ∙ items_of_value_lifted (out-Datum F v)
  items_lifted (Lazy-F.ListOf es) = refl
  items_lifted x = refl

  pub items_with_files : (e : Lazy F) → items_of (with_files_expr h e) ≡ option_map (map (with_files_expr h)) (items_of e)
  items_with_files e = ap items_at (out_with_files_expr h e) ∙ items_lifted (out-Lazy F e)

  -- ---- truth

  truth_lifted : (x : Lazy-F F (Lazy F)) → truth_at (expr_lifted x) ≡ truth_at x
  truth_lifted (Lazy-F.Val v) = ap Ok (truth_with_files h v)
  truth_lifted (Lazy-F.ListOf []) = refl
  truth_lifted (Lazy-F.ListOf (e ∷ es)) = refl
  truth_lifted (Lazy-F.DictOf []) = refl
  truth_lifted (Lazy-F.DictOf (p ∷ ps)) = refl
  truth_lifted x = refl

  pub truth_of_with_files : (e : Lazy F) → truth_of (with_files_expr h e) ≡ truth_of e
  truth_of_with_files e = ap truth_at (out_with_files_expr h e) ∙ truth_lifted (out-Lazy F e)

  -- ---- what a loop goes through

  iterated_value_lifted : (x : Datum-F F (Datum F)) → iterated_value_at (lifted h x) ≡ mapped (map (with_files h)) (iterated_value_at x)
  iterated_value_lifted (Datum-F.List vs) = refl
  iterated_value_lifted (Datum-F.Dict ps) = ap Ok (square value_pair_with (λ p. p.0) (λ p. p.0) (with_files h) (λ p. refl) ps)
  iterated_value_lifted (Datum-F.Text t) = ap Ok (sym (fused character (with_files h) character (λ c. text_with_files h _) (chars t)))
  iterated_value_lifted x = refl

  pub iterated_value_with_files : (v : Datum F) → iterated_value (with_files h v) ≡ mapped (map (with_files h)) (iterated_value v)
  iterated_value_with_files v = ap iterated_value_at (out_with_files h v) ∙ iterated_value_lifted (out-Datum F v)

  all_held_put : (r : Result (List (Datum F)) ErrorValue) → all_held (mapped (map (with_files h)) r) ≡ mapped (map (with_files_expr h)) (all_held r)
  all_held_put (Ok vs) = ap Ok (vals vs)
  all_held_put (Err e) = refl

  pub keys_held : (ps : List (Datum F × Lazy F)) → map (λ p. lazy.Val p.0) (map pair_with ps) ≡ map (with_files_expr h) (map (λ p. lazy.Val p.0) ps)
  keys_held ps = square pair_with (λ p. lazy.Val p.0) (λ p. lazy.Val p.0) (with_files_expr h) (λ p. sym (val_with_files h p.0)) ps

  iterated_lifted : (x : Lazy-F F (Lazy F)) → iterated_at (expr_lifted x) ≡ mapped (map (with_files_expr h)) (iterated_at x)
  iterated_lifted (Lazy-F.Val v) = ap all_held (iterated_value_with_files v) ∙ all_held_put (iterated_value v)
  iterated_lifted (Lazy-F.ListOf es) = refl
  iterated_lifted (Lazy-F.DictOf ps) = ap (λ qs. Ok (map (λ p. lazy.Val p.0) qs)) (pairs_twice ps) ∙ ap Ok (keys_held ps)
  iterated_lifted x = refl

  pub iterated_with_files : (e : Lazy F) → iterated (with_files_expr h e) ≡ mapped (map (with_files_expr h)) (iterated e)
  iterated_with_files e = ap iterated_at (out_with_files_expr h e) ∙ iterated_lifted (out-Lazy F e)

  -- ---- the steps of making

  making_lifted : (x : Datum-F F (Datum F)) → making_at (lifted h x) ≡ making_at x
  making_lifted (Datum-F.Text t) = refl
  making_lifted (Datum-F.List vs) = count_map (with_files h) vs
  making_lifted (Datum-F.Dict ps) = count_map value_pair_with ps
  making_lifted x = refl

  pub making_with_files : (v : Datum F) → making (with_files h v) ≡ making v
  making_with_files v = ap making_at (out_with_files h v) ∙ making_lifted (out-Datum F v)

  making_held_lifted : (x : Lazy-F F (Lazy F)) → making_held_at (expr_lifted x) ≡ making_held_at x
  making_held_lifted (Lazy-F.Val v) = making_with_files v
  making_held_lifted (Lazy-F.ListOf es) = count_map (with_files_expr h) es
  making_held_lifted (Lazy-F.DictOf ps) = ap length (pairs_twice ps) ∙ count_map pair_with ps
  making_held_lifted x = refl

  pub making_held_with_files : (e : Lazy F) → making_held (with_files_expr h e) ≡ making_held e
  making_held_with_files e = ap making_held_at (out_with_files_expr h e) ∙ making_held_lifted (out-Lazy F e)
