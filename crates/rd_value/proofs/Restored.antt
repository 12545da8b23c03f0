-- Values over one book are told apart by their erasures.
use Rattle.std.proofs.Common.{◌≡◌, ℕ, Bool, true, false, ◌&&◌, ◌||◌, refl, sym, ap, ◌∙◌, List, [], ◌∷◌, ◌++◌, map, cond}
use mathlib.Core.Bool.{true≢false}
use Rattle.std.specs.List.{list_any, list_all}
use Rattle.std.specs.Str.{bytes_eq}
use Rattle.sha2.specs.Sha256.{sha256}
use Rattle.std.proofs.lemmas.Slice.Eq.{bytes_eq-Decides}
use Rattle.rd_value.specs.declared.class.Class.{Class}
use Rattle.rd_value.specs.declared.value.FileValue.{FileValue}
use Rattle.rd_value.specs.declared.value.Datum.{Datum}
use Rattle.rd_value.specs.declared.value.Datum.TheViews as made
use Rattle.rd_value.specs.declared.value.Datum.TheVariants as variant
use Rattle.rd_value.specs.declared.value.Datum.TheOpen.{Datum-F}
use Rattle.rd_value.specs.declared.value.Datum.TheFolds.{fold-roll-Datum, map-Datum}
use Rattle.rd_value.specs.declared.expr.Lazy.{Lazy}
use Rattle.rd_value.specs.declared.expr.Lazy.TheViews as lazy
use Rattle.rd_value.specs.declared.expr.Lazy.TheVariants as expr
use Rattle.rd_value.specs.declared.expr.Lazy.TheOpen.{Lazy-F}
use Rattle.rd_value.specs.declared.expr.Lazy.TheFolds.{fold-roll-Lazy, map-Lazy}
use Rattle.rd_value.specs.Book.{holds, IsBook, holds_file, is_over, is_over_expr}
use Rattle.rd_value.specs.Erase.{with_file, with_files, with_files_key, with_file_expr, with_files_expr, erase, erase_expr}
use Rattle.rd_value.specs.Files.{files, files_at, gathered, both, second, with_key, files_expr, files_expr_at}
use Rattle.rd_value.specs.Model.{ModelFile, ModelValue, ModelExpr, file_of}
use Rattle.rd_value.proofs.Erased.{fold_with_files}
use Rattle.rd_value.proofs.ErasedExprs.{fold_with_files_expr}
use Rattle.rd_value.proofs.Ind.{Each, EachPair, EachSecond, datum_ind, lazy_ind}

-- ---- tests of lists

and_first : (a b : Bool) → (a && b) ≡ true → a ≡ true
and_first true b h = refl
and_first false b h = h

and_second : (a b : Bool) → (a && b) ≡ true → b ≡ true
and_second true b h = h
and_second false b h = absurd (true≢false (sym h))

module _ {A : Type 0} (p : A → Bool) where
  all_left : (xs ys : List A) → list_all p (xs ++ ys) ≡ true → list_all p xs ≡ true
  all_left [] ys h = refl
  all_left (x ∷ xs) ys h = rw (and_first (p x) _ h) (all_left xs ys (and_second (p x) _ h))

  all_right : (xs ys : List A) → list_all p (xs ++ ys) ≡ true → list_all p ys ≡ true
  all_right [] ys h = h
  all_right (x ∷ xs) ys h = all_right xs ys (and_second (p x) _ h)

-- ---- two changes of files are one

module _ {F G H : Type 0} (g : F → G) (h : G → H) where
  twice : (v : Datum F) → with_files h (with_files g v) ≡ with_files (λ f. h (g f)) v
  twice = fold_with_files g (λ x. made.roll-Datum H (with_file (λ f. h (g f)) x)) (λ x. made.roll-Datum H (with_file h x))
      (elim [ Datum-F.Nothing ↦ refl | Datum-F.Bool b ↦ refl | Datum-F.Int n ↦ refl | Datum-F.Text t ↦ refl | Datum-F.List xs ↦ refl | Datum-F.Dict ps ↦ refl | Datum-F.File f ↦ refl | Datum-F.Error e ↦ refl ])

  twice_keys : {X : Type 0} (ps : List (Datum F × X)) → map (with_files_key h) (map (with_files_key g) ps) ≡ map (with_files_key (λ f. h (g f))) ps
  twice_keys [] = refl
  twice_keys (p ∷ ps) = rw (twice p.0, twice_keys ps) refl

  twice_at : (x : Lazy-F F (Lazy H)) → lazy.roll-Lazy H (with_file_expr h (with_file_expr g x)) ≡ lazy.roll-Lazy H (with_file_expr (λ f. h (g f)) x)
  twice_at (Lazy-F.Val v) = ap (λ w. lazy.roll-Lazy H (Lazy-F.Val w)) (twice v)
  twice_at (Lazy-F.Call task xs ks) = refl
  twice_at (Lazy-F.Input path) = refl
  twice_at (Lazy-F.Op op xs) = refl
  twice_at (Lazy-F.ListOf xs) = refl
  twice_at (Lazy-F.DictOf ps) = ap (λ qs. lazy.roll-Lazy H (Lazy-F.DictOf qs)) (twice_keys ps)
  twice_at (Lazy-F.Cond a b c) = refl
  twice_at (Lazy-F.Map task e) = refl
  twice_at (Lazy-F.Catch e class recover) = refl

  twice_expr : (e : Lazy F) → with_files_expr h (with_files_expr g e) ≡ with_files_expr (λ f. h (g f)) e
  twice_expr = fold_with_files_expr g (λ x. lazy.roll-Lazy H (with_file_expr (λ f. h (g f)) x)) (λ x. lazy.roll-Lazy H (with_file_expr h x)) twice_at

-- ---- a change that leaves each file as it is

module _ {F : Type 0} (k : F → F) (ok : F → Bool) (same : (f : F) → ok f ≡ true → k f ≡ f) where
  abbrev Kept : Datum F → Type 0
  Kept v = list_all ok (files v) ≡ true → with_files k v ≡ v

  layer : (x : Datum-F F (Datum F)) → with_files k (made.roll-Datum F x) ≡ made.roll-Datum F (with_file k (map-Datum F (Datum F) (Datum F) (with_files k) x))
  layer x = fold-roll-Datum F (Datum F) (λ y. made.roll-Datum F (with_file k y)) x

  kept_items : (xs : List (Datum F)) → Each Kept xs → list_all ok (gathered (map files xs)) ≡ true → map (with_files k) xs ≡ xs
  kept_items [] hs o = refl
  kept_items (x ∷ xs) hs o = rw (hs.0 (all_left ok (files x) _ o), kept_items xs hs.1 (all_right ok (files x) _ o)) refl

  kept_pairs : (ps : List (Datum F × Datum F)) → EachPair Kept ps → list_all ok (gathered (map both (map (λ p. (files p.0, files p.1)) ps))) ≡ true → map (λ p. (with_files k p.0, with_files k p.1)) ps ≡ ps
  kept_pairs [] hs o = refl
  kept_pairs (p ∷ ps) hs o =
      let here = all_left ok (files p.0 ++ files p.1) _ o in
      rw (hs.0.0 (all_left ok (files p.0) (files p.1) here), hs.0.1 (all_right ok (files p.0) (files p.1) here), kept_pairs ps hs.1 (all_right ok (files p.0 ++ files p.1) _ o)) refl

  files_layer : (x : Datum-F F (Datum F)) → files (made.roll-Datum F x) ≡ files_at (map-Datum F (Datum F) (List F) files x)
  files_layer x = fold-roll-Datum F (List F) files_at x

  told : (x : Datum-F F (Datum F)) → list_all ok (files (made.roll-Datum F x)) ≡ true → list_all ok (files_at (map-Datum F (Datum F) (List F) files x)) ≡ true
  told x h = sym (ap (list_all ok) (files_layer x)) ∙ h

  pub kept_value : (v : Datum F) → Kept v
  unfolding made.roll-Datum denote.Hole.Carrier.roll
  kept_value = datum_ind Kept
      (λ o. layer Datum-F.Nothing)
      (λ b o. layer (Datum-F.Bool b))
      (λ n o. layer (Datum-F.Int n))
      (λ t o. layer (Datum-F.Text t))
      (λ xs hs o. layer (Datum-F.List xs) ∙ ap variant.List (kept_items xs hs (told (Datum-F.List xs) o)))
      (λ ps hs o. layer (Datum-F.Dict ps) ∙ ap variant.Dict (kept_pairs ps hs (told (Datum-F.Dict ps) o)))
      (λ f o. layer (Datum-F.File f) ∙ ap variant.File (same f (and_first (ok f) true (told (Datum-F.File f) o))))
      (λ e o. layer (Datum-F.Error e))

  -- ---- the same of expressions

  abbrev KeptExpr : Lazy F → Type 0
  KeptExpr e = list_all ok (files_expr e) ≡ true → with_files_expr k e ≡ e

  layer_expr : (x : Lazy-F F (Lazy F)) → with_files_expr k (lazy.roll-Lazy F x) ≡ lazy.roll-Lazy F (with_file_expr k (map-Lazy F (Lazy F) (Lazy F) (with_files_expr k) x))
  layer_expr x = fold-roll-Lazy F (Lazy F) (λ y. lazy.roll-Lazy F (with_file_expr k y)) x

  told_expr : (x : Lazy-F F (Lazy F)) → list_all ok (files_expr (lazy.roll-Lazy F x)) ≡ true → list_all ok (files_expr_at (map-Lazy F (Lazy F) (List F) files_expr x)) ≡ true
  told_expr x h = sym (ap (list_all ok) (fold-roll-Lazy F (List F) files_expr_at x)) ∙ h

  kept_parts : (xs : List (Lazy F)) → Each KeptExpr xs → list_all ok (gathered (map files_expr xs)) ≡ true → map (with_files_expr k) xs ≡ xs
  kept_parts [] hs o = refl
  kept_parts (x ∷ xs) hs o = rw (hs.0 (all_left ok (files_expr x) _ o), kept_parts xs hs.1 (all_right ok (files_expr x) _ o)) refl

  kept_keywords : (ks : List (List ℕ × Lazy F)) → EachSecond KeptExpr ks → list_all ok (gathered (map second (map (λ p. (p.0, files_expr p.1)) ks))) ≡ true → map (λ p. (p.0, with_files_expr k p.1)) ks ≡ ks
  kept_keywords [] hs o = refl
  kept_keywords (p ∷ ps) hs o = rw (hs.0 (all_left ok (files_expr p.1) _ o), kept_keywords ps hs.1 (all_right ok (files_expr p.1) _ o)) refl

  kept_keys : (ps : List (Datum F × Lazy F)) → EachSecond KeptExpr ps → list_all ok (gathered (map with_key (map (λ p. (p.0, files_expr p.1)) ps))) ≡ true → map (with_files_key k) (map (λ p. (p.0, with_files_expr k p.1)) ps) ≡ ps
  kept_keys [] hs o = refl
  kept_keys (p ∷ ps) hs o =
      let here = all_left ok (files p.0 ++ files_expr p.1) _ o in
      rw (kept_value p.0 (all_left ok (files p.0) (files_expr p.1) here), hs.0 (all_right ok (files p.0) (files_expr p.1) here), kept_keys ps hs.1 (all_right ok (files p.0 ++ files_expr p.1) _ o)) refl

  pub kept_expr : (e : Lazy F) → KeptExpr e
  unfolding lazy.roll-Lazy denote.Hole.Carrier.roll
  kept_expr = lazy_ind KeptExpr
      (λ v o. layer_expr (Lazy-F.Val v) ∙ ap expr.Val (kept_value v (told_expr (Lazy-F.Val v) o)))
      (λ t xs ks hs js o. let p = told_expr (Lazy-F.Call t xs ks) o in
      layer_expr (Lazy-F.Call t xs ks) ∙ rw (kept_parts xs hs (all_left ok (gathered (map files_expr xs)) _ p), kept_keywords ks js (all_right ok (gathered (map files_expr xs)) _ p)) refl)
      (λ p o. layer_expr (Lazy-F.Input p))
      (λ c xs hs o. layer_expr (Lazy-F.Op c xs) ∙ ap (expr.Op c) (kept_parts xs hs (told_expr (Lazy-F.Op c xs) o)))
      (λ xs hs o. layer_expr (Lazy-F.ListOf xs) ∙ ap expr.ListOf (kept_parts xs hs (told_expr (Lazy-F.ListOf xs) o)))
      (λ ps hs o. layer_expr (Lazy-F.DictOf ps) ∙ ap expr.DictOf (kept_keys ps hs (told_expr (Lazy-F.DictOf ps) o)))
      (λ a b c i j l o. let p = told_expr (Lazy-F.Cond a b c) o in let q = all_left ok (files_expr a ++ files_expr b) (files_expr c) p in
      layer_expr (Lazy-F.Cond a b c) ∙ rw (i (all_left ok (files_expr a) (files_expr b) q), j (all_right ok (files_expr a) (files_expr b) q), l (all_right ok (files_expr a ++ files_expr b) (files_expr c) p)) refl)
      (λ t e i o. layer_expr (Lazy-F.Map t e) ∙ ap (expr.Map t) (i (told_expr (Lazy-F.Map t e) o)))
      (λ e c r i o. layer_expr (Lazy-F.Catch e c r) ∙ ap (λ x. expr.Catch x c r) (i (told_expr (Lazy-F.Catch e c r) o)))

-- ---- the text of a digest in a book

-- the first text with this digest
abbrev text_in : List (List ℕ) → List ℕ → List ℕ
text_in [] d = []
text_in (t ∷ ts) d = cond (bytes_eq (sha256 t) d) t (text_in ts d)

bytes_same : (t : List ℕ) → bytes_eq t t ≡ true
bytes_same t = (bytes_eq-Decides t t).1 refl

or_first : (a b : Bool) → a ≡ true → (a || b) ≡ true
or_first a b h = rw h refl

or_second : (a b : Bool) → b ≡ true → (a || b) ≡ true
or_second true b h = refl
or_second false b h = h

-- a text that alone has its digest is the one that is found, in a list that begins with s
found_or : (s : List ℕ) (ts : List (List ℕ)) (t : List ℕ) → ((r : List ℕ) → holds (s ∷ ts) r ≡ true → sha256 r ≡ sha256 t → r ≡ t) →
    (holds ts t ≡ true → text_in ts (sha256 t) ≡ t) →
    (b : Bool) → bytes_eq (sha256 s) (sha256 t) ≡ b → (c : Bool) → bytes_eq t s ≡ c → (c || holds ts t) ≡ true → cond b s (text_in ts (sha256 t)) ≡ t
found_or s ts t alone next true e c f g = alone s (or_first (bytes_eq s s) (holds ts s) (bytes_same s)) ((bytes_eq-Decides (sha256 s) (sha256 t)).0 e)
found_or s ts t alone next false e true f g = absurd (true≢false (sym ((bytes_eq-Decides (sha256 s) (sha256 t)).1 (ap sha256 (sym ((bytes_eq-Decides t s).0 f)))) ∙ e))
found_or s ts t alone next false e false f g = next g

found_text : (ts : List (List ℕ)) (t : List ℕ) → ((r : List ℕ) → holds ts r ≡ true → sha256 r ≡ sha256 t → r ≡ t) → holds ts t ≡ true → text_in ts (sha256 t) ≡ t
found_text [] t alone h = absurd (true≢false (sym h))
found_text (s ∷ ts) t alone h =
    found_or s ts t alone (found_text ts t (λ r k e. alone r (or_second (bytes_eq r s) (holds ts r) k) e))
    (bytes_eq (sha256 s) (sha256 t)) refl (bytes_eq t s) refl h

-- ---- erasures over one book

module _ (book : List (List ℕ)) (is : IsBook book) where
  abbrev restored : FileValue → ModelFile
  restored f = record { path = f.path; text = text_in book f.digest.0 }

  file_restored : (f : ModelFile) → holds_file book f ≡ true → restored (file_of f) ≡ f
  file_restored f h = ap (λ t. record { path = f.path; text = t }) (found_text book f.text (λ r k e. is r f.text k h e) h)

  value_restored : (v : ModelValue) → is_over book v ≡ true → with_files restored (erase v) ≡ v
  value_restored v h = twice file_of restored v ∙ kept_value (λ f. restored (file_of f)) (holds_file book) file_restored v h

  expr_restored : (e : ModelExpr) → is_over_expr book e ≡ true → with_files_expr restored (erase_expr e) ≡ e
  expr_restored e h = twice_expr file_of restored e ∙ kept_expr (λ f. restored (file_of f)) (holds_file book) file_restored e h

  pub values_apart : (v w : ModelValue) → is_over book v ≡ true → is_over book w ≡ true → erase v ≡ erase w → v ≡ w
  values_apart v w h k e = sym (value_restored v h) ∙ (ap (with_files restored) e ∙ value_restored w k)

  pub exprs_apart : (d e : ModelExpr) → is_over_expr book d ≡ true → is_over_expr book e ≡ true → erase_expr d ≡ erase_expr e → d ≡ e
  exprs_apart d e h k q = sym (expr_restored d h) ∙ (ap (with_files_expr restored) q ∙ expr_restored e k)
