-- How values stand to each other does not depend on what their files carry.
use Rattle.std.proofs.Common.{◌≡◌, ℕ, ℤ, Bool, true, false, ◌&&◌, ◌||◌, ◌==◌, ◌∙◌, refl, sym, ap, List, [], ◌∷◌, length, map, Option, None, Some}
use Rattle.std.specs.Cmp.Lexicographic.{slice_partial_cmp}
use Rattle.std.proofs.lemmas.List.{length-map}
use Rattle.rd_value.specs.declared.value.FileValue.{FileValue}
use Rattle.rd_value.specs.declared.value.ErrorValue.{ErrorValue}
use Rattle.rd_value.specs.declared.value.Datum.{Datum, out-Datum}
use Rattle.rd_value.specs.declared.value.Datum.TheViews as made
use Rattle.rd_value.specs.declared.value.Datum.TheVariants as variant
use Rattle.rd_value.specs.declared.value.Datum.TheOpen.{Datum-F}
use Rattle.rd_value.specs.declared.value.Datum.TheFolds.{fold-Datum, fold-roll-Datum, fold_out-Datum, map-Datum}
use Rattle.rd_value.specs.Compare.{Test, number_at, number_of_bool, number_order, finds, finds_pair, finds_pairs, compared, compared_at, equal}
use Rattle.rd_value.specs.Erase.{with_file, with_files}
use Rattle.rd_value.specs.Truth.{truth, truth_at}
use Rattle.rd_value.proofs.Ind.{Each, EachPair, datum_ind}

module _ {F G : Type 0} (h : F → G) where
  -- one layer, with its parts
  abbrev pub lifted : Datum-F F (Datum F) → Datum-F G (Datum G)
  lifted x = with_file h (map-Datum F (Datum F) (Datum G) (with_files h) x)

  -- what is seen at the first layer
  pub out_with_files : (v : Datum F) → out-Datum G (with_files h v) ≡ lifted (out-Datum F v)
  out_with_files v =
      ap (out-Datum G) (fold_out-Datum F (Datum G) (λ x. made.roll-Datum G (with_file h x)) v) ∙ made.out-roll-Datum G (with_file h (map-Datum F (Datum F) (Datum G) (with_files h) (out-Datum F v)))

  pub number_lifted : (x : Datum-F F (Datum F)) → number_at (lifted x) ≡ number_at x
  number_lifted (Datum-F.Bool b) = refl
  number_lifted (Datum-F.Int n) = refl
  number_lifted x = refl

  truth_lifted : (x : Datum-F F (Datum F)) → truth_at (lifted x) ≡ truth_at x
  truth_lifted (Datum-F.List []) = refl
  truth_lifted (Datum-F.List (x ∷ xs)) = refl
  truth_lifted (Datum-F.Dict []) = refl
  truth_lifted (Datum-F.Dict (p ∷ ps)) = refl
  truth_lifted x = refl

  pub truth_with_files : (v : Datum F) → truth (with_files h v) ≡ truth v
  truth_with_files v = ap truth_at (out_with_files v) ∙ truth_lifted (out-Datum F v)

module _ {F G : Type 0} (h : F → G) (file : G → FileValue) where
  abbrev under : Datum F → Test (Datum F)
  under = compared (λ f. file (h f))

  -- a value stands to every other as it does with other files
  abbrev Agrees : Datum F → Type 0
  Agrees v = (w : Datum F) → compared file (with_files h v) (with_files h w) ≡ under v w

  abbrev doubled : {A B : Type 0} → (A → B) → List (A × A) → List (B × B)
  doubled f ps = map (λ p. (f p.0, f p.1)) ps

  items : (xs : List (Datum F)) → Each Agrees xs → (ys : List (Datum F)) →
      slice_partial_cmp (λ test y. test y) (map (compared file) (map (with_files h) xs)) (map (with_files h) ys) ≡ slice_partial_cmp (λ test y. test y) (map under xs) ys
  items [] hs [] = refl
  items [] hs (y ∷ ys) = refl
  items (x ∷ xs) hs [] = refl
  items (x ∷ xs) hs (y ∷ ys) = rw (hs.0 y, items xs hs.1 ys) refl

  one_pair : (p : Datum F × Datum F) → Agrees p.0 × Agrees p.1 → (qs : List (Datum F × Datum F)) →
      finds_pair (compared file (with_files h p.0), compared file (with_files h p.1)) (doubled (with_files h) qs) ≡ finds_pair (under p.0, under p.1) qs
  one_pair p hs [] = refl
  one_pair p hs (q ∷ qs) = rw (hs.0 q.0, hs.1 q.1, one_pair p hs qs) refl

  all_pairs : (ps : List (Datum F × Datum F)) → EachPair Agrees ps → (qs : List (Datum F × Datum F)) →
      finds_pairs (doubled (compared file) (doubled (with_files h) ps)) (doubled (with_files h) qs) ≡ finds_pairs (doubled under ps) qs
  all_pairs [] hs qs = refl
  all_pairs (p ∷ ps) hs qs = rw (one_pair p hs.0 qs, all_pairs ps hs.1 qs) refl

  lengths : (ps qs : List (Datum F × Datum F)) →
      (length (doubled (compared file) (doubled (with_files h) ps)) == length (doubled (with_files h) qs)) ≡ (length (doubled under ps) == length qs)
  lengths ps qs = simp length-map

  -- at a value of one layer, from its layer against each other
  by_layers : (x : Datum-F F (Datum F)) →
      ((y : Datum-F F (Datum F)) → compared_at file (map-Datum G (Datum G) (Test (Datum G)) (compared file) (lifted h x)) (lifted h y) ≡ compared_at (λ f. file (h f)) (map-Datum F (Datum F) (Test (Datum F)) under x) y) →
      Agrees (made.roll-Datum F x)
  by_layers x e w =
      ap (λ v. compared file v (with_files h w)) (fold-roll-Datum F (Datum G) (λ y. made.roll-Datum G (with_file h y)) x) ∙
      (ap (λ f. f (with_files h w)) (fold-roll-Datum G (Test (Datum G)) (λ y v. compared_at file y (out-Datum G v)) (lifted h x)) ∙
      (ap (compared_at file (map-Datum G (Datum G) (Test (Datum G)) (compared file) (lifted h x))) (out_with_files h w) ∙
      (e (out-Datum F w) ∙
      sym (ap (λ f. f w) (fold-roll-Datum F (Test (Datum F)) (λ y v. compared_at (λ f. file (h f)) y (out-Datum F v)) x)))))

  abbrev AgreeAt : Datum-F F (Datum F) → Datum-F F (Datum F) → Type 0
  AgreeAt x y = compared_at file (map-Datum G (Datum G) (Test (Datum G)) (compared file) (lifted h x)) (lifted h y) ≡ compared_at (λ f. file (h f)) (map-Datum F (Datum F) (Test (Datum F)) under x) y

  at_nothing : (y : Datum-F F (Datum F)) → AgreeAt Datum-F.Nothing y
  at_nothing Datum-F.Nothing = refl
  at_nothing y = refl

  at_bool : (b : Bool) (y : Datum-F F (Datum F)) → AgreeAt (Datum-F.Bool b) y
  at_bool b y = ap (number_order (number_of_bool b)) (number_lifted h y)

  at_int : (n : ℤ) (y : Datum-F F (Datum F)) → AgreeAt (Datum-F.Int n) y
  at_int n y = ap (number_order n) (number_lifted h y)

  at_text : (t : List ℕ) (y : Datum-F F (Datum F)) → AgreeAt (Datum-F.Text t) y
  at_text t (Datum-F.Text s) = refl
  at_text t y = refl

  at_list : (xs : List (Datum F)) → Each Agrees xs → (y : Datum-F F (Datum F)) → AgreeAt (Datum-F.List xs) y
  at_list xs hs (Datum-F.List ys) = items xs hs ys
  at_list xs hs y = refl

  at_dict : (ps : List (Datum F × Datum F)) → EachPair Agrees ps → (y : Datum-F F (Datum F)) → AgreeAt (Datum-F.Dict ps) y
  at_dict ps hs (Datum-F.Dict qs) = rw (lengths ps qs, all_pairs ps hs qs) refl
  at_dict ps hs y = refl

  at_file : (f : F) (y : Datum-F F (Datum F)) → AgreeAt (Datum-F.File f) y
  at_file f (Datum-F.File g) = refl
  at_file f y = refl

  at_error : (e : ErrorValue) (y : Datum-F F (Datum F)) → AgreeAt (Datum-F.Error e) y
  at_error e (Datum-F.Error d) = refl
  at_error e y = refl

  pub compared_with_files : (v w : Datum F) → compared file (with_files h v) (with_files h w) ≡ compared (λ f. file (h f)) v w
  unfolding made.roll-Datum denote.Hole.Carrier.roll
  compared_with_files = datum_ind Agrees
      (by_layers Datum-F.Nothing at_nothing)
      (λ b. by_layers (Datum-F.Bool b) (at_bool b))
      (λ n. by_layers (Datum-F.Int n) (at_int n))
      (λ t. by_layers (Datum-F.Text t) (at_text t))
      (λ xs hs. by_layers (Datum-F.List xs) (at_list xs hs))
      (λ ps hs. by_layers (Datum-F.Dict ps) (at_dict ps hs))
      (λ f. by_layers (Datum-F.File f) (at_file f))
      (λ e. by_layers (Datum-F.Error e) (at_error e))

  pub equal_with_files : (v w : Datum F) → equal file (with_files h v) (with_files h w) ≡ equal (λ f. file (h f)) v w
  equal_with_files v w = rw (compared_with_files v w) refl
