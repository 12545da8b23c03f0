-- What does not depend on what a file carries.
use Rattle.std.proofs.Common.{◌≡◌, ℕ, ℤ, ◌∙◌, refl, sym, ap, List, [], ◌∷◌, map}
use Rattle.rd_value.specs.declared.value.FileValue.{FileValue}
use Rattle.rd_value.specs.declared.value.Datum.{Datum}
use Rattle.rd_value.specs.declared.value.Datum.TheViews as made
use Rattle.rd_value.specs.declared.value.Datum.TheVariants as variant
use Rattle.rd_value.specs.declared.value.Datum.TheOpen.{Datum-F}
use Rattle.rd_value.specs.declared.value.Datum.TheFolds.{fold-Datum, fold-roll-Datum, map-Datum}
use Rattle.rd_value.specs.Depth.{depth, depth_at}
use Rattle.rd_value.specs.Canon.{canon, canon_at}
use Rattle.rd_value.specs.Repr.{repr, repr_at}
use Rattle.rd_value.specs.Erase.{with_files, with_file}
use Rattle.rd_value.proofs.Ind.{Each, EachPair, datum_ind}

-- a fold of a value with other files is a fold of the value
module _ {F G A : Type 0} (h : F → G) (over : Datum-F F A → A) (under : Datum-F G A → A) (step : (x : Datum-F F A) → under (with_file h x) ≡ over x) where
  abbrev Same : Datum F → Type 0
  Same v = fold-Datum G A under (with_files h v) ≡ fold-Datum F A over v

  same_items : (xs : List (Datum F)) → Each Same xs → map (fold-Datum G A under) (map (with_files h) xs) ≡ map (fold-Datum F A over) xs
  same_items [] hs = refl
  same_items (x ∷ xs) hs = cc (hs.0, same_items xs hs.1)

  abbrev folded : {B C : Type 0} → (B → C) → List (B × B) → List (C × C)
  folded f ps = map (λ p. (f p.0, f p.1)) ps

  same_pairs : (ps : List (Datum F × Datum F)) → EachPair Same ps → folded (fold-Datum G A under) (folded (with_files h) ps) ≡ folded (fold-Datum F A over) ps
  same_pairs [] hs = refl
  same_pairs (p ∷ ps) hs = cc (hs.0.0, hs.0.1, same_pairs ps hs.1)

  -- at a value of one layer, from what is known of the values that it holds
  same_layer : (x : Datum-F F (Datum F)) → map-Datum G (Datum G) A (fold-Datum G A under) (with_file h (map-Datum F (Datum F) (Datum G) (with_files h) x)) ≡ with_file h (map-Datum F (Datum F) A (fold-Datum F A over) x) → Same (made.roll-Datum F x)
  same_layer x e =
      ap (fold-Datum G A under) (fold-roll-Datum F (Datum G) (λ y. made.roll-Datum G (with_file h y)) x) ∙
      (fold-roll-Datum G A under (with_file h (map-Datum F (Datum F) (Datum G) (with_files h) x)) ∙
      (ap under e ∙ (step (map-Datum F (Datum F) A (fold-Datum F A over) x) ∙ sym (fold-roll-Datum F A over x))))

  pub fold_with_files : (v : Datum F) → Same v
  unfolding made.roll-Datum denote.Hole.Carrier.roll
  fold_with_files = datum_ind Same
      (same_layer Datum-F.Nothing refl)
      (λ b. same_layer (Datum-F.Bool b) refl)
      (λ n. same_layer (Datum-F.Int n) refl)
      (λ t. same_layer (Datum-F.Text t) refl)
      (λ xs hs. same_layer (Datum-F.List xs) (ap Datum-F.List (same_items xs hs)))
      (λ ps hs. same_layer (Datum-F.Dict ps) (ap Datum-F.Dict (same_pairs ps hs)))
      (λ f. same_layer (Datum-F.File f) refl)
      (λ e. same_layer (Datum-F.Error e) refl)

pub depth_with_files : {F G : Type 0} (h : F → G) (v : Datum F) → depth (with_files h v) ≡ depth v
depth_with_files h v = fold_with_files h depth_at depth_at
    (elim [ Datum-F.Nothing ↦ refl | Datum-F.Bool b ↦ refl | Datum-F.Int n ↦ refl | Datum-F.Text t ↦ refl | Datum-F.List xs ↦ refl | Datum-F.Dict ps ↦ refl | Datum-F.File f ↦ refl | Datum-F.Error e ↦ refl ]) v

module _ {F G : Type 0} (h : F → G) (file : G → FileValue) where
  pub canon_with_files : (v : Datum F) → canon file (with_files h v) ≡ canon (λ f. file (h f)) v
  canon_with_files v = fold_with_files h (canon_at (λ f. file (h f))) (canon_at file)
      (elim [ Datum-F.Nothing ↦ refl | Datum-F.Bool b ↦ refl | Datum-F.Int n ↦ refl | Datum-F.Text t ↦ refl | Datum-F.List xs ↦ refl | Datum-F.Dict ps ↦ refl | Datum-F.File f ↦ refl | Datum-F.Error e ↦ refl ]) v

  pub repr_with_files : (v : Datum F) → repr file (with_files h v) ≡ repr (λ f. file (h f)) v
  repr_with_files v = fold_with_files h (repr_at (λ f. file (h f))) (repr_at file)
      (elim [ Datum-F.Nothing ↦ refl | Datum-F.Bool b ↦ refl | Datum-F.Int n ↦ refl | Datum-F.Text t ↦ refl | Datum-F.List xs ↦ refl | Datum-F.Dict ps ↦ refl | Datum-F.File f ↦ refl | Datum-F.Error e ↦ refl ]) v

-- the value of one layer with other files
module _ {F G : Type 0} (h : F → G) where
  pub int_with_files : (n : ℤ) → with_files h (variant.Int n) ≡ variant.Int n
  unfolding made.roll-Datum denote.Hole.Carrier.roll
  int_with_files n = fold-roll-Datum F (Datum G) (λ x. made.roll-Datum G (with_file h x)) (Datum-F.Int n)

  pub text_with_files : (t : List ℕ) → with_files h (variant.Text t) ≡ variant.Text t
  unfolding made.roll-Datum denote.Hole.Carrier.roll
  text_with_files t = fold-roll-Datum F (Datum G) (λ x. made.roll-Datum G (with_file h x)) (Datum-F.Text t)

  pub list_with_files : (xs : List (Datum F)) → with_files h (variant.List xs) ≡ variant.List (map (with_files h) xs)
  unfolding made.roll-Datum denote.Hole.Carrier.roll
  list_with_files xs = fold-roll-Datum F (Datum G) (λ x. made.roll-Datum G (with_file h x)) (Datum-F.List xs)
