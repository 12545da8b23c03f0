-- What is true of a value of each kind, from its parts.
use Rattle.std.proofs.Common.{◌≡◌, ℕ, ℤ, Bool, true, refl, ap, List, [], ◌∷◌, map, length, FitsSigned}
use Rattle.std.specs.Int.{w64}
use Rattle.std.specs.Str.{IsUtf8}
use Rattle.rd_base.specs.Path.{is_path}
use Rattle.rd_value.specs.declared.value.FileValue.{FileValue}
use Rattle.rd_value.specs.declared.value.ErrorValue.{ErrorValue}
use Rattle.rd_value.specs.declared.value.Datum.{Datum}
use Rattle.rd_value.specs.declared.value.Datum.TheVariants as variant
use Rattle.rd_value.specs.declared.value.Datum.TheViews as made
use Rattle.rd_value.specs.declared.value.Datum.TheOpen.{Datum-F}
use Rattle.rd_value.specs.declared.value.Datum.TheFolds.{every_made-Datum}
use Rattle.rd_value.specs.Lawful.{IsLawful, IsLawfulAt}
use Rattle.rd_value.proofs.Ind.{Each, EachPair}

abbrev Held : Type 0
Held = (v : Datum FileValue) × IsLawful v

held : (xs : List (Datum FileValue)) → Each IsLawful xs → List Held
held [] hs = []
held (x ∷ xs) hs = (x, hs.0) ∷ held xs hs.1

held_is : (xs : List (Datum FileValue)) (hs : Each IsLawful xs) → map (λ h. h.0) (held xs hs) ≡ xs
unfolding held
held_is [] hs = refl
held_is (x ∷ xs) hs = ap (λ ys. x ∷ ys) (held_is xs hs.1)

held_pairs : (ps : List (Datum FileValue × Datum FileValue)) → EachPair IsLawful ps → List (Held × Held)
held_pairs [] hs = []
held_pairs (p ∷ ps) hs = ((p.0, hs.0.0), (p.1, hs.0.1)) ∷ held_pairs ps hs.1

held_pairs_are : (ps : List (Datum FileValue × Datum FileValue)) (hs : EachPair IsLawful ps) → map (λ h. (h.0.0, h.1.0)) (held_pairs ps hs) ≡ ps
unfolding held_pairs
held_pairs_are [] hs = refl
held_pairs_are (p ∷ ps) hs = ap (λ qs. p ∷ qs) (held_pairs_are ps hs.1)

pub lawful_nothing : IsLawful variant.Nothing
unfolding made.roll-Datum denote.Hole.Carrier.roll
lawful_nothing = every_made-Datum FileValue IsLawfulAt Datum-F.Nothing Datum-F.Nothing refl tt

pub lawful_bool : (b : Bool) → IsLawful (variant.Bool b)
unfolding made.roll-Datum denote.Hole.Carrier.roll
lawful_bool b = every_made-Datum FileValue IsLawfulAt (Datum-F.Bool b) (Datum-F.Bool b) refl tt

pub lawful_int : (n : ℤ) → FitsSigned w64 n → IsLawful (variant.Int n)
unfolding made.roll-Datum denote.Hole.Carrier.roll
lawful_int n h = every_made-Datum FileValue IsLawfulAt (Datum-F.Int n) (Datum-F.Int n) refl h

pub lawful_text : (t : List ℕ) → IsUtf8 t → IsLawful (variant.Text t)
unfolding made.roll-Datum denote.Hole.Carrier.roll
lawful_text t h = every_made-Datum FileValue IsLawfulAt (Datum-F.Text t) (Datum-F.Text t) refl h

pub lawful_list : (xs : List (Datum FileValue)) → Each IsLawful xs → IsLawful (variant.List xs)
unfolding made.roll-Datum denote.Hole.Carrier.roll
lawful_list xs hs = every_made-Datum FileValue IsLawfulAt (Datum-F.List xs) (Datum-F.List (held xs hs)) (ap Datum-F.List (held_is xs hs)) tt

pub lawful_dict : (ps : List (Datum FileValue × Datum FileValue)) → EachPair IsLawful ps → IsLawful (variant.Dict ps)
unfolding made.roll-Datum denote.Hole.Carrier.roll
lawful_dict ps hs = every_made-Datum FileValue IsLawfulAt (Datum-F.Dict ps) (Datum-F.Dict (held_pairs ps hs)) (ap Datum-F.Dict (held_pairs_are ps hs)) tt

pub lawful_file : (f : FileValue) → is_path f.path ≡ true → length f.digest.0 ≡ 32 → IsLawful (variant.File f)
unfolding made.roll-Datum denote.Hole.Carrier.roll
lawful_file f h d = every_made-Datum FileValue IsLawfulAt (Datum-F.File f) (Datum-F.File f) refl (h, d)

pub lawful_error : (e : ErrorValue) → IsUtf8 e.text → IsLawful (variant.Error e)
unfolding made.roll-Datum denote.Hole.Carrier.roll
lawful_error e h = every_made-Datum FileValue IsLawfulAt (Datum-F.Error e) (Datum-F.Error e) refl h
