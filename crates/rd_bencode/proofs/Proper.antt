-- A value is proper where its layer and its parts are.
use Rattle.std.proofs.Common.{◌≡◌, ℕ, ℤ, Bool, true, refl, ap, subst, ◌∙◌, List, [], ◌∷◌, map, length, FitsSigned}
use Rattle.std.specs.Int.{w64}
use Rattle.std.specs.Str.{IsUtf8}
use Rattle.rd_base.specs.Path.{is_path}
use Rattle.rd_value.specs.declared.value.FileValue.{FileValue}
use Rattle.rd_value.specs.declared.value.ErrorValue.{ErrorValue}
use Rattle.rd_value.specs.declared.value.Datum.{out-Datum}
use Rattle.rd_value.specs.declared.value.Datum.TheVariants as variant
use Rattle.rd_value.specs.declared.value.Datum.TheViews as made
use Rattle.rd_value.specs.declared.value.Datum.TheOpen.{Datum-F}
use Rattle.rd_value.specs.declared.value.Datum.TheFolds.{every_made-Datum, every_here-Datum, every_held-Datum, map-Datum}
use Rattle.rd_value.proofs.Ind.{Each, EachPair}
use Rattle.rd_bencode.specs.Values.{Value, Pair}
use Rattle.rd_bencode.specs.Proper.{IsProper, IsProperAt, AreNew}

abbrev Held : Type 0
Held = (v : Value) × IsProper v

held : (xs : List Value) → Each IsProper xs → List Held
held [] hs = []
held (x ∷ xs) hs = (x, hs.0) ∷ held xs hs.1

held_is : (xs : List Value) (hs : Each IsProper xs) → map (λ h. h.0) (held xs hs) ≡ xs
unfolding held
held_is [] hs = refl
held_is (x ∷ xs) hs = ap (λ ys. x ∷ ys) (held_is xs hs.1)

held_pairs : (ps : List Pair) → EachPair IsProper ps → List (Held × Held)
held_pairs [] hs = []
held_pairs (p ∷ ps) hs = ((p.0, hs.0.0), (p.1, hs.0.1)) ∷ held_pairs ps hs.1

held_pairs_are : (ps : List Pair) (hs : EachPair IsProper ps) → map (λ h. (h.0.0, h.1.0)) (held_pairs ps hs) ≡ ps
unfolding held_pairs
held_pairs_are [] hs = refl
held_pairs_are (p ∷ ps) hs = ap (λ qs. p ∷ qs) (held_pairs_are ps hs.1)

pub proper_nothing : IsProper variant.Nothing
unfolding made.roll-Datum denote.Hole.Carrier.roll
proper_nothing = every_made-Datum FileValue IsProperAt Datum-F.Nothing Datum-F.Nothing refl tt

pub proper_bool : (b : Bool) → IsProper (variant.Bool b)
unfolding made.roll-Datum denote.Hole.Carrier.roll
proper_bool b = every_made-Datum FileValue IsProperAt (Datum-F.Bool b) (Datum-F.Bool b) refl tt

pub proper_int : (n : ℤ) → FitsSigned w64 n → IsProper (variant.Int n)
unfolding made.roll-Datum denote.Hole.Carrier.roll
proper_int n h = every_made-Datum FileValue IsProperAt (Datum-F.Int n) (Datum-F.Int n) refl h

pub proper_text : (t : List ℕ) → IsUtf8 t → IsProper (variant.Text t)
unfolding made.roll-Datum denote.Hole.Carrier.roll
proper_text t h = every_made-Datum FileValue IsProperAt (Datum-F.Text t) (Datum-F.Text t) refl h

pub proper_list : (xs : List Value) → Each IsProper xs → IsProper (variant.List xs)
unfolding made.roll-Datum denote.Hole.Carrier.roll
proper_list xs hs = every_made-Datum FileValue IsProperAt (Datum-F.List xs) (Datum-F.List (held xs hs)) (ap Datum-F.List (held_is xs hs)) tt

pub proper_dict : (ps : List Pair) → EachPair IsProper ps → AreNew [] ps → IsProper (variant.Dict ps)
unfolding made.roll-Datum denote.Hole.Carrier.roll
proper_dict ps hs new = every_made-Datum FileValue IsProperAt (Datum-F.Dict ps) (Datum-F.Dict (held_pairs ps hs)) (ap Datum-F.Dict (held_pairs_are ps hs)) new

pub proper_file : (f : FileValue) → is_path f.path ≡ true → IsUtf8 f.path → length f.digest.0 ≡ 32 → IsProper (variant.File f)
unfolding made.roll-Datum denote.Hole.Carrier.roll
proper_file f h u d = every_made-Datum FileValue IsProperAt (Datum-F.File f) (Datum-F.File f) refl (h, u, d)

pub proper_error : (e : ErrorValue) → IsUtf8 e.text → IsProper (variant.Error e)
unfolding made.roll-Datum denote.Hole.Carrier.roll
proper_error e h = every_made-Datum FileValue IsProperAt (Datum-F.Error e) (Datum-F.Error e) refl h

-- ---- and the other way

layer : (v : Value) (x : Datum-F FileValue Value) → out-Datum FileValue v ≡ x → IsProper v → IsProperAt x
layer v x e h = subst IsProperAt e (every_here-Datum FileValue IsProperAt v h)

pub int_fits : (n : ℤ) → IsProper (variant.Int n) → FitsSigned w64 n
int_fits n = layer (variant.Int n) (Datum-F.Int n) (variant.outs-Int n)

pub text_utf8 : (t : List ℕ) → IsProper (variant.Text t) → IsUtf8 t
text_utf8 t = layer (variant.Text t) (Datum-F.Text t) (variant.outs-Text t)

pub dict_new : (ps : List Pair) → IsProper (variant.Dict ps) → AreNew [] ps
dict_new ps = layer (variant.Dict ps) (Datum-F.Dict ps) (variant.outs-Dict ps)

pub file_proper : (f : FileValue) → IsProper (variant.File f) → (is_path f.path ≡ true) × IsUtf8 f.path × (length f.digest.0 ≡ 32)
file_proper f = layer (variant.File f) (Datum-F.File f) (variant.outs-File f)

pub error_utf8 : (e : ErrorValue) → IsProper (variant.Error e) → IsUtf8 e.text
error_utf8 e = layer (variant.Error e) (Datum-F.Error e) (variant.outs-Error e)

each_of : (hs : List Held) → Each IsProper (map (λ h. h.0) hs)
each_of [] = tt
each_of (h ∷ hs) = (h.1, each_of hs)

pairs_of : (hs : List (Held × Held)) → EachPair IsProper (map (λ h. (h.0.0, h.1.0)) hs)
pairs_of [] = tt
pairs_of (h ∷ hs) = ((h.0.1, h.1.1), pairs_of hs)

list_by : (xs : List Value) (y : Datum-F FileValue Held) → map-Datum FileValue Held Value (λ h. h.0) y ≡ Datum-F.List xs → Each IsProper xs
list_by xs (Datum-F.List hs) e = let is : map (λ h. h.0) hs ≡ xs = cc in subst (Each IsProper) is (each_of hs)
list_by xs _ e = absurd cc

dict_by : (ps : List Pair) (y : Datum-F FileValue Held) → map-Datum FileValue Held Value (λ h. h.0) y ≡ Datum-F.Dict ps → EachPair IsProper ps
dict_by ps (Datum-F.Dict hs) e = let is : map (λ h. (h.0.0, h.1.0)) hs ≡ ps = cc in subst (EachPair IsProper) is (pairs_of hs)
dict_by ps _ e = absurd cc

pub list_proper : (xs : List Value) → IsProper (variant.List xs) → Each IsProper xs
list_proper xs h = let y = every_held-Datum FileValue IsProperAt (variant.List xs) h in list_by xs y.0 (y.1 ∙ variant.outs-List xs)

pub dict_proper : (ps : List Pair) → IsProper (variant.Dict ps) → EachPair IsProper ps
dict_proper ps h = let y = every_held-Datum FileValue IsProperAt (variant.Dict ps) h in dict_by ps y.0 (y.1 ∙ variant.outs-Dict ps)
