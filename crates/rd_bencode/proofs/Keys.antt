-- What a set of keys tells of a key.
use Rattle.std.proofs.Common.{◌≡◌, ℕ, ℤ, Bool, true, false, not, List, [], ◌∷◌, refl, sym, ap, ◌∙◌}
use Rattle.std.specs.Bool.{Decides}
use Rattle.std.specs.List.{list_any}
use Rattle.std.proofs.lemmas.Bool.Decides.{same_from_decides, Decides-int_eq}
use Rattle.std.proofs.lemmas.Slice.Eq.{bytes_eq-Decides}
use Rattle.rd_value.specs.declared.value.Datum.TheVariants as value
use Rattle.rd_value.proofs.Deciding.{value_same, value_decides}
use Rattle.rd_bencode.specs.Values.{Value, is_number, is_text, any_of, new_number, new_text}

pub number_decides : (z : ℤ) (k : Value) → Decides (is_number z k) (value.Int z ≡ k)
number_decides z (value.Int y) = let d = Decides-int_eq z y in (λ h. ap value.Int (d.0 h), λ e. d.1 cc)
number_decides z _ = (λ h. absurd (let bad : false ≡ true = h in cc), λ e. absurd cc)

pub text_decides : (t : List ℕ) (k : Value) → Decides (is_text t k) (value.Text t ≡ k)
text_decides t (value.Text u) = let d = bytes_eq-Decides t u in (λ h. ap value.Text (d.0 h), λ e. d.1 cc)
text_decides t _ = (λ h. absurd (let bad : false ≡ true = h in cc), λ e. absurd cc)

any_same : (v : Value) (s : Value → Bool) → ((k : Value) → Decides (s k) (v ≡ k)) → (keys : List Value) → list_any (value_same v) keys ≡ any_of s keys
any_same v s d [] = refl
any_same v s d (k ∷ keys) = let same : value_same v k ≡ s k = same_from_decides _ _ (value_decides v k) (d k) in rw (same, any_same v s d keys) refl

-- what `insert` told
pub number_told : (keys : List Value) (z y : ℤ) (added answer : Bool) → added ≡ not (list_any (value_same (value.Int y)) keys) → added ≡ answer → y ≡ z → new_number keys z ≡ answer
number_told keys z y added answer told is same = ap not (sym (any_same (value.Int z) (is_number z) (number_decides z) keys)) ∙ rw same at (sym told ∙ is)

pub text_told : (keys : List Value) (t u : List ℕ) (added answer : Bool) → added ≡ not (list_any (value_same (value.Text u)) keys) → added ≡ answer → u ≡ t → new_text keys t ≡ answer
text_told keys t u added answer told is same = ap not (sym (any_same (value.Text t) (is_text t) (text_decides t) keys)) ∙ rw same at (sym told ∙ is)
