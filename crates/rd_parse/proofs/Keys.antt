-- What a set of keys tells of a key.
use Rattle.std.proofs.Common.{◌≡◌, ℕ, ℤ, Bool, true, false, not, List, [], ◌∷◌, Option, Some, None, Ok, Err, refl, sym, ap, ◌∙◌}
use Rattle.std.specs.Bool.{Decides}
use Rattle.std.specs.List.{list_any}
use Rattle.std.proofs.lemmas.Bool.Decides.{same_from_decides, Decides-int_eq}
use Rattle.std.proofs.lemmas.Slice.Eq.{bytes_eq-Decides}
use Rattle.rd_syntax.specs.declared.token.Token.{Token}
use Rattle.rd_value.specs.declared.value.Datum.TheVariants as value
use Rattle.rd_value.proofs.Deciding.{value_same, value_decides}
use Rattle.rd_parse.specs.Reader.{Refused, took, read_one}
use Rattle.rd_parse.specs.Literals.{Literal, is_number, is_text, any_of, new_number, new_text, only_if}
use Rattle.rd_parse.proofs.Laws.{got_value, got_rest}

number_decides : (z : ℤ) (k : Literal) → Decides (is_number z k) (value.Int z ≡ k)
number_decides z (value.Int y) = let d = Decides-int_eq z y in (λ h. ap value.Int (d.0 h), λ e. d.1 cc)
number_decides z _ = (λ h. absurd (let no : false ≡ true = h in cc), λ e. absurd cc)

text_decides : (t : List ℕ) (k : Literal) → Decides (is_text t k) (value.Text t ≡ k)
text_decides t (value.Text u) = let d = bytes_eq-Decides t u in (λ h. ap value.Text (d.0 h), λ e. d.1 cc)
text_decides t _ = (λ h. absurd (let no : false ≡ true = h in cc), λ e. absurd cc)

any_same : (v : Literal) (s : Literal → Bool) → ((k : Literal) → Decides (s k) (v ≡ k)) → (keys : List Literal) → list_any (value_same v) keys ≡ any_of s keys
any_same v s d [] = refl
any_same v s d (k ∷ keys) = let same : value_same v k ≡ s k = same_from_decides _ _ (value_decides v k) (d k) in rw (same, any_same v s d keys) refl

-- what `insert` told
pub number_told : (keys : List Literal) (z y : ℤ) (added answer : Bool) → added ≡ not (list_any (value_same (value.Int y)) keys) → added ≡ answer → y ≡ z → new_number keys z ≡ answer
number_told keys z y added answer told is same = ap not (sym (any_same (value.Int z) (is_number z) (number_decides z) keys)) ∙ rw same at (sym told ∙ is)

pub text_told : (keys : List Literal) (t u : List ℕ) (added answer : Bool) → added ≡ not (list_any (value_same (value.Text u)) keys) → added ≡ answer → u ≡ t → new_text keys t ≡ answer
text_told keys t u added answer told is same = ap not (sym (any_same (value.Text t) (is_text t) (text_decides t) keys)) ∙ rw same at (sym told ∙ is)

-- ---- one token, whose value must pass a test

module _ {A : Type 0} (ok : A → Bool) where
  taken_by : (all r rest : List Token) (a : A) (v : Option A) → took all r v ≡ Ok (a, rest) → ok a ≡ true → took all r (only_if ok v) ≡ Ok (a, rest)
  taken_by all r rest a None e y = absurd cc
  taken_by all r rest a (Some b) e y = let same : b ≡ a = got_value b a r rest e in let end : r ≡ rest = got_rest b a r rest e in rw (same, end, y) refl

  refused_by : (all r rest : List Token) (a : A) (v : Option A) → took all r v ≡ Ok (a, rest) → ok a ≡ false → took all r (only_if ok v) ≡ Err (Refused all)
  refused_by all r rest a None e n = absurd cc
  refused_by all r rest a (Some b) e n = let same : b ≡ a = got_value b a r rest e in rw (same, n) refl

  module _ (o : Token → Option A) where
    pub only_taken : (ts rest : List Token) (a : A) → read_one o ts ≡ Ok (a, rest) → ok a ≡ true → read_one (λ t. only_if ok (o t)) ts ≡ Ok (a, rest)
    only_taken [] rest a e y = absurd cc
    only_taken (t ∷ ts) rest a e y = taken_by (t ∷ ts) ts rest a (o t) e y

    pub only_refused : (ts rest : List Token) (a : A) → read_one o ts ≡ Ok (a, rest) → ok a ≡ false → read_one (λ t. only_if ok (o t)) ts ≡ Err (Refused ts)
    only_refused [] rest a e n = absurd cc
    only_refused (t ∷ ts) rest a e n = refused_by (t ∷ ts) ts rest a (o t) e n
