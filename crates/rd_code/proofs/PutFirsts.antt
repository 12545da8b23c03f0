-- What stands first under a text, in maps that are filled from the front.
use Rattle.std.proofs.Common.{◌≡◌, ℕ, Bool, true, false, cond, List, Option, None, Some, is_some, refl, sym, ap, ◌∙◌, if◌then◌else◌}
use Rattle.std.specs.Option.{option_or}
use Rattle.std.specs.Str.{bytes_eq}
use Rattle.std.proofs.lemmas.Slice.Eq.{bytes_eq-Decides}

-- what stands under a text, once this stands under the texts of a test where nothing did
abbrev pub with_first : {A : Type 0} → (List ℕ → Option A) → (List ℕ → Bool) → A → List ℕ → Option A
with_first old test v text = option_or (old text) (if test text then Some v else None)

or_none : {A : Type 0} (o : Option A) → o ≡ option_or o None
or_none None = refl
or_none (Some v) = refl

none_held : {A : Type 0} (o : Option A) → is_some o ≡ false → o ≡ None
none_held None h = refl
none_held (Some w) h = absurd (let no : true ≡ false = h in cc)

module _ {A : Type 0} (old : List ℕ → Option A) (name : List ℕ) (v : A) where
  abbrev under : List ℕ → Bool
  under text = bytes_eq text name

  other_way : (text : List ℕ) → bytes_eq text name ≡ false → (t : Bool) → bytes_eq name text ≡ t → bytes_eq name text ≡ false
  other_way text e true k = let no : false ≡ true = sym e ∙ (bytes_eq-Decides text name).1 (sym ((bytes_eq-Decides name text).0 k)) in absurd cc
  other_way text e false k = k

  -- where nothing does, this is put there
  pub first_put : is_some (old name) ≡ false → (new : List ℕ → Option A) → ((text : List ℕ) → new text ≡ cond (bytes_eq name text) (Some v) (old text)) → (text : List ℕ) → new text ≡ with_first old under v text
  first_put h new put text = by_test (bytes_eq text name) refl
    where
      by_test : (t : Bool) → bytes_eq text name ≡ t → new text ≡ option_or (old text) (if t then Some v else None)
      by_test true e =
          let same : text ≡ name = (bytes_eq-Decides text name).0 e in
          put text ∙ ap (λ b. cond b (Some v) (old text)) ((bytes_eq-Decides name text).1 (sym same)) ∙ ap (λ o. option_or o (Some v)) (sym (ap old same ∙ none_held (old name) h))
      by_test false e = put text ∙ ap (λ b. cond b (Some v) (old text)) (other_way text e (bytes_eq name text) refl) ∙ or_none (old text)
