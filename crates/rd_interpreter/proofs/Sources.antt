-- What is left to go through behind an item.
use Rattle.std.proofs.Common.{◌≡◌, ℕ, zero, suc, ◌+◌, ◌<◌, ◌≤◌, subst, refl, sym, ap, ◌∙◌, List, [], ◌∷◌, ◌++◌, length, map, drop, Option, None, Some, Result, Ok, Err, IfOk, arith, add-one}
use Rattle.std.specs.Char.{encode_utf8, len_utf8}
use Rattle.std.specs.List.{slice_get}
use Rattle.std.specs.Option.{option_map}
use Rattle.std.specs.Str.{chars, IsUtf8, IsCharBoundary}
use Rattle.std.proofs.lemmas.List.{nil_from_length}
use Rattle.std.proofs.lemmas.Simd.{map-map}
use Rattle.std.proofs.lemmas.Str.{chars-nil, chars_past_char, drop_past_char, IsCharBoundary-start, IsCharBoundary-past_char}
use Rattle.rd_base.specs.declared.memory.OutOfMemory.{OutOfMemory}
use Rattle.rd_value.specs.declared.value.FileValue.{FileValue}
use Rattle.rd_value.specs.declared.value.Datum.{Datum}
use Rattle.rd_value.specs.declared.value.Datum.TheVariants as value
use Rattle.rd_value.specs.declared.expr.Lazy.{Lazy}
use Rattle.rd_value.specs.declared.expr.Lazy.TheVariants as lazy
use Rattle.rd_interpreter.specs.declared.turns.source.Source.{Source}
use Rattle.rd_interpreter.specs.declared.turns.source.Source.TheVariants as source
use Rattle.rd_interpreter.specs.Source.{left_of, text_of, ItemAt, CharacterAt, next_at}

abbrev Item : Type 0
Item = Lazy FileValue × ℕ

-- ---- lists

module _ {A : Type 0} (f : A → Lazy FileValue) where
  one_left : (xs : List A) (n : ℕ) (x : A) → slice_get xs n ≡ Some x → map f (drop n xs) ≡ f x ∷ map f (drop (suc n) xs)
  one_left [] n x e = absurd cc
  one_left (y ∷ ys) zero x e = let same : y ≡ x = cc in rw same refl
  one_left (y ∷ ys) (suc n) x e = one_left ys n x e

  none_left : (xs : List A) (n : ℕ) → slice_get xs n ≡ None → map f (drop n xs) ≡ []
  none_left [] zero e = refl
  none_left [] (suc n) e = refl
  none_left (y ∷ ys) zero e = absurd cc
  none_left (y ∷ ys) (suc n) e = none_left ys n e

  module _ (s : Source) (xs : List A) (n : ℕ) (left : (m : ℕ) → left_of s m ≡ map f (drop m xs)) (no_text : text_of s ≡ None) where
    item_by : (g : Option A) → slice_get xs n ≡ g → ItemAt s n (option_map (λ x. (f x, n + 1)) g)
    item_by None e = left n ∙ none_left xs n e
    item_by (Some x) e = (left n ∙ one_left xs n x e ∙ ap (λ ys. f x ∷ ys) (ap (λ m. map f (drop m xs)) (sym (add-one n)) ∙ sym (left (n + 1))), λ t is. absurd cc)

    pub item_of : (r : Result (Option Item) OutOfMemory) → IfOk r (λ o. o ≡ next_at f xs n) → IfOk r (ItemAt s n)
    item_of (Ok o) e = rw e (item_by (slice_get xs n) refl)
    item_of (Err x) e = tt

as_it_is : {A : Type 0} (xs : List A) → map (λ x. x) xs ≡ xs
as_it_is [] = refl
as_it_is (x ∷ xs) = ap (λ ys. x ∷ ys) (as_it_is xs)

pub value_item : (vs : List (Datum FileValue)) (n : ℕ) (r : Result (Option Item) OutOfMemory) → IfOk r (λ o. o ≡ next_at lazy.Val vs n) → IfOk r (ItemAt (source.Values vs) n)
value_item vs n = item_of lazy.Val (source.Values vs) vs n (λ m. refl) refl

pub expr_item : (es : List (Lazy FileValue)) (n : ℕ) (r : Result (Option Item) OutOfMemory) → IfOk r (λ o. o ≡ next_at (λ e. e) es n) → IfOk r (ItemAt (source.Exprs es) n)
expr_item es n = item_of (λ e. e) (source.Exprs es) es n (λ m. sym (as_it_is (drop m es))) refl

pub key_item : (ps : List (Datum FileValue × Datum FileValue)) (n : ℕ) (r : Result (Option Item) OutOfMemory) → IfOk r (λ o. o ≡ next_at (λ p. lazy.Val p.0) ps n) → IfOk r (ItemAt (source.Keys ps) n)
key_item ps n = item_of (λ p. lazy.Val p.0) (source.Keys ps) ps n (λ m. map-map lazy.Val (λ p. p.0) (drop m ps)) refl

pub expr_key_item : (ps : List (Datum FileValue × Lazy FileValue)) (n : ℕ) (r : Result (Option Item) OutOfMemory) → IfOk r (λ o. o ≡ next_at (λ p. lazy.Val p.0) ps n) → IfOk r (ItemAt (source.ExprKeys ps) n)
expr_key_item ps n = item_of (λ p. lazy.Val p.0) (source.ExprKeys ps) ps n (λ m. refl) refl

-- ---- texts

-- a text begins with a character
pub cut : (t : List ℕ) (n : ℕ) → IsUtf8 t → (0 < n → IsCharBoundary t n) → IsCharBoundary t n
cut t zero u h = IsCharBoundary-start t u
cut t (suc n) u h = h (omega arith)

pub character_item : (t bytes rest held : List ℕ) (n c width : ℕ) → n ≤ length t → bytes ≡ drop n t → IsUtf8 bytes → bytes ≡ encode_utf8 c ++ rest → width ≡ len_utf8 c → held ≡ encode_utf8 c →
    CharacterAt t n (Some (lazy.Val (value.Text held), n + width))
character_item t bytes rest held n c width le here u e w h =
    let first : drop n t ≡ encode_utf8 c ++ rest = sym here ∙ e in
    let behind : drop (n + width) t ≡ rest = ap (λ k. drop (n + k) t) w ∙ drop_past_char t rest n c first in
    let split : chars (drop n t) ≡ c ∷ chars (drop (n + width) t) = ap chars (sym here) ∙ chars_past_char bytes rest c u e ∙ ap (λ r. c ∷ chars r) (sym behind) in
    let begins : IsCharBoundary t (n + len_utf8 c) = IsCharBoundary-past_char t rest n c le (subst IsUtf8 here u) first in
    (rw (split, h) refl, λ x is more. let same : t ≡ x = cc in subst (λ y. IsCharBoundary y (n + width)) same (rw w begins))

pub no_character : (t bytes : List ℕ) (n : ℕ) → bytes ≡ drop n t → length bytes ≡ 0 → CharacterAt t n None
no_character t bytes n here e =
    let none : drop n t ≡ [] = sym here ∙ nil_from_length bytes e in
    rw (none, chars-nil) refl
