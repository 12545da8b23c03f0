-- Sets of tokens as lists, so that what is said of them is computed.
use Rattle.std.proofs.Common.{◌≡◌, Bool, true, false, not, ◌&&◌, ◌||◌, List, [], ◌∷◌, ◌++◌, refl, sym, ap, subst, ◌∙◌, inl, inr, ◌⊎◌}
use denote.Enum.Bare.{same_true}
use Rattle.rd_syntax.specs.declared.token.Token.{Token}
use Rattle.rd_parse.specs.declared.terminal.Terminal.{Terminal}
use Rattle.rd_parse.specs.contracts.terminal.Terminal.{the_type}
use Rattle.rd_parse.specs.Terminal.{terminal, flag, same}
use Rattle.rd_parse.specs.Reader.{is_there}
use Rattle.rd_parse.proofs.Laws.{Apart, join}

abbrev pub holds_one : List Terminal → Terminal → Bool
holds_one [] κ = false
holds_one (k ∷ ks) κ = same κ k || holds_one ks κ

unfoldable pub set : List Terminal → Token → Bool
set ks t = holds_one ks (terminal t)

pub holds_same : (κ k : Terminal) → is_there (flag (same κ k)) ≡ true → holds_one (k ∷ []) κ ≡ true
holds_same κ k h = by_test (same κ k) h
  where
    by_test : (b : Bool) → is_there (flag b) ≡ true → (b || false) ≡ true
    by_test true h = refl
    by_test false h = h

pub holds_flag : (κ k : Terminal) → is_there (flag (same κ k)) ≡ holds_one (k ∷ []) κ
holds_flag κ k = by_test (same κ k)
  where
    by_test : (b : Bool) → is_there (flag b) ≡ (b || false)
    by_test true = refl
    by_test false = refl

-- each of these is one of those
abbrev pub within : List Terminal → List Terminal → Bool
within [] bs = true
within (a ∷ as_) bs = holds_one bs a && within as_ bs

-- none of these is one of those
abbrev pub disjoint : List Terminal → List Terminal → Bool
disjoint [] bs = true
disjoint (a ∷ as_) bs = not (holds_one bs a) && disjoint as_ bs

one_same : (κ k : Terminal) → same κ k ≡ true → κ ≡ k
one_same κ k e = same_true the_type tt κ k e

pub and_both : (a b : Bool) → (a && b) ≡ true → (a ≡ true) × (b ≡ true)
and_both true b e = (refl, e)
and_both false b e = absurd cc

or_either : (a b : Bool) → (a || b) ≡ true → (a ≡ true) ⊎ (b ≡ true)
or_either true b e = inl refl
or_either false b e = inr e

not_true : (b : Bool) → not b ≡ true → b ≡ false
not_true true e = absurd cc
not_true false e = refl

pub within_holds : (as_ bs : List Terminal) (κ : Terminal) → within as_ bs ≡ true → holds_one as_ κ ≡ true → holds_one bs κ ≡ true
within_holds [] bs κ w h = absurd (let no : false ≡ true = h in cc)
within_holds (a ∷ as_) bs κ w h =
    let d = and_both (holds_one bs a) (within as_ bs) w in
    elim (or_either (same κ a) (holds_one as_ κ) h) [
      | inl e ↦ subst (λ k. holds_one bs k ≡ true) (sym (one_same κ a e)) d.0
      | inr e ↦ within_holds as_ bs κ d.1 e
    ]

disjoint_holds : (as_ bs : List Terminal) (κ : Terminal) → disjoint as_ bs ≡ true → holds_one as_ κ ≡ true → holds_one bs κ ≡ false
disjoint_holds [] bs κ w h = absurd (let no : false ≡ true = h in cc)
disjoint_holds (a ∷ as_) bs κ w h =
    let d = and_both (not (holds_one bs a)) (disjoint as_ bs) w in
    elim (or_either (same κ a) (holds_one as_ κ) h) [
      | inl e ↦ subst (λ k. holds_one bs k ≡ false) (sym (one_same κ a e)) (not_true (holds_one bs a) d.0)
      | inr e ↦ disjoint_holds as_ bs κ d.1 e
    ]

pub by_way : (a b : Bool) → (a ≡ true → b ≡ false) → (a && b) ≡ false
by_way true b h = h refl
by_way false b h = refl

pub sets_apart : (as_ bs : List Terminal) → disjoint as_ bs ≡ true → Apart (set as_) (set bs)
unfolding set
sets_apart as_ bs w t = by_way (set as_ t) (set bs t) (disjoint_holds as_ bs (terminal t) w)

or_assoc : (a b c : Bool) → ((a || b) || c) ≡ (a || (b || c))
or_assoc true b c = refl
or_assoc false b c = refl

append_holds : (as_ bs : List Terminal) (κ : Terminal) → (holds_one as_ κ || holds_one bs κ) ≡ holds_one (as_ ++ bs) κ
append_holds [] bs κ = refl
append_holds (a ∷ as_) bs κ = or_assoc (same κ a) (holds_one as_ κ) (holds_one bs κ) ∙ ap (λ b. same κ a || b) (append_holds as_ bs κ)

-- the sets as `join` makes them
abbrev pub either_of : Bool → List Terminal → List Terminal → List Terminal
either_of true as_ bs = as_ ++ bs
either_of false as_ bs = as_

pub join_set : (b : Bool) (as_ bs : List Terminal) (t : Token) → join b (set as_) (set bs) t ≡ set (either_of b as_ bs) t
unfolding set
join_set true as_ bs t = append_holds as_ bs (terminal t)
join_set false as_ bs t = refl
