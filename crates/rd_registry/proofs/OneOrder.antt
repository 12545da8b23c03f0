-- Ascending texts are given by what they contain.
use Rattle.std.proofs.Common.{◌≡◌, ℕ, List, [], ◌∷◌, refl, sym, ap, subst, ◌∙◌, inl, inr}
use Rattle.std.proofs.lemmas.Cmp.{nat_list_cmp_total}
use Rattle.std.proofs.lemmas.List.Elements.{All-contains}
use Rattle.std.proofs.lemmas.Map.Keys.{sorted_tail}
use Rattle.std.proofs.lemmas.Map.Views.{All-after_first}
use Rattle.std.specs.Cmp.Lexicographic.{slice_cmp}
use Rattle.std.specs.declared.cmp.Ordering.TheVariants.{Less, Greater}
use Rattle.std.specs.List.{Contains}
use Rattle.std.specs.Ordering.{nat_cmp, ordering_reverse}
use Rattle.std.specs.Prelude.{◌⊎◌}
use Rattle.rd_registry.specs.Resolved.{AreAscending}
use Rattle.rd_registry.proofs.Elements.{cases, first, later, nothing_in}

abbrev Below : List ℕ → List ℕ → Type 0
Below x y = slice_cmp nat_cmp x y ≡ Less

not_both : (x y : List ℕ) → Below x y → Below y x → ⊥
not_both x y e f =
    let other : Less ≡ Greater = sym e ∙ (nat_list_cmp_total.antisymm x y ∙ ap ordering_reverse f) in
    absurd cc

-- what stands behind the first is above it
above_first : (x : List ℕ) (xs : List (List ℕ)) → AreAscending (x ∷ xs) → (t : List ℕ) → Contains xs t → Below x t
above_first x xs u t c = All-contains (Below x) xs t (All-after_first (slice_cmp nat_cmp) x xs u) c

-- the first of one list is that of the other
same_first : (x : List ℕ) (xs : List (List ℕ)) (y : List ℕ) (ys : List (List ℕ)) → AreAscending (x ∷ xs) → AreAscending (y ∷ ys) → (y ≡ x) ⊎ Contains ys x → (x ≡ y) ⊎ Contains xs y → x ≡ y
same_first x xs y ys u v (inl e) d = sym e
same_first x xs y ys u v (inr c) (inl e) = e
same_first x xs y ys u v (inr c) (inr d) = absurd (not_both x y (above_first x xs u y d) (above_first y ys v x c))

-- what is in a list behind its first is in the other behind its first
behind_first : (x : List ℕ) (xs : List (List ℕ)) (y : List ℕ) (ys : List (List ℕ)) → AreAscending (x ∷ xs) → x ≡ y → (t : List ℕ) → Contains xs t → (y ≡ t) ⊎ Contains ys t → Contains ys t
behind_first x xs y ys u e t c (inl f) =
    let own : Below x x = subst (Below x) (sym (e ∙ f)) (above_first x xs u t c) in
    absurd (not_both x x own own)
behind_first x xs y ys u e t c (inr d) = d

pub one_order : (xs ys : List (List ℕ)) → AreAscending xs → AreAscending ys → ((t : List ℕ) → Contains xs t → Contains ys t) → ((t : List ℕ) → Contains ys t → Contains xs t) → xs ≡ ys
one_order [] [] u v there back = refl
one_order [] (y ∷ ys) u v there back = nothing_in y (back y (first y ys))
one_order (x ∷ xs) [] u v there back = nothing_in x (there x (first x xs))
one_order (x ∷ xs) (y ∷ ys) u v there back =
    let same : x ≡ y = same_first x xs y ys u v (cases y ys x (there x (first x xs))) (cases x xs y (back y (first y ys))) in
    let rest : xs ≡ ys =
    one_order xs ys (sorted_tail (slice_cmp nat_cmp) x xs u) (sorted_tail (slice_cmp nat_cmp) y ys v)
    (λ t c. behind_first x xs y ys u same t c (cases y ys t (there t (later x xs t c))))
    (λ t c. behind_first y ys x xs v (sym same) t c (cases x xs t (back t (later y ys t c)))) in
    ap (λ z. z ∷ xs) same ∙ ap (λ zs. y ∷ zs) rest
