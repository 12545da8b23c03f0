-- Different texts that are sorted ascend.
use Rattle.std.proofs.Common.{◌≡◌, ℕ, zero, suc, ◌+◌, ◌<◌, Bool, true, false, List, [], ◌∷◌, length, get_or, refl, sym, ap, subst, ◌∙◌, arith}
use Rattle.std.proofs.lemmas.Cmp.{nat_list_cmp_total}
use Rattle.std.proofs.lemmas.Map.Keys.{sorted_from_all_adjacent, IsDistinct-IsPermutation}
use Rattle.std.proofs.lemmas.Map.Lookups.{exact_bytes}
use Rattle.std.proofs.lemmas.Slice.Eq.{bytes_eq-Decides}
use Rattle.std.specs.Cmp.Lexicographic.{slice_cmp}
use Rattle.std.specs.declared.cmp.Ordering.{Ordering}
use Rattle.std.specs.declared.cmp.Ordering.TheVariants.{Less, Equal, Greater}
use Rattle.std.specs.List.{IsDistinct}
use Rattle.std.specs.Ordering.{is_lt, nat_cmp, ordering_reverse}
use Rattle.std.specs.Prelude.{IsPermutation, IsSortedBy}
use Rattle.std.specs.Str.{bytes_eq}
use Rattle.rd_registry.specs.Resolved.{AreAscending}
use Rattle.rd_registry.proofs.Elements.{holds_at}

abbrev pub below : List ℕ → List ℕ → Bool
below x y = is_lt (slice_cmp nat_cmp x y)

turned_if : (p q : Bool) → (p ≡ true → q ≡ true) → (q ≡ true → p ≡ true) → p ≡ q
turned_if true q f g = sym (f refl)
turned_if false true f g = g refl
turned_if false false f g = refl

turned : (x y : List ℕ) → bytes_eq x y ≡ bytes_eq y x
turned x y = turned_if (bytes_eq x y) (bytes_eq y x) (λ h. (bytes_eq-Decides y x).1 (sym ((bytes_eq-Decides x y).0 h))) (λ h. (bytes_eq-Decides x y).1 (sym ((bytes_eq-Decides y x).0 h)))

-- neighbors differ
apart : (xs : List (List ℕ)) (k : ℕ) (d : List ℕ) → IsDistinct bytes_eq xs → k + 1 < length xs → bytes_eq (get_or xs k d) (get_or xs (k + 1) d) ≡ false
unfolding IsDistinct
apart [] k d u h = absurd (omega (arith, h))
apart (x ∷ []) k d u h = absurd (omega (arith, h))
apart (x ∷ y ∷ ys) zero d u h = holds_at (λ z. bytes_eq x z ≡ false) (y ∷ ys) y u.0 (0, omega arith, refl)
apart (x ∷ y ∷ ys) (suc k) d u h = subst (λ n. bytes_eq (get_or (y ∷ ys) k d) (get_or (x ∷ y ∷ ys) n d) ≡ false) {x = suc (k + 1)} {y = suc k + 1} (omega arith) (apart (y ∷ ys) k d u.1 (omega (arith, h)))

-- texts that differ, of which the second isn't below the first
less_by : (x y : List ℕ) (o : Ordering) → slice_cmp nat_cmp x y ≡ o → bytes_eq x y ≡ false → below y x ≡ false → slice_cmp nat_cmp x y ≡ Less
less_by x y Less e f g = e
less_by x y Equal e f g = absurd (let no : true ≡ false = sym ((bytes_eq-Decides x y).1 (exact_bytes x y e)) ∙ f in cc)
less_by x y Greater e f g =
    let other : slice_cmp nat_cmp y x ≡ Less = nat_list_cmp_total.antisymm y x ∙ ap ordering_reverse e in
    absurd (let no : true ≡ false = sym (ap is_lt other) ∙ g in cc)

pub ascends : (texts sorted : List (List ℕ)) → IsDistinct bytes_eq texts → IsPermutation texts sorted → IsSortedBy below sorted → AreAscending sorted
ascends texts sorted u moved is =
    let distinct : IsDistinct bytes_eq sorted = IsDistinct-IsPermutation bytes_eq turned texts sorted moved u in
    sorted_from_all_adjacent nat_list_cmp_total sorted [] (λ k h. less_by (get_or sorted k []) (get_or sorted (k + 1) []) (slice_cmp nat_cmp (get_or sorted k []) (get_or sorted (k + 1) [])) refl (apart sorted k [] distinct h) (is k [] (omega arith) h))
