-- Comparing dicts.
use Rattle.std.proofs.Common.{◌≡◌, ℕ, zero, suc, Bool, true, false, ◌&&◌, ◌||◌, ◌==◌, ◌∙◌, refl, sym, ap, ◌+◌, ◌<◌, List, [], ◌∷◌, length, map, drop, get_or, add-one}
use Rattle.std.specs.Ordering.{is_eq, is_some_and}
use Rattle.rd_value.specs.declared.value.FileValue.{FileValue}
use Rattle.rd_value.specs.declared.value.Datum.{Datum, out-Datum}
use Rattle.rd_value.specs.declared.value.Datum.TheViews as made
use Rattle.rd_value.specs.declared.value.Datum.TheVariants as variant
use Rattle.rd_value.specs.declared.value.Datum.TheOpen.{Datum-F}
use Rattle.rd_value.specs.declared.value.Datum.TheFolds.{fold-roll-Datum}
use Rattle.rd_value.proofs.Walks.{item_first}
use Rattle.rd_value.specs.Compare.{Test, finds, finds_pair, finds_pairs, compared, compared_at, equal_if}

absorbed : (a b : Bool) → (a || (a || b)) ≡ (a || b)
absorbed true b = refl
absorbed false b = refl

kept_or : (a b c : Bool) → (b || c) ≡ c → (b || (a || c)) ≡ (a || c)
kept_or true true c h = refl
kept_or true false c h = refl
kept_or false b c h = h

-- what is found from a place on is found
pub found_from : {V : Type 0} (test : Test V × Test V) (qs : List (V × V)) (i : ℕ) → (finds_pair test (drop i qs) || finds_pair test qs) ≡ finds_pair test qs
found_from test qs zero = same (finds_pair test qs)
  where
    same : (b : Bool) → (b || b) ≡ b
    same true = refl
    same false = refl
found_from test [] (suc i) = refl
found_from test (q ∷ qs) (suc i) = kept_or (finds test.0 q.0 && finds test.1 q.1) (finds_pair test (drop i qs)) (finds_pair test qs) (found_from test qs i)

abbrev pub tests : {F : Type 0} (file : F → FileValue) → List (Datum F × Datum F) → List (Test (Datum F) × Test (Datum F))
tests file ps = map (λ p. (compared file p.0, compared file p.1)) ps

pub compared_dict : {F : Type 0} (file : F → FileValue) (ps qs : List (Datum F × Datum F)) → compared file (variant.Dict ps) (variant.Dict qs)
    ≡ equal_if ((length (tests file ps) == length qs) && finds_pairs (tests file ps) qs)
unfolding made.roll-Datum denote.Hole.Carrier.roll
compared_dict {F} file ps qs =
    ap (λ f. f (variant.Dict qs)) (fold-roll-Datum F (Test (Datum F)) (λ x w. compared_at file x (out-Datum F w)) (Datum-F.Dict ps)) ∙
    ap (compared_at file (Datum-F.Dict (tests file ps))) (made.out-roll-Datum F (Datum-F.Dict qs))

-- a pair that is found leaves the rest to be looked for
pub one_found : {F : Type 0} (file : F → FileValue) (ps qs : List (Datum F × Datum F)) (i : ℕ) (p : Datum F × Datum F) → i < length ps → p ≡ get_or ps i p →
    finds_pair (compared file p.0, compared file p.1) qs ≡ true → finds_pairs (tests file (drop (i + 1) ps)) qs ≡ finds_pairs (tests file (drop i ps)) qs
one_found file ps qs i p l e h = rw (item_first ps i p l e, h) (and_true (finds_pairs (tests file (drop (i + 1) ps)) qs))
  where
    and_true : (b : Bool) → b ≡ (true && b)
    and_true b = refl

drop_suc : {A : Type 0} (xs : List A) (i : ℕ) → drop 1 (drop i xs) ≡ drop (suc i) xs
drop_suc [] zero = refl
drop_suc (x ∷ xs) zero = refl
drop_suc [] (suc i) = refl
drop_suc (x ∷ xs) (suc i) = drop_suc xs i

-- what is left behind the first of what is left
pub drop_next : {A : Type 0} (xs : List A) (i : ℕ) → drop 1 (drop i xs) ≡ drop (i + 1) xs
drop_next xs i = rw add-one (drop_suc xs i)
