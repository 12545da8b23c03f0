-- An item is no deeper than the deepest one.
use Rattle.std.proofs.Common.{◌≡◌, ℕ, zero, suc, ◌<◌, ◌≤◌, max, List, [], ◌∷◌, length, map, get_or, sym, subst, arith}
use Rattle.rd_value.specs.declared.value.Datum.{Datum}
use Rattle.rd_value.specs.Depth.{depth, greatest, greater}

up_left : (a b : ℕ) → a ≤ max a b
up_left a b = omega arith

up_right : (a b c : ℕ) → a ≤ c → a ≤ max b c
up_right a b c h = omega arith

pub item_depth : {F : Type 0} (xs : List (Datum F)) (i : ℕ) (x : Datum F) → i < length xs → x ≡ get_or xs i x → depth x ≤ greatest (map depth xs)
item_depth [] i x h e = absurd (omega arith)
item_depth (y ∷ ys) zero x h e = subst (λ z. depth z ≤ max (depth y) (greatest (map depth ys))) (sym e) (up_left (depth y) (greatest (map depth ys)))
item_depth (y ∷ ys) (suc i) x h e = up_right _ (depth y) _ (item_depth ys i x (omega arith) e)

pub pair_depth : {F : Type 0} (ps : List (Datum F × Datum F)) (i : ℕ) (p : Datum F × Datum F) → i < length ps → p ≡ get_or ps i p →
    max (depth p.0) (depth p.1) ≤ greatest (map greater (map (λ q. (depth q.0, depth q.1)) ps))
pair_depth [] i p h e = absurd (omega arith)
pair_depth (q ∷ qs) zero p h e = subst (λ z. max (depth z.0) (depth z.1) ≤ max (max (depth q.0) (depth q.1)) (greatest (map greater (map (λ r. (depth r.0, depth r.1)) qs)))) (sym e) (up_left (max (depth q.0) (depth q.1)) _)
pair_depth (q ∷ qs) (suc i) p h e = up_right _ (max (depth q.0) (depth q.1)) _ (pair_depth qs i p (omega arith) e)
