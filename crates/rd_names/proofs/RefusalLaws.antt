-- The refusal that is answered is the first.
use Rattle.std.proofs.Common.{◌≡◌, ◌⊎◌, inl, inr, ℕ, ◌<◌, ◌≤◌, ◌+◌, ◌*◌, Bool, true, false, if◌then◌else◌, List, [], ◌∷◌, Option, None, Some, MatchOption, arith, refl, sym, subst, ◌∙◌}
use Rattle.std.specs.Bool.{Decides}
use Rattle.std.specs.List.{All, Contains}
use Rattle.std.proofs.lemmas.Bool.{cases_lt}
use Rattle.std.proofs.lemmas.Bool.Decides.{Decides-and, Decides-or, Decides-ltb, Decides-eqb, not_from_Decides}
use Rattle.std.proofs.lemmas.List.Elements.{All-cons, All-nil, All-head, All-tail, All-weaker, Contains-append_cases, Contains-append_left, Contains-append_right, Contains-push}
use Rattle.rd_names.specs.declared.refusal.Broken.{Broken}
use Rattle.rd_names.specs.declared.refusal.Broken.TheVariants as b
use Rattle.rd_names.specs.declared.refusal.Refusal.{Refusal}
use Rattle.rd_names.specs.Refusals.{rank, Before, IsFirst, is_before, soonest}

before_decides : (r s : Refusal) → Decides (is_before r s) (Before r s)
before_decides r s = Decides-or _ _ (Decides-ltb r.line s.line) (Decides-and _ _ (Decides-eqb r.line s.line) (Decides-ltb (rank r.rule) (rank s.rule)))

-- the lines and the places on a line in one number
weight : Refusal → ℕ
weight r = 3 * r.line + rank r.rule

small : (x : Broken) → rank x ≤ 2
small b.DoubleName = omega arith
small b.BadOption = omega arith
small b.UnknownName = omega arith

lighter : (r s : Refusal) → Before r s → weight r < weight s
unfolding weight
lighter r s (inl a) = omega (arith, a, small r.rule)
lighter r s (inr a) = omega (arith, a.0, a.1)

no_lighter : (r s : Refusal) → ¬ Before r s → weight s ≤ weight r
unfolding weight
no_lighter r s n = by_line (cases_lt r.line s.line) (cases_lt s.line r.line) (cases_lt (rank r.rule) (rank s.rule))
  where
    by_line : (r.line < s.line) ⊎ (s.line ≤ r.line) → (s.line < r.line) ⊎ (r.line ≤ s.line) → (rank r.rule < rank s.rule) ⊎ (rank s.rule ≤ rank r.rule) → 3 * s.line + rank s.rule ≤ 3 * r.line + rank r.rule
    by_line (inl a) q k = absurd (n (inl a))
    by_line (inr a) (inl q) k = omega (arith, q, small s.rule)
    by_line (inr a) (inr q) (inl k) = absurd (n (inr (omega (arith, a, q), k)))
    by_line (inr a) (inr q) (inr k) = omega (arith, a, k)

heavy_not : (r s : Refusal) → weight r ≤ weight s → ¬ Before s r
heavy_not r s h k = let less : weight s < weight r = lighter s r k in omega (arith, h, less)

-- the lightest of a list that isn't empty
abbrev Least : Refusal → List Refusal → Type 0
Least r rs = Contains rs r × All (λ s. weight r ≤ weight s) rs

later_of : (x : Refusal) (xs : List Refusal) (r : Refusal) → Contains xs r → Contains (x ∷ xs) r
later_of x xs r k = Contains-append_right (x ∷ []) xs r k

-- what is found, where one was found before
abbrev Found : Refusal → List Refusal → Type 0
Found f rs = (r : Refusal) × (soonest (Some f) rs ≡ Some r) × Least r (f ∷ rs)

-- another that is lighter
least_after : (f s r : Refusal) (rs : List Refusal) → weight s ≤ weight f → Least r (s ∷ rs) → Least r (f ∷ s ∷ rs)
least_after f s r rs h k =
    let here : weight r ≤ weight s = All-head (λ x. weight r ≤ weight x) s rs k.1 in
    (later_of f (s ∷ rs) r k.0, All-cons (λ x. weight r ≤ weight x) f (s ∷ rs) (omega (arith, here, h)) k.1)

-- another that isn't
least_before : (f s r : Refusal) (rs : List Refusal) → weight f ≤ weight s → Least r (f ∷ rs) → Least r (f ∷ s ∷ rs)
least_before f s r rs h k =
    let here : weight r ≤ weight f = All-head (λ x. weight r ≤ weight x) f rs k.1 in
    let rest : All (λ x. weight r ≤ weight x) rs = All-tail (λ x. weight r ≤ weight x) f rs k.1 in
    (there (Contains-append_cases (f ∷ []) rs r k.0), All-cons (λ x. weight r ≤ weight x) f (s ∷ rs) here (All-cons (λ x. weight r ≤ weight x) s rs (omega (arith, here, h)) rest))
  where
    there : Contains (f ∷ []) r ⊎ Contains rs r → Contains (f ∷ s ∷ rs) r
    there (inl a) = Contains-append_left (f ∷ []) (s ∷ rs) r a
    there (inr a) = later_of f (s ∷ rs) r (later_of s rs r a)

choose : (f s : Refusal) (rs : List Refusal) (t : Bool) → is_before s f ≡ t → Found s rs → Found f rs → Found f (s ∷ rs)
choose f s rs true e g h =
    let less : weight s < weight f = lighter s f ((before_decides s f).0 e) in
    (g.0, subst (λ (t : Bool). soonest (if t then Some s else Some f) rs ≡ Some g.0) (sym e) g.1, least_after f s g.0 rs (omega (arith, less)) g.2)
choose f s rs false e g h =
    let no : ¬ Before s f = not_from_Decides (is_before s f) (before_decides s f) e in
    (h.0, subst (λ (t : Bool). soonest (if t then Some s else Some f) rs ≡ Some h.0) (sym e) h.1, least_before f s h.0 rs (no_lighter s f no) h.2)

found : (f : Refusal) (rs : List Refusal) → Found f rs
found f [] = (f, refl, (Contains-push [] f, All-cons (λ x. weight f ≤ weight x) f [] (omega arith) (All-nil (λ x. weight f ≤ weight x))))
found f (s ∷ rs) = choose f s rs (is_before s f) refl (found s rs) (found f rs)

pub first_of : (rs : List Refusal) (o : Option Refusal) → o ≡ soonest None rs → MatchOption o (rs ≡ []) (λ r. IsFirst r rs)
first_of [] o e = subst (λ (p : Option Refusal). MatchOption p (nothing ≡ []) (λ r. IsFirst r nothing)) (sym e) refl
  where
    nothing : List Refusal
    nothing = []
first_of (r ∷ rs) o e =
    let g = found r rs in
    let is_first : IsFirst g.0 (r ∷ rs) = (g.2.0, All-weaker (λ s. weight g.0 ≤ weight s) (λ s. ¬ Before s g.0) (λ s h. heavy_not g.0 s h) (r ∷ rs) g.2.1) in
    subst (λ (p : Option Refusal). MatchOption p (r ∷ rs ≡ []) (λ x. IsFirst x (r ∷ rs))) (sym (e ∙ g.1)) is_first
