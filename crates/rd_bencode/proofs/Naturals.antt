-- Numbers of 64 bits are read back, and nothing else is.
use Rattle.std.proofs.Common.{◌≡◌, ℕ, ◌+◌, ◌*◌, ◌-◌, ◌^◌, ◌<◌, ◌≤◌, ◌==◌, Bool, true, false, cond, List, [], ◌∷◌, ◌++◌, decimal, Option, Some, None, Ok, refl, sym, ap, subst, ◌∙◌, append_assoc, arith, nat_le}
use Rattle.rd_bencode.specs.Reader.{Place, opt_then, is_digit, greatest, with_digit, leading, behind}
use Rattle.rd_bencode.specs.RecordReaders.{natural_at, natural, read_natural}
use Rattle.rd_bencode.specs.Records.{number}
use Rattle.rd_bencode.proofs.Exact.{Exact}
use Rattle.rd_bencode.proofs.Steps.{same_number, taken_found}
use Rattle.rd_bencode.proofs.Strings.{le_of, opt_inv, behind_found, behind_only, leading_decimal}

next_fits : (next m : ℕ) (b : Bool) → nat_le next greatest ≡ b → cond b (let o : Option ℕ = Some next in o) None ≡ Some m → m ≤ greatest
next_fits next m true e h = let p : next ≡ m = cc in subst (λ k. k ≤ greatest) p (le_of next greatest e)
next_fits next m false e h = absurd cc

pub leading_fits : (m : ℕ) (bs : List ℕ) (n : ℕ) → m ≤ greatest → leading m bs ≡ Some n → n ≤ greatest
leading_fits m [] n le h = let p : m ≡ n = cc in subst (λ k. k ≤ greatest) p le
leading_fits m (b ∷ bs) n le h = by_test (λ m. leading_fits m bs n) (is_digit b) h
  where
    by_test : ((m : ℕ) → m ≤ greatest → leading m bs ≡ Some n → n ≤ greatest) → (t : Bool) → cond t (opt_then (with_digit m b) (λ next. leading next bs)) (Some m) ≡ Some n → n ≤ greatest
    by_test others true h = let a = opt_inv (with_digit m b) (λ next. leading next bs) n h in others a.0 (next_fits (10 * m + (b - 48)) a.0 (nat_le (10 * m + (b - 48)) greatest) refl a.1) a.2
    by_test others false h = let p : m ≡ n = cc in subst (λ k. k ≤ greatest) p le

pair_is : (n : ℕ) (r : List ℕ) (x : ℕ × List ℕ) → (let o : Option (ℕ × List ℕ) = Some (n, r) in o) ≡ Some x → (n ≡ x.0) × (r ≡ x.1)
pair_is n r x e = let p : (let q : ℕ × List ℕ = (n, r) in q) ≡ x = cc in (ap (λ (q : ℕ × List ℕ). q.0) p, ap (λ (q : ℕ × List ℕ). q.1) p)

natural_at_found : (bs : List ℕ) (x : ℕ × List ℕ) → natural_at bs ≡ Some x → (bs ≡ decimal x.0 ++ (101 ∷ x.1)) × (x.0 ≤ greatest)
natural_at_found bs x h =
    let a = opt_inv (leading 0 bs) (λ n. opt_then (behind (decimal n) bs) (λ r. opt_then (behind (101 ∷ []) r) (λ t. Some (n, t)))) x h in
    let b = opt_inv (behind (decimal a.0) bs) (λ r. opt_then (behind (101 ∷ []) r) (λ t. Some (a.0, t))) x a.2 in
    let d = opt_inv (behind (101 ∷ []) b.0) (λ t. Some (a.0, t)) x b.2 in
    let e = pair_is a.0 d.0 x d.2 in
    let first : bs ≡ decimal x.0 ++ b.0 = behind_found (decimal a.0) bs b.0 b.1 ∙ ap (λ k. decimal k ++ b.0) e.0 in
    let second : b.0 ≡ 101 ∷ x.1 = behind_found (101 ∷ []) b.0 d.0 d.1 ∙ ap (λ y. 101 ∷ y) e.1 in
    (first ∙ ap (λ y. decimal x.0 ++ y) second, subst (λ k. k ≤ greatest) e.0 (leading_fits 0 bs a.0 (omega arith) a.1))

natural_by : (b : ℕ) (bs : List ℕ) (x : ℕ × List ℕ) (t : Bool) → (b == 105) ≡ t → cond t (natural_at bs) None ≡ Some x → (b ∷ bs ≡ 105 ∷ (decimal x.0 ++ (101 ∷ x.1))) × (x.0 ≤ greatest)
natural_by b bs x true e h = let i = natural_at_found bs x h in (ap (λ c. c ∷ bs) (same_number b 105 e) ∙ ap (λ r. 105 ∷ r) i.0, i.1)
natural_by b bs x false e h = absurd cc

natural_in : (bs : List ℕ) (x : ℕ × List ℕ) → natural bs ≡ Some x → (bs ≡ 105 ∷ (decimal x.0 ++ (101 ∷ x.1))) × (x.0 ≤ greatest)
natural_in [] x h = absurd cc
natural_in (b ∷ bs) x h = natural_by b bs x (b == 105) refl h

abbrev NumberFound : Place → ℕ × Place → Type 0
NumberFound s y = (s.0 ≡ number y.0 ++ y.1.0) × (y.0 < 2 ^ 64)

natural_found : (s : Place) (y : ℕ × Place) → read_natural s ≡ Ok y → NumberFound s y
unfolding read_natural
natural_found s y h =
    let a = taken_found s.0 (natural s.0) y h in
    let f = natural_in s.0 a.0 a.1 in
    let assoc : (decimal a.0.0 ++ (101 ∷ [])) ++ a.0.1 ≡ decimal a.0.0 ++ (101 ∷ a.0.1) = append_assoc (decimal a.0.0) (101 ∷ []) a.0.1 in
    subst (NumberFound s) a.2 (f.0 ∙ ap (λ r. 105 ∷ r) (sym assoc), omega (arith, f.1))

natural_read : (n : ℕ) (k : List ℕ) → n < 2 ^ 64 → natural (105 ∷ (decimal n ++ (101 ∷ k))) ≡ Some (n, k)
natural_read n k small = rw (leading_decimal n (101 ∷ k) (omega (arith, small)), behind_only (decimal n) (101 ∷ k)) refl

natural_only : (n : ℕ) (k last : List ℕ) → n < 2 ^ 64 → (l : List ℕ) × (read_natural (number n ++ k, last) ≡ Ok (n, (k, l)))
unfolding read_natural
natural_only n k last small =
    let assoc : (decimal n ++ (101 ∷ [])) ++ k ≡ decimal n ++ (101 ∷ k) = append_assoc (decimal n) (101 ∷ []) k in
    (105 ∷ (decimal n ++ (101 ∷ k)), rw (assoc, natural_read n k small) refl)

pub exact_natural : Exact read_natural number (λ n. n < 2 ^ 64)
exact_natural = record { found = natural_found; only = λ n k small le last. natural_only n k last small }
