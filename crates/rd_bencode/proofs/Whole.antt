-- Whole inputs are read as what they spell.
use Rattle.std.proofs.Common.{◌≡◌, ℕ, ◌≤◌, Bool, true, false, ◌&&◌, cond, List, [], ◌∷◌, ◌++◌, length, Ok, Err, refl, sym, ap, subst, ◌∙◌, inl, append-nil, arith, nat_le}
use Rattle.rd_value.specs.Depth.{depth, depth_expr}
use Rattle.rd_value.specs.Limits.{is_within, is_within_expr, max_size, max_depth}
use Rattle.rd_bencode.specs.declared.read.error.ReadError.{ReadError}
use Rattle.rd_bencode.specs.declared.read.spot.Halt.{Halt}
use Rattle.rd_bencode.specs.Reader.{Outcome, Reader}
use Rattle.rd_bencode.specs.Proper.{IsProper, IsProperExpr}
use Rattle.rd_bencode.specs.Values.{Value, read_value}
use Rattle.rd_bencode.specs.Whole.{Reading, alone, all_read, read_all, limited, value_of, expr_of, IsOrMemory, Halts}
use Rattle.rd_bencode.proofs.Strings.{le_of, le_to}
use Rattle.rd_bencode.proofs.ValuesFound.{spelled, value_read}
use Rattle.rd_bencode.specs.Exprs.{Expr, read_expr}
use Rattle.rd_bencode.proofs.ValuesOnly.{only_value}
use Rattle.rd_bencode.proofs.ExprsFound.{spelled_expr, expr_read}
use Rattle.rd_bencode.proofs.ExprsOnly.{only_expr}

alone_found : {A : Type 0} (a : A) (rest : List ℕ) (b : A) → alone a rest ≡ Ok b → (a ≡ b) × (rest ≡ [])
alone_found a [] b h = (cc, refl)
alone_found a (x ∷ rest) b h = absurd cc

pub all_found : {A : Type 0} (r : Outcome A) (b : A) → all_read r ≡ Ok b → (l : List ℕ) × (r ≡ Ok (b, ([], l)))
all_found {A} (Ok x) b h = let p = alone_found x.0 x.1.0 b h in (x.1.1, ap (λ a. let r : Outcome A = Ok (a, (x.1.0, x.1.1)) in r) p.0 ∙ ap (λ k. let r : Outcome A = Ok (b, (k, x.1.1)) in r) p.1)
all_found (Err e) b h = absurd cc

pub limited_found : {A : Type 0} (p : Reader A) (bs : List ℕ) (a : A) → limited (read_all p) bs ≡ Ok a → (length bs ≤ max_size) × ((l : List ℕ) × (p (bs, bs) ≡ Ok (a, ([], l))))
limited_found {A} p bs a h = by_test (nat_le (length bs) max_size) refl h
  where
    by_test : (b : Bool) → nat_le (length bs) max_size ≡ b → cond b (read_all p bs) (let r : Reading A = Err bs in r) ≡ Ok a → (length bs ≤ max_size) × ((l : List ℕ) × (p (bs, bs) ≡ Ok (a, ([], l))))
    by_test true e h = (le_of (length bs) max_size e, all_found (p (bs, bs)) a h)
    by_test false e h = absurd cc

pub limited_only : {A : Type 0} (p : Reader A) (bs l : List ℕ) (a : A) → length bs ≤ max_size → p (bs, bs) ≡ Ok (a, ([], l)) → limited (read_all p) bs ≡ Ok a
limited_only p bs l a le h = rw (le_to (length bs) max_size le, h) refl

pub both_true : (a b : Bool) → (a && b) ≡ true → (a ≡ true) × (b ≡ true)
both_true true b h = (refl, h)
both_true false b h = absurd cc

pub value_found : (bs : List ℕ) (v : Value) → value_of bs ≡ Ok v → (bs ≡ spelled v) × (is_within (λ f. f) v ≡ true) × IsProper v
value_found bs v h =
    let a = limited_found (read_value max_depth) bs v h in
    let r = value_read max_depth (bs, bs) (v, ([], a.1.0)) a.1.1 in
    let is : bs ≡ spelled v = r.bytes ∙ append-nil (spelled v) in
    let small : length (spelled v) ≤ max_size = subst (λ b. length b ≤ max_size) is a.0 in
    (is, rw (le_to (length (spelled v)) max_size small, le_to (depth v) max_depth r.shallow) refl, r.proper)

pub value_only : (bs : List ℕ) (v : Value) → IsProper v → is_within (λ f. f) v ≡ true → bs ≡ spelled v → value_of bs ≡ Ok v
value_only bs v proper within is =
    let w = both_true (nat_le (length (spelled v)) max_size) (nat_le (depth v) max_depth) within in
    let small : length (spelled v) ≤ max_size = le_of (length (spelled v)) max_size w.0 in
    let shallow : depth v ≤ max_depth = le_of (depth v) max_depth w.1 in
    let whole : spelled v ++ [] ≡ bs = append-nil (spelled v) ∙ sym is in
    let g = only_value v max_depth [] proper shallow (omega (arith, small)) bs in
    limited_only (read_value max_depth) bs g.0 v (subst (λ b. length b ≤ max_size) (sym is) small) (ap (λ b. read_value max_depth (b, bs)) (sym whole) ∙ g.1)

-- ---- what a function answers where bytes spell something

pub told_ok : {A : Type 0} (reading : Reading A) (a b : A) → reading ≡ Ok a → reading ≡ Ok b → IsOrMemory (Ok a) b
told_ok reading a b p q = let is : a ≡ b = cc in inl (ap Ok is)

pub told_err : {A : Type 0} (reading : Reading A) (left : List ℕ) (e : ReadError) (b : A) → reading ≡ Err left → reading ≡ Ok b → IsOrMemory (Err e) b
told_err reading left e b p q = absurd cc

-- a halt that is no want of memory
pub told_halt : {A : Type 0} (reading : Reading A) (h k : Halt) (e : ReadError) (b : A) → h ≡ k → Halts h reading → (Halts k reading → reading ≡ Ok b → ⊥) → reading ≡ Ok b → IsOrMemory (Err e) b
told_halt reading h k e b is f never q = absurd (never (subst (λ h. Halts h reading) is f) q)

pub never_both : {A : Type 0} (reading : Reading A) (left : List ℕ) (b : A) → reading ≡ Err left → reading ≡ Ok b → ⊥
never_both reading left b p q = absurd cc

-- ---- expressions

pub expr_found : (bs : List ℕ) (e : Expr) → expr_of bs ≡ Ok e → (bs ≡ spelled_expr e) × (is_within_expr (λ f. f) e ≡ true) × IsProperExpr e
expr_found bs e h =
    let a = limited_found (read_expr max_depth) bs e h in
    let r = expr_read max_depth (bs, bs) (e, ([], a.1.0)) a.1.1 in
    let is : bs ≡ spelled_expr e = r.bytes ∙ append-nil (spelled_expr e) in
    let small : length (spelled_expr e) ≤ max_size = subst (λ b. length b ≤ max_size) is a.0 in
    (is, rw (le_to (length (spelled_expr e)) max_size small, le_to (depth_expr e) max_depth r.shallow) refl, r.proper)

pub expr_only : (bs : List ℕ) (e : Expr) → IsProperExpr e → is_within_expr (λ f. f) e ≡ true → bs ≡ spelled_expr e → expr_of bs ≡ Ok e
expr_only bs e proper within is =
    let w = both_true (nat_le (length (spelled_expr e)) max_size) (nat_le (depth_expr e) max_depth) within in
    let small : length (spelled_expr e) ≤ max_size = le_of (length (spelled_expr e)) max_size w.0 in
    let shallow : depth_expr e ≤ max_depth = le_of (depth_expr e) max_depth w.1 in
    let whole : spelled_expr e ++ [] ≡ bs = append-nil (spelled_expr e) ∙ sym is in
    let g = only_expr e max_depth [] proper shallow (omega (arith, small)) bs in
    limited_only (read_expr max_depth) bs g.0 e (subst (λ b. length b ≤ max_size) (sym is) small) (ap (λ b. read_expr max_depth (b, bs)) (sym whole) ∙ g.1)
