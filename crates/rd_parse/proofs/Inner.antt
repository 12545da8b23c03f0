-- The readers one level further in, where one more level may be open.
use Rattle.std.proofs.Common.{◌≡◌, ℕ, zero, suc, ◌-◌, ◌<◌, true, false, Ok, List, refl, sym, ap, ◌∙◌, arith}
use Rattle.rd_syntax.specs.declared.token.Token.{Token}
use Rattle.rd_parse.specs.declared.expression.build.Part.{Part}
use Rattle.rd_parse.specs.declared.halt.Halt.{Halt}
use Rattle.rd_parse.specs.Reader.{Outcome, sees, and_then}
use Rattle.rd_parse.specs.Terminal.{among}
use Rattle.rd_parse.specs.Gives.{Fails}
use Rattle.rd_parse.specs.Expressions.{Tree, begins_part, with_part}
use Rattle.rd_parse.specs.Reading.{inner, read_conditional, read_disjunction, read_inversion, read_factor, read_part, read_parts}
use Rattle.rd_parse.proofs.More.{by_true, by_false}
use Rattle.rd_parse.proofs.Halts.{fails_then, fails_along}

one_less : (n : ℕ) → n ≡ suc n - 1
one_less n = omega arith

pub expression_below : (n : ℕ) (ts : List Token) → 0 < n → (inner n).expression ts ≡ read_conditional (n - 1) (inner (n - 1)) ts
unfolding inner
expression_below zero ts h = absurd (omega arith)
expression_below (suc n) ts h = ap (λ k. read_conditional k (inner k) ts) (one_less n)

pub disjunction_below : (n : ℕ) (ts : List Token) → 0 < n → (inner n).disjunction ts ≡ read_disjunction (n - 1) (inner (n - 1)) ts
unfolding inner
disjunction_below zero ts h = absurd (omega arith)
disjunction_below (suc n) ts h = ap (λ k. read_disjunction k (inner k) ts) (one_less n)

pub inversion_below : (n : ℕ) (ts : List Token) → 0 < n → (inner n).inversion ts ≡ read_inversion (n - 1) (inner (n - 1)) ts
unfolding inner
inversion_below zero ts h = absurd (omega arith)
inversion_below (suc n) ts h = ap (λ k. read_inversion k (inner k) ts) (one_less n)

pub factor_below : (n : ℕ) (ts : List Token) → 0 < n → (inner n).factor ts ≡ read_factor (n - 1) (inner (n - 1)) ts
unfolding inner
factor_below zero ts h = absurd (omega arith)
factor_below (suc n) ts h = ap (λ k. read_factor k (inner k) ts) (one_less n)

pub parts_below : (n : ℕ) (e : Tree) (ts : List Token) → 0 < n → (inner n).parts e ts ≡ read_parts (n - 1) (inner (n - 1)) e ts
unfolding inner
parts_below zero e ts h = absurd (omega arith)
parts_below (suc n) e ts h = ap (λ k. read_parts k (inner k) e ts) (one_less n)

-- ---- the parts, as a loop reads them

parts_then : (n : ℕ) (e : Tree) (ts : List Token) (r : Outcome Token Part) → sees (among begins_part) ts ≡ true → read_part n (inner n) ts ≡ r → read_parts n (inner n) e ts ≡ and_then r (λ p. (inner n).parts (with_part e p))
unfolding read_parts
parts_then n e ts r y d = by_true (sees (among begins_part) ts) _ _ y ∙ ap (λ r. and_then r (λ p. (inner n).parts (with_part e p))) d

pub parts_go_on : (n : ℕ) (e : Tree) (p : Part) (ts rest : List Token) → sees (among begins_part) ts ≡ true → read_part n (inner n) ts ≡ Ok (p, rest) → 0 < n → read_parts n (inner n) e ts ≡ read_parts (n - 1) (inner (n - 1)) (with_part e p) rest
parts_go_on n e p ts rest y d h = parts_then n e ts (Ok (p, rest)) y d ∙ parts_below n (with_part e p) rest h

pub parts_done : (n : ℕ) (e : Tree) (ts : List Token) → sees (among begins_part) ts ≡ false → read_parts n (inner n) e ts ≡ Ok (e, ts)
unfolding read_parts
parts_done n e ts y = by_false (sees (among begins_part) ts) _ _ y

pub parts_fail : (n : ℕ) (e : Tree) (ts : List Token) (h : Halt) (total : Outcome Token Tree) → sees (among begins_part) ts ≡ true → Fails h (read_part n (inner n) ts) → read_parts n (inner n) e ts ≡ total → Fails h total
parts_fail n e ts h total y f same = fails_along h _ _ (sym (parts_then n e ts _ y refl) ∙ same) (fails_then h _ (λ p. (inner n).parts (with_part e p)) f)
