-- The laws of each way to build a form, over sets of tokens that are lists.
use Rattle.std.proofs.Common.{◌≡◌, ℕ, suc, Bool, true, false, not, ◌&&◌, ◌||◌, List, [], ◌∷◌, ◌++◌, Option, Some, refl, ap, sym, subst, ◌∙◌, append_assoc, inl, inr}
use Rattle.rd_syntax.specs.declared.token.Token.{Token}
use Rattle.rd_parse.specs.declared.terminal.Terminal.{Terminal}
use Rattle.rd_parse.specs.declared.terminal.Terminal.TheVariants as w
use Rattle.rd_parse.specs.Form.{Form, one, yields, bound, either, many, opening, tail, more}
use Rattle.rd_parse.specs.Reader.{Reader, sees, hits, ◌>>=◌, pure, read_one, read_either, read_pick, read_many, read_opening, read_tail, read_more}
use Rattle.rd_parse.specs.Terminal.{terminal, is, is_bracket, plain}
use Rattle.rd_parse.proofs.Laws.{Lawful, join}
use Rattle.rd_parse.proofs.Depth.{down_suc}
use Rattle.rd_parse.proofs.Rules.{Rule, Up, base, token, opens, value, binds, choice, repeats, relabel}
use Rattle.rd_parse.proofs.Tail.{tail_lawful}
use Rattle.rd_parse.proofs.Pick.{Apart2, pick_lawful}
use Rattle.rd_parse.proofs.Dive.{Plain, every_both, one_plain, many_plain, tail_plain, Below, Brief, Dives, dives_for, down_dives, one_dives, opening_dives, yields_dives, bound_dives, either_dives}
use Rattle.rd_parse.proofs.DiveTurns.{many_dives, tail_dives, Firsts, pick_dives}
use Rattle.rd_parse.proofs.Sets.{holds_one, holds_same, holds_flag, set, within, disjoint, within_holds, sets_apart, either_of, join_set}
use Rattle.rd_parse.proofs.Samples.{example, example_is}

-- A reader that goes inward without a token that opens a level asks for what isn't there where no level may be open.
abbrev pub bare : Bool → ℕ → Type 0
bare false n = ⊥
bare true n = n ≡ 0

pub record AnyStep {A : Type 0} (inward : Bool) (U : ℕ → Type 0) (n : ℕ) (P : ℕ → Form Token A) (f : ℕ → Reader Token A) (first more : List Terminal) (null : Bool) : Type 0 where
  pub rule : Rule U n P f (set first) (set more) null
  pub dives : ((j : ℕ) → U j) → Dives (bare inward n) n P f
  pub brief : Brief P
  pub plain : Plain P

abbrev pub Step : {A : Type 0} → (ℕ → Type 0) → ℕ → (ℕ → Form Token A) → (ℕ → Reader Token A) → List Terminal → List Terminal → Bool → Type 0
Step = AnyStep false

-- inside a level that is open already
abbrev pub Inward : {A : Type 0} → (ℕ → Type 0) → ℕ → (ℕ → Form Token A) → (ℕ → Reader Token A) → List Terminal → List Terminal → Bool → Type 0
Inward = AnyStep true

bare_left : (a b : Bool) (n : ℕ) → bare a n → bare (a || b) n
bare_left true b n h = h
bare_left false b n h = absurd h

bare_right : (a b : Bool) (n : ℕ) → bare b n → bare (a || b) n
bare_right true true n h = h
bare_right true false n h = absurd h
bare_right false b n h = h

bare_zero : (b : Bool) (n : ℕ) → bare b n → n ≡ 0
bare_zero true n h = h
bare_zero false n h = absurd h

-- what was proved by itself
pub settled : {A : Type 0} {U : ℕ → Type 0} (n : ℕ) (X : ℕ → Form Token A) (f : ℕ → Reader Token A) {fp mp : List Terminal} {np : Bool} → ((j : ℕ) → Up j X) → Lawful n X f (set fp) (set mp) np → Dives ⊥ n X f → Brief X → Plain X → Step U n X f fp mp np
settled n X f u l d b p = record { rule = base n X f _ _ _ (λ j x. u j) l; dives = λ x. d; brief = b; plain = p }

-- what stands one level further in
pub one_further : {A : Type 0} {U : ℕ → Type 0} (n : ℕ) (X : ℕ → Form Token A) (f : ℕ → Reader Token A) {fp mp : List Terminal} {np : Bool} → ((j : ℕ) → U j → Up j X) → Below n X f (set fp) (set mp) np → Brief X → ((a : A) (ts rest : List Token) → X 0 a ts rest → ⊥) → Inward U n X f fp mp np
one_further n X f u l b shut = record { rule = base n X f _ _ _ u l.law; dives = λ x. l.dives; brief = b; plain = λ a ts rest h. absurd (shut a ts rest h) }

-- seen from one level further out
pub from_outside : {A : Type 0} {U : ℕ → Type 0} (n : ℕ) (P : ℕ → Form Token A) (f : ℕ → Reader Token A) {fp mp : List Terminal} {np : Bool} → ((j : ℕ) → U j) → Brief P → Step U n (λ m. P (suc m)) (λ m. f (suc m)) fp mp np → Below (suc n) P f (set fp) (set mp) np
from_outside n P f u b s = record { law = down_suc n P f _ _ _ (s.rule.law u); dives = dives_for (λ y. absurd y) (down_dives ⊥ n P f b (s.dives u)) }

sees_within : (s t : Token → Bool) → ((k : Token) → s k ≡ true → t k ≡ true) → (ts : List Token) → sees s ts ≡ true → sees t ts ≡ true
sees_within s t h [] e = e
sees_within s t h (k ∷ ts) e = h k e

sees_without : (s t : Token → Bool) → ((k : Token) → s k ≡ true → t k ≡ true) → (ts : List Token) → sees t ts ≡ false → sees s ts ≡ false
sees_without s t h [] e = e
sees_without s t h (k ∷ ts) e = by_test (s k) refl
  where
    by_test : (b : Bool) → b ≡ s k → s k ≡ false
    by_test true d = absurd (let y : t k ≡ true = h k (sym d) in let n : t k ≡ false = e in cc)
    by_test false d = sym d

-- larger sets
pub widen : {A : Type 0} {U : ℕ → Type 0} {n : ℕ} {P : ℕ → Form Token A} {f : ℕ → Reader Token A} {fp mp fq mq : Token → Bool} {np : Bool}
    → ((k : Token) → fp k ≡ true → fq k ≡ true) → ((k : Token) → mp k ≡ true → mq k ≡ true) → Rule U n P f fp mp np → Rule U n P f fq mq np
widen {fp = fp} {mp = mp} {fq = fq} {mq = mq} a b p = record {
  up = p.up;
  law = λ x. let l = p.law x in record {
    starts = λ v ts rest h. elim (l.starts v ts rest h) [ inl s ↦ inl (sees_within fp fq a ts s) | inr e ↦ inr e ];
    shrinks = l.shrinks;
    only = λ v ts rest h m. l.only v ts rest h (sees_without mp mq b rest m);
    found = l.found;
    refused = l.refused;
    some = l.some;
  };
}

pub wide : {A : Type 0} {b : Bool} {U : ℕ → Type 0} {n : ℕ} {P : ℕ → Form Token A} {f : ℕ → Reader Token A} {fp mp fq mq : List Terminal} {np : Bool}
    → within fp fq ≡ true → within mp mq ≡ true → AnyStep b U n P f fp mp np → AnyStep b U n P f fq mq np
unfolding set
wide {fp = fp} {mp = mp} {fq = fq} {mq = mq} a c p = record { rule = widen (λ k h. within_holds fp fq (terminal k) a h) (λ k h. within_holds mp mq (terminal k) c h) p.rule; dives = p.dives; brief = p.brief; plain = p.plain }

nowhere : (k : Token) → (λ (t : Token). false) k ≡ true → set [] k ≡ true
unfolding set
nowhere k h = h

abbrev brackets : List Terminal
brackets = w.LeftParen ∷ w.LeftSquare ∷ w.LeftCurly ∷ []

bracket_by : (κ : Terminal) → holds_one brackets κ ≡ is_bracket κ
bracket_by w.LeftParen = refl
bracket_by _ = refl

bracket_is : (t : Token) → set brackets t ≡ is_bracket (terminal t)
unfolding set
bracket_is t = bracket_by (terminal t)

-- the tokens of a set without brackets
all_plain : (ks : List Terminal) → disjoint ks brackets ≡ true → (k : Token) → set ks k ≡ true → plain k ≡ true
all_plain ks d k h = let apart : (set ks k && set brackets k) ≡ false = sets_apart ks brackets d k in ap not (sym (bracket_is k) ∙ rw h at apart)

-- a token that carries a value
pub carries : {A : Type 0} (U : ℕ → Type 0) (n : ℕ) (o : Token → Option A) (ks : List Terminal) → disjoint ks brackets ≡ true → (t : Token) (a : A) → o t ≡ Some a → ((k : Token) → hits o k ≡ true → set ks k ≡ true)
    → Step U n (λ _. one o) (λ _. read_one o) ks [] false
carries U n o ks none t a is h = record { rule = widen h nowhere (token U n o t a is); dives = λ x. one_dives ⊥ n o; brief = record { by_ = t ∷ []; value = a; gives = λ k. (is, refl) }; plain = one_plain o (λ k y. all_plain ks none k (h k y)) }

is_one : (κ : Terminal) (k : Token) → hits (is κ) k ≡ true → set (κ ∷ []) k ≡ true
unfolding set
is_one κ k h = holds_same (terminal k) κ h

-- this terminal
pub takes : (U : ℕ → Type 0) (n : ℕ) (κ : Terminal) → disjoint (κ ∷ []) brackets ≡ true → Step U n (λ _. one (is κ)) (λ _. read_one (is κ)) (κ ∷ []) [] false
takes U n κ none = carries U n (is κ) (κ ∷ []) none (example κ) tt (example_is κ) (is_one κ)

-- a token that opens a level
pub opened : {A : Type 0} (U : ℕ → Type 0) (n : ℕ) (o : Token → Option A) (ks : List Terminal) (t : Token) (a : A) → o t ≡ Some a → ((k : Token) → hits o k ≡ true → set ks k ≡ true)
    → Step U n (opening o) (read_opening o) ks [] false
opened U n o ks t a is h = record { rule = widen h nowhere (opens U n o t a is); dives = λ x. opening_dives ⊥ n o; brief = record { by_ = t ∷ []; value = a; gives = λ k. (is, refl) }; plain = λ a ts rest h. absurd h }

pub opens_with : (U : ℕ → Type 0) (n : ℕ) (κ : Terminal) → Step U n (opening (is κ)) (read_opening (is κ)) (κ ∷ []) [] false
opens_with U n κ = opened U n (is κ) (κ ∷ []) (example κ) tt (example_is κ) (is_one κ)

-- this value, of no token
pub makes : {A : Type 0} (U : ℕ → Type 0) (n : ℕ) (a : A) → Step U n (λ _. yields a) (λ _. pure a) [] [] true
makes U n a = record { rule = widen nowhere nowhere (value U n a); dives = λ x. yields_dives ⊥ n a; brief = record { by_ = []; value = a; gives = λ k. (refl, refl) }; plain = λ b ts rest h. ([], h.1, refl) }

module _ {A B : Type 0} {a b : Bool} {U : ℕ → Type 0} {n : ℕ} {P : ℕ → Form Token A} {Q : A → ℕ → Form Token B} {f : ℕ → Reader Token A} {g : A → ℕ → Reader Token B} {fp mp fq mq : List Terminal} {np nq : Bool}
    (apart : disjoint fq mp ≡ true) (p : AnyStep a U n P f fp mp np) (q : (x : A) → AnyStep b U n (Q x) (g x) fq mq nq) where
  chain : Rule U n (λ m. bound (P m) (λ x. Q x m)) (λ m. f m >>= λ x. g x m) (set (either_of np fp fq)) (set (either_of nq mq mp)) (np && nq)
  chain = relabel (λ t. join_set np fp fq t) (λ t. join_set nq mq mp t) (binds p.rule (λ x. (q x).rule) (sets_apart fq mp apart))

  chain_dives : (bad : Type 0) → (bare a n → bad) → ((x : A) (ts rest : List Token) → P n x ts rest → bare b n → bad) → ((j : ℕ) → U j) → Dives bad n (λ m. bound (P m) (λ x. Q x m)) (λ m. f m >>= λ x. g x m)
  chain_dives bad in_first in_second u =
      bound_dives (bare a n) (bare b n) bad n P Q f g (λ j. p.rule.up j (u j)) (λ x j. (q x).rule.up j (u j)) p.plain (p.rule.law u).found (λ x. (q x).brief) (p.dives u) (λ x. (q x).dives u) in_first in_second

  chain_brief : Brief (λ m. bound (P m) (λ x. Q x m))
  chain_brief =
      let first = p.brief in
      let second = (q first.value).brief in
      record {
        by_ = first.by_ ++ second.by_;
        value = second.value;
        gives = λ k. (first.value, second.by_ ++ k, subst (λ (ts : List Token). P 1 first.value ts (second.by_ ++ k)) (sym (append_assoc first.by_ second.by_ k)) (first.gives (second.by_ ++ k)), second.gives k);
      }

  chain_plain : Plain (λ m. bound (P m) (λ x. Q x m))
  chain_plain y ts rest h =
      let first = p.plain h.0 ts h.1 h.2 in
      let second = (q h.0).plain y h.1 rest h.3 in
      (first.0 ++ second.0, first.1 ∙ ap (λ (r : List Token). first.0 ++ r) second.1 ∙ sym (append_assoc first.0 second.0 rest), every_both first.0 second.0 first.2 second.2)

  -- one after the other
  pub then : AnyStep (a || b) U n (λ m. bound (P m) (λ x. Q x m)) (λ m. f m >>= λ x. g x m) (either_of np fp fq) (either_of nq mq mp) (np && nq)
  then = record { rule = chain; dives = chain_dives (bare (a || b) n) (bare_left a b n) (λ x ts rest h. bare_right a b n); brief = chain_brief; plain = chain_plain }

  -- the same, where the first one opens a level, so that what stands behind it isn't asked for where none may be open
  pub enters : ((x : A) (ts rest : List Token) → P 0 x ts rest → ⊥) → AnyStep a U n (λ m. bound (P m) (λ x. Q x m)) (λ m. f m >>= λ x. g x m) (either_of np fp fq) (either_of nq mq mp) (np && nq)
  enters shut = record { rule = chain; dives = chain_dives (bare a n) (λ h. h) (λ x ts rest h e. absurd (shut x ts rest (subst (λ m. P m x ts rest) (bare_zero b n e) h))); brief = chain_brief; plain = chain_plain }

-- behind this terminal, which opens a level
pub opens_then : {B : Type 0} {b : Bool} (U : ℕ → Type 0) (n : ℕ) (κ : Terminal) {Q : Unit {0} → ℕ → Form Token B} {g : Unit {0} → ℕ → Reader Token B} {fq mq : List Terminal} {nq : Bool}
    → disjoint fq [] ≡ true → ((u : Unit {0}) → AnyStep b U n (Q u) (g u) fq mq nq) → Step U n (λ m. bound (opening (is κ) m) (λ u. Q u m)) (λ m. read_opening (is κ) m >>= λ u. g u m) (κ ∷ []) (either_of nq mq []) false
opens_then U n κ apart q = enters apart (opens_with U n κ) q (λ u ts rest h. h)

-- one or the other, by the first token
pub chooses : {A : Type 0} {a b : Bool} {U : ℕ → Type 0} {n : ℕ} {P Q : ℕ → Form Token A} {f g : ℕ → Reader Token A} {fp mp fq mq : List Terminal} {nq : Bool}
    (s : Token → Bool) → ((t : Token) → set fp t ≡ s t) → disjoint fq fp ≡ true → AnyStep a U n P f fp mp false → AnyStep b U n Q g fq mq nq
    → AnyStep (a || b) U n (λ m. either (P m) (Q m)) (λ m. read_either s (f m) (g m)) (fp ++ fq) (either_of nq (mp ++ mq) fp) nq
chooses {a = a} {b = b} {U = U} {n = n} {P = P} {Q = Q} {f = f} {g = g} {fp = fp} {mp = mp} {fq = fq} {mq = mq} {nq = nq} s match_ apart p q =
    let same : set fp ≡ s = λ i t. match_ t i in
    record {
      rule = subst (λ (s : Token → Bool). Rule U n (λ m. either (P m) (Q m)) (λ m. read_either s (f m) (g m)) (set (fp ++ fq)) (set (either_of nq (mp ++ mq) fp)) nq) same
          (relabel (λ t. join_set true fp fq t) (λ t. more t nq) (choice p.rule q.rule (sets_apart fq fp apart)));
      dives = λ u. either_dives (bare (a || b) n) n s P Q f g (dives_for (bare_left a b n) (p.dives u)) (dives_for (bare_right a b n) (q.dives u));
      brief = record { by_ = p.brief.by_; value = p.brief.value; gives = λ k. inl (p.brief.gives k) };
      plain = λ a ts rest h. elim h [ inl x ↦ p.plain a ts rest x | inr x ↦ q.plain a ts rest x ];
    }
  where
    more : (t : Token) (b : Bool) → join b (join true (set mp) (set mq)) (set fp) t ≡ set (either_of b (mp ++ mq) fp) t
    more t true = ap (λ b. b || set fp t) (join_set true mp mq t) ∙ join_set true (mp ++ mq) fp t
    more t false = join_set true mp mq t

-- any number of them
pub each : {A : Type 0} {b : Bool} {U : ℕ → Type 0} {n : ℕ} {P : ℕ → Form Token A} {f : ℕ → Reader Token A} {fp mp : List Terminal}
    (s : Token → Bool) → ((t : Token) → set fp t ≡ s t) → disjoint fp mp ≡ true → AnyStep b U n P f fp mp false → AnyStep b U n (λ m. many (P m)) (λ m. read_many s (f m)) fp (fp ++ mp) true
each {b = b} {U = U} {n = n} {P = P} {f = f} {fp = fp} {mp = mp} s match_ apart p =
    let same : set fp ≡ s = λ i t. match_ t i in
    record {
      rule = subst (λ (s : Token → Bool). Rule U n (λ m. many (P m)) (λ m. read_many s (f m)) (set fp) (set (fp ++ mp)) true) same (relabel (λ t. refl) (λ t. join_set true fp mp t) (repeats p.rule (sets_apart fp mp apart)));
      dives = λ u. subst (λ (s : Token → Bool). Dives (bare b n) n (λ m. many (P m)) (λ m. read_many s (f m))) same (many_dives (bare b n) n P f (set fp) (set mp) (λ j. p.rule.up j (u j)) (p.rule.law u) (p.dives u) p.plain);
      brief = record { by_ = []; value = []; gives = λ k. refl };
      plain = many_plain P p.plain;
    }

-- the test for one terminal
pub tests : (κ : Terminal) (t : Token) → set (κ ∷ []) t ≡ hits (is κ) t
unfolding set
tests κ t = sym (holds_flag (terminal t) κ)

tail_up : {S C A : Type 0} (c : Token → Option C) (P : S → ℕ → Form Token A) (step : S → A → S) (j : ℕ) → ((s : S) → Up j (P s)) → (s : S) → Up j (λ m. tail c (λ s. P s m) step s)
tail_up c P step j u s [] ts rest h = h
tail_up c P step j u s (a ∷ more) ts rest h = (h.0, h.1, h.2, h.3, u s a h.1 h.3 h.4, tail_up c P step j u (step s a) more h.3 rest h.5)

comma_is : (t : Token) → hits (is w.Comma) t ≡ set (w.Comma ∷ []) t
comma_is t = sym (tests w.Comma t)

comma_apart : (mp : List Terminal) → disjoint (w.Comma ∷ []) mp ≡ true → (t : Token) → (hits (is w.Comma) t && set mp t) ≡ false
comma_apart mp apart t = rw (comma_is t) (sets_apart (w.Comma ∷ []) mp apart t)

comma_more : (all mp : List Terminal) (t : Token) → join true (hits (is w.Comma)) (join true (set all) (set mp)) t ≡ set (w.Comma ∷ (all ++ mp)) t
comma_more all mp t = rw (comma_is t, join_set true all mp t) (join_set true (w.Comma ∷ []) (all ++ mp) t)

-- those of a set are among those of a larger one
tested : (s : Token → Bool) (fp all : List Terminal) → ((t : Token) → set fp t ≡ s t) → within fp all ≡ true → (t : Token) → s t ≡ true → set all t ≡ true
unfolding set
tested s fp all match_ inside t h = within_holds fp all (terminal t) inside (match_ t ∙ h)

-- each behind a comma, where what came before decides what may come
pub commas_by : {S A : Type 0} {b : Bool} {U : ℕ → Type 0} {n : ℕ} {P : S → ℕ → Form Token A} {f : S → ℕ → Reader Token A} {fp : S → List Terminal} {mp : List Terminal}
    (test : S → Token → Bool) (step : S → A → S) (all : List Terminal) → ((s : S) (t : Token) → set (fp s) t ≡ test s t) → ((s : S) → within (fp s) all ≡ true) → disjoint (w.Comma ∷ []) mp ≡ true
    → ((s : S) → AnyStep b U n (P s) (f s) (fp s) mp false) → (s : S)
    → AnyStep b U n (λ m. tail (is w.Comma) (λ s. P s m) step s) (λ m. read_tail (is w.Comma) test (λ s. f s m) step s) (w.Comma ∷ []) (w.Comma ∷ (all ++ mp)) true
commas_by {b = b} {U = U} {n = n} {P = P} {f = f} {fp = fp} {mp = mp} test step all match_ inside apart p s = record {
  rule = relabel comma_is (comma_more all mp) (record {
    law = λ x. tail_lawful n (is w.Comma) (example w.Comma) tt (example_is w.Comma) P f test (set all) (set mp) step (λ s t h. tested (test s) (fp s) all (match_ s) (inside s) t h)
        (comma_apart mp apart) (λ s j. (p s).rule.up j (x j)) (λ s. (relabel (match_ s) (λ t. refl) (p s).rule).law x) s;
    up = λ j h. tail_up (is w.Comma) P step j (λ s. (p s).rule.up j h) s;
  });
  dives = λ x. tail_dives (bare b n) n (is w.Comma) (example w.Comma) tt (example_is w.Comma) P f test (set mp) step (λ s j. (p s).rule.up j (x j)) (λ s. (relabel (match_ s) (λ t. refl) (p s).rule).law x) (λ s. (p s).dives x) (takes U n w.Comma refl).plain (λ s. (p s).plain) s;
  brief = record { by_ = []; value = []; gives = λ k. inl refl };
  plain = tail_plain (is w.Comma) P step (takes U n w.Comma refl).plain (λ s. (p s).plain) s;
}

-- each behind a comma
pub commas : {A : Type 0} {b : Bool} {U : ℕ → Type 0} {n : ℕ} {P : ℕ → Form Token A} {f : ℕ → Reader Token A} {fp mp : List Terminal}
    (s : Token → Bool) → ((t : Token) → set fp t ≡ s t) → within fp fp ≡ true → disjoint (w.Comma ∷ []) mp ≡ true → AnyStep b U n P f fp mp false → AnyStep b U n (λ m. more (is w.Comma) (P m)) (λ m. read_more (is w.Comma) s (f m)) (w.Comma ∷ []) (w.Comma ∷ (fp ++ mp)) true
commas {A = A} {P = P} {f = f} {fp = fp} s match_ inside apart p = commas_by {P = λ (u : Unit {0}). P} {f = λ (u : Unit {0}). f} {fp = λ (u : Unit {0}). fp} (λ u. s) (λ (u : Unit {0}) (a : A). u) fp (λ u. match_) (λ u. inside) apart (λ u. p) tt

-- one or the other, by the first two tokens
pub picks : {A : Type 0} {x y : Bool} {U : ℕ → Type 0} {n : ℕ} {P Q : ℕ → Form Token A} {f g : ℕ → Reader Token A} {fp mp fq mq : List Terminal}
    (a : Token → Bool) (b : Option Token → Bool) (behind : List Terminal) → (((j : ℕ) → U j) → Apart2 n a b (set behind) P Q f g) → AnyStep x U n P f fp mp false → AnyStep y U n Q g fq mq false → (((j : ℕ) → U j) → Firsts (bare (x || y) n) n a b f g)
    → AnyStep (x || y) U n (λ m. either (P m) (Q m)) (λ m. read_pick a b (f m) (g m)) (fp ++ fq) (behind ++ (mp ++ mq)) false
picks {x = x} {y = y} {U = U} {n = n} {P = P} {Q = Q} {f = f} {g = g} {fp = fp} {mp = mp} {fq = fq} {mq = mq} a b behind apart p q firsts = record {
  rule = relabel (λ t. join_set true fp fq t) (λ t. ap (λ b. set behind t || b) (join_set true mp mq t) ∙ join_set true behind (mp ++ mq) t) (record {
    law = λ u. pick_lawful n a b (set behind) P Q f g (set fp) (set mp) (set fq) (set mq) (p.rule.law u) (q.rule.law u) (apart u);
    up = λ j u v ts rest h. elim h [ inl x ↦ inl (p.rule.up j u v ts rest x) | inr x ↦ inr (q.rule.up j u v ts rest x) ];
  });
  dives = λ u. pick_dives (bare (x || y) n) n a b P Q f g (dives_for (bare_left x y n) (p.dives u)) (dives_for (bare_right x y n) (q.dives u)) (firsts u);
  brief = record { by_ = p.brief.by_; value = p.brief.value; gives = λ k. inl (p.brief.gives k) };
  plain = λ a ts rest h. elim h [ inl x ↦ p.plain a ts rest x | inr x ↦ q.plain a ts rest x ];
}
