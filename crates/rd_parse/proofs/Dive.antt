-- Where reading stops at a token that opens one level too many.
use Rattle.std.proofs.Common.{◌≡◌, ℕ, zero, suc, ◌≤◌, Bool, true, false, cond, List, [], ◌∷◌, ◌++◌, Option, Some, None, Ok, Err, refl, sym, ap, subst, ◌∙◌, append_assoc, arith, inl, inr, ◌⊎◌}
use Rattle.rd_parse.specs.Form.{Form, one, yields, bound, either, many, tail, opening, below}
use Rattle.rd_parse.specs.Reader.{Refused, Deep, Outcome, Reader, head, holds, sees, is_there, hits, and_then, ◌>>=◌, pure, took, read_one, read_either, read_opening, read_below}
use Rattle.std.specs.Prelude.{◌&&◌}
use Rattle.std.proofs.lemmas.List.{append-nil}
use Rattle.rd_parse.specs.Terminal.{plain}
use Rattle.rd_parse.specs.Such.{such, passed, read_such}
use Rattle.rd_parse.specs.Noting.{every, noting, before, read_noting}
use Rattle.rd_parse.proofs.Laws.{Grows, Completes, Found, Lawful, got, head_append, raise}
use Rattle.rd_parse.proofs.More.{by_true, by_false, way}
use Rattle.rd_parse.proofs.Sets.{and_both}
use Rattle.rd_parse.proofs.Depth.{down_zero, Same}
use Rattle.rd_syntax.specs.declared.token.Token.{Token}

abbrev pub sunk : {A : Type 0} → List Token → Outcome Token A
sunk rest = Err (Deep rest)

-- ---- what stands before the token

-- Texts in which no level is open have no brackets.
abbrev pub Plain : {A : Type 0} → (ℕ → Form Token A) → Type 0
Plain {A} P = (a : A) (ts rest : List Token) → P 0 a ts rest → (used : List Token) × (ts ≡ used ++ rest) × (every plain used ≡ true)

and_true : (a b : Bool) → a ≡ true → b ≡ true → (a && b) ≡ true
and_true true b h k = k
and_true false b h k = absurd cc

pub every_both : (a b : List Token) → every plain a ≡ true → every plain b ≡ true → every plain (a ++ b) ≡ true
every_both [] b x y = y
every_both (t ∷ a) b x y = let d = and_both (plain t) (every plain a) x in and_true (plain t) (every plain (a ++ b)) d.0 (every_both a b d.1 y)

pub one_plain : {A : Type 0} (o : Token → Option A) → ((k : Token) → hits o k ≡ true → plain k ≡ true) → Plain (λ _. one o)
one_plain o h a [] rest w = absurd w
one_plain o h a (t ∷ ts) rest w = (t ∷ [], ap (λ (r : List Token). t ∷ r) w.1, and_true (plain t) true (h t (ap is_there w.0)) refl)

pub many_plain : {A : Type 0} (P : ℕ → Form Token A) → Plain P → Plain (λ m. many (P m))
many_plain P p [] ts rest h = ([], h, refl)
many_plain P p (a ∷ more) ts rest h =
    let x = p a ts h.0 h.1 in
    let y = many_plain P p more h.0 rest h.2 in
    (x.0 ++ y.0, x.1 ∙ ap (λ (r : List Token). x.0 ++ r) y.1 ∙ sym (append_assoc x.0 y.0 rest), every_both x.0 y.0 x.2 y.2)

pub tail_plain : {S C A : Type 0} (c : Token → Option C) (P : S → ℕ → Form Token A) (step : S → A → S) → Plain (λ _. one c) → ((s : S) → Plain (P s)) → (s : S) → Plain (λ m. tail c (λ s. P s m) step s)
tail_plain c P step g p s [] ts rest h = elim h [ inl e ↦ ([], e, refl) | inr e ↦ g e.0 ts rest e.1 ]
tail_plain c P step g p s (a ∷ more) ts rest h =
    let z = g h.0 ts h.1 h.2 in
    let x = p s a h.1 h.3 h.4 in
    let y = tail_plain c P step g p (step s a) more h.3 rest h.5 in
    let xy = x.0 ++ y.0 in (
      z.0 ++ xy,
      z.1 ∙ ap (λ (r : List Token). z.0 ++ r) (x.1 ∙ ap (λ (r : List Token). x.0 ++ r) y.1 ∙ sym (append_assoc x.0 y.0 rest)) ∙ sym (append_assoc z.0 xy rest),
      every_both z.0 xy z.2 (every_both x.0 y.0 x.2 y.2),
    )

-- some token, here or behind, opens one level too many
abbrev pub Sinks : {A : Type 0} → Reader Token A → List Token → Type 0
Sinks f ts = (rest : List Token) × (f ts ≡ sunk rest)

-- What was read can be completed within so many levels, whatever comes then.
pub record Ends {A : Type 0} (n : ℕ) (P : ℕ → Form Token A) (used : List Token) : Type 0 where
  pub by_ : List Token
  pub value : A
  pub gives : (k : List Token) → P n value (used ++ (by_ ++ k)) k

-- A first part of the tokens begins a text within the levels, and behind it no bracket opens.
abbrev pub Fits : {A : Type 0} → ℕ → (ℕ → Form Token A) → List Token → Type 0
Fits zero P used = every plain used ≡ true
Fits (suc m) P used = (start : List Token) × (pending : List Token) × (used ≡ start ++ pending) × (every plain pending ≡ true) × Ends (suc m) P start

pub fits_map : {A B : Type 0} (n : ℕ) (P : ℕ → Form Token A) (Q : ℕ → Form Token B) (used : List Token) → ((u : List Token) → Ends n P u → Ends n Q u) → Fits n P used → Fits n Q used
fits_map zero P Q used h f = f
fits_map (suc m) P Q used h f = (f.0, f.1, f.2, f.3, h f.0 f.4)

-- behind a text
pub fits_behind : {A B D : Type 0} (n : ℕ) (P : ℕ → Form Token A) (Q : ℕ → Form Token B) (R : ℕ → Form Token D) (a : A) (before used : List Token) → Plain P → ((k : List Token) → P n a (before ++ k) k) → ((u : List Token) → Ends n Q u → Ends n R (before ++ u)) → Fits n Q used → Fits n R (before ++ used)
fits_behind zero P Q R a before used plain_p text h f =
    let p = plain_p a (before ++ []) [] (text []) in
    let same : before ≡ p.0 = sym (append-nil before) ∙ p.1 ∙ append-nil p.0 in
    every_both before used (ap (every plain) same ∙ p.2) f
fits_behind (suc m) P Q R a before used plain_p text h f = (before ++ f.0, f.1, ap (λ (u : List Token). before ++ u) f.2 ∙ sym (append_assoc before f.0 f.1), f.3, h f.0 f.4)

pub fits_down : {A : Type 0} (n : ℕ) (P : ℕ → Form Token A) (used : List Token) → Ends 1 P [] → Fits n (λ m. P (suc m)) used → Fits (suc n) P used
fits_down zero P used b f = ([], used, refl, f, b)
fits_down (suc m) P used b f = (f.0, f.1, f.2, f.3, record { by_ = f.4.by_; value = f.4.value; gives = f.4.gives })

-- One level is enough for some text.
abbrev pub Brief : {A : Type 0} → (ℕ → Form Token A) → Type 0
Brief P = Ends 1 P []

pub brief_some : {A : Type 0} (P : ℕ → Form Token A) → Brief P → Completes P []
brief_some P b = record { depth = 1; by_ = b.by_; value = b.value; gives = b.gives }

-- With one level more the tokens go on behind the one at which reading stopped. Within these levels they don't, whatever comes behind it.
pub record Dive {A : Type 0} (n : ℕ) (P : ℕ → Form Token A) (f : ℕ → Reader Token A) (ts rest : List Token) : Type 0 where
  pub used : List Token
  pub token : Token
  pub after : List Token
  pub parts : ts ≡ used ++ token ∷ after
  pub left : rest ≡ token ∷ after
  pub completes : Ends (suc n) P (used ++ token ∷ [])
  pub fits : Fits n P used
  pub sinks : (k : List Token) → Sinks (f n) (used ++ token ∷ k)

-- What is Deep is so by a token, or by what `bad` says.
abbrev pub Dives : {A : Type 0} → Type 0 → ℕ → (ℕ → Form Token A) → (ℕ → Reader Token A) → Type 0
Dives bad n P f = (ts rest : List Token) → f n ts ≡ sunk rest → Dive n P f ts rest ⊎ bad

pub dives_for : {A : Type 0} {bad worse : Type 0} {n : ℕ} {P : ℕ → Form Token A} {f : ℕ → Reader Token A} → (bad → worse) → Dives bad n P f → Dives worse n P f
dives_for h d ts rest e = elim (d ts rest e) [ inl x ↦ inl x | inr b ↦ inr (h b) ]

pub bind_deep : {A B : Type 0} (r : Outcome Token A) (f : A → Reader Token B) (rest : List Token) → and_then r f ≡ sunk rest → (r ≡ sunk rest) ⊎ ((a : A) × (mid : List Token) × (r ≡ Ok (a, mid)) × (f a mid ≡ sunk rest))
bind_deep (Ok x) f rest e = inr (x.0, x.1, refl, e)
bind_deep {A} {B} (Err d) f rest e = inl (let same : (let r : Outcome Token B = Err d in r) ≡ sunk rest = e in cc)

pub not_sunk : {A : Type 0} (a : A) (ts rest : List Token) → got a ts ≡ sunk rest → ⊥
not_sunk a ts rest e = cc

pub split_here : (u v : List Token) (t : Token) (k : List Token) → (u ++ v) ++ t ∷ k ≡ u ++ (v ++ t ∷ k)
split_here u v t k = append_assoc u v (t ∷ k)

-- ---- no token, one token

pub yields_dives : {A : Type 0} (bad : Type 0) (n : ℕ) (a : A) → Dives bad n (λ _. yields a) (λ _. pure a)
yields_dives bad n a ts rest e = absurd (not_sunk a ts rest e)

took_not : {A : Type 0} (all ts rest : List Token) (v : Option A) → took all ts v ≡ sunk rest → ⊥
took_not all ts rest None e = cc
took_not all ts rest (Some a) e = cc

pub one_not : {A : Type 0} (o : Token → Option A) (ts rest : List Token) → read_one o ts ≡ sunk rest → ⊥
one_not o [] rest e = cc
one_not o (t ∷ ts) rest e = took_not (t ∷ ts) ts rest (o t) e

pub one_dives : {A : Type 0} (bad : Type 0) (n : ℕ) (o : Token → Option A) → Dives bad n (λ _. one o) (λ _. read_one o)
one_dives bad n o ts rest e = absurd (one_not o ts rest e)

-- ---- a token that opens a level

zero_deep : (A : Type 0) (b : Bool) (ts rest : List Token) → (let r : Outcome Token A = cond b (Err (Deep ts)) (Err (Refused ts)) in r) ≡ sunk rest → (b ≡ true) × (ts ≡ rest)
zero_deep A true ts rest e = (refl, cc)
zero_deep A false ts rest e = absurd cc

hit : {A : Type 0} (o : Token → Option A) (t : Token) → hits o t ≡ true → (a : A) × (o t ≡ Some a)
hit {A} o t h = by_value (o t) refl h
  where
    by_value : (v : Option A) → o t ≡ v → hits (λ (u : Token). v) t ≡ true → (a : A) × (o t ≡ Some a)
    by_value None e h = absurd cc
    by_value (Some a) e h = (a, e)

pub opening_dives : {A : Type 0} (bad : Type 0) (n : ℕ) (o : Token → Option A) → Dives bad n (opening o) (read_opening o)
opening_dives {A = A} bad zero o [] rest e = absurd (let no : false ≡ true = (zero_deep A false [] rest e).0 in cc)
opening_dives {A = A} bad zero o (t ∷ ts) rest e =
    let d = zero_deep A (hits o t) (t ∷ ts) rest e in
    let v = hit o t d.0 in
    inl (record {
      used = [];
      token = t;
      after = ts;
      parts = refl;
      left = sym d.1;
      completes = record { by_ = []; value = v.0; gives = λ k. (v.1, refl) };
      fits = refl;
      sinks = λ k. (t ∷ k, by_true (hits o t) _ _ d.0);
    })
opening_dives bad (suc n) o ts rest e = absurd (one_not o ts rest e)

-- ---- one after the other

module _ {A B : Type 0} (bp bq bad : Type 0) (n : ℕ) (P : ℕ → Form Token A) (Q : A → ℕ → Form Token B) (f : ℕ → Reader Token A) (g : A → ℕ → Reader Token B) (grows_p : Grows P) (grows_q : (a : A) → Grows (Q a))
    (plain_p : Plain P) (found : (a : A) (ts rest : List Token) → f n ts ≡ Ok (a, rest) → Found n P f a ts rest) (some : (a : A) → Brief (Q a)) (dp : Dives bp n P f) (dq : (a : A) → Dives bq n (Q a) (g a))
    (in_first : bp → bad) (in_second : (a : A) (ts rest : List Token) → P n a ts rest → bq → bad) where
  abbrev W : ℕ → Form Token B
  W m = bound (P m) (λ a. Q a m)

  abbrev R : ℕ → Reader Token B
  R m = f m >>= λ a. g a m

  ends_first : (m : ℕ) (used : List Token) → 1 ≤ m → Ends m P used → Ends m W used
  ends_first m used le c =
      let q = some c.value in
      record {
        by_ = c.by_ ++ q.by_;
        value = q.value;
        gives = λ k.
            let end : List Token = q.by_ ++ k in
            let same : used ++ (c.by_ ++ end) ≡ used ++ ((c.by_ ++ q.by_) ++ k) = ap (λ (r : List Token). used ++ r) (sym (append_assoc c.by_ q.by_ k)) in
            (c.value, end, subst (λ (ts : List Token). P m c.value ts end) same (c.gives end), raise (Q c.value) (grows_q c.value) 1 m q.value _ _ le (q.gives k));
      }

  fits_first : (m : ℕ) (used : List Token) → Fits m P used → Fits m W used
  fits_first zero used f = f
  fits_first (suc m) used f = (f.0, f.1, f.2, f.3, ends_first (suc m) f.0 (omega arith) f.4)

  ends_second : (m : ℕ) (a : A) (used u : List Token) → ((k : List Token) → P m a (used ++ k) k) → Ends m (Q a) u → Ends m W (used ++ u)
  ends_second m a used u text c = record {
    by_ = c.by_;
    value = c.value;
    gives = λ k. (a, u ++ (c.by_ ++ k), subst (λ (ts : List Token). P m a ts (u ++ (c.by_ ++ k))) (sym (append_assoc used u (c.by_ ++ k))) (text (u ++ (c.by_ ++ k))), c.gives k);
  }

  first : (ts rest : List Token) → Dive n P f ts rest → Dive n W R ts rest
  first ts rest d =
      record {
        used = d.used;
        token = d.token;
        after = d.after;
        parts = d.parts;
        left = d.left;
        completes = ends_first (suc n) _ (omega arith) d.completes;
        fits = fits_first n d.used d.fits;
        sinks = λ k. let s = d.sinks k in (s.0, rw s.1 refl);
      }

  second : (a : A) (ts mid rest : List Token) → Found n P f a ts mid → Dive n (Q a) (g a) mid rest → Dive n W R ts rest
  second a ts mid rest p d =
      record {
        used = p.used ++ d.used;
        token = d.token;
        after = d.after;
        parts = p.parts ∙ ap (λ (r : List Token). p.used ++ r) d.parts ∙ sym (split_here p.used d.used d.token d.after);
        left = d.left;
        completes =
            subst (λ (u : List Token). Ends (suc n) W u) (sym (append_assoc p.used d.used (d.token ∷ []))) (ends_second (suc n) a p.used (d.used ++ d.token ∷ []) (λ k. grows_p n a _ _ (p.anywhere k)) d.completes);
        fits = fits_behind n P (Q a) W a p.used d.used plain_p p.anywhere (λ u. ends_second n a p.used u p.anywhere) d.fits;
        sinks = λ k.
            let s = d.sinks k in
            let here : f n (p.used ++ (d.used ++ d.token ∷ k)) ≡ Ok (a, d.used ++ d.token ∷ k) = p.steady n (d.used ++ d.token ∷ k) (omega arith) (ap head d.parts ∙ head_append d.used (d.token ∷ d.after) (d.token ∷ k) refl) in
            (s.0, rw (split_here p.used d.used d.token k, here) s.1);
      }

  pub bound_dives : Dives bad n (λ m. bound (P m) (λ a. Q a m)) (λ m. f m >>= λ a. g a m)
  bound_dives ts rest e =
      elim (bind_deep (f n ts) (λ a. g a n) rest e) [
        | inl h ↦ elim (dp ts rest h) [ inl d ↦ inl (first ts rest d) | inr b ↦ inr (in_first b) ]
        | inr h ↦
            let p = found h.0 ts h.1 h.2 in
            elim (dq h.0 h.1 rest h.3) [ inl d ↦ inl (second h.0 ts h.1 rest p d) | inr b ↦ inr (in_second h.0 _ _ (p.anywhere []) b) ]
      ]

-- ---- one or the other

module _ {A : Type 0} (bad : Type 0) (n : ℕ) (s : Token → Bool) (P Q : ℕ → Form Token A) (f g : ℕ → Reader Token A) (dp : Dives bad n P f) (dq : Dives bad n Q g) where
  same_test : (b : Bool) (ts used after k : List Token) (t : Token) → ts ≡ used ++ t ∷ after → sees s ts ≡ b → sees s (used ++ t ∷ k) ≡ b
  same_test b ts used after k t parts e = sym (ap (holds s) (ap head parts ∙ head_append used (t ∷ after) (t ∷ k) refl)) ∙ e

  left : (ts rest : List Token) → sees s ts ≡ true → Dive n P f ts rest → Dive n (λ m. either (P m) (Q m)) (λ m. read_either s (f m) (g m)) ts rest
  left ts rest e d = record {
    used = d.used;
    token = d.token;
    after = d.after;
    parts = d.parts;
    left = d.left;
    completes = record { by_ = d.completes.by_; value = d.completes.value; gives = λ k. inl (d.completes.gives k) };
    fits = fits_map n P (λ m. either (P m) (Q m)) d.used (λ u c. record { by_ = c.by_; value = c.value; gives = λ k. inl (c.gives k) }) d.fits;
    sinks = λ k. let r = d.sinks k in (r.0, by_true (sees s (d.used ++ d.token ∷ k)) _ _ (same_test true ts d.used d.after k d.token d.parts e) ∙ r.1);
  }

  right : (ts rest : List Token) → sees s ts ≡ false → Dive n Q g ts rest → Dive n (λ m. either (P m) (Q m)) (λ m. read_either s (f m) (g m)) ts rest
  right ts rest e d = record {
    used = d.used;
    token = d.token;
    after = d.after;
    parts = d.parts;
    left = d.left;
    completes = record { by_ = d.completes.by_; value = d.completes.value; gives = λ k. inr (d.completes.gives k) };
    fits = fits_map n Q (λ m. either (P m) (Q m)) d.used (λ u c. record { by_ = c.by_; value = c.value; gives = λ k. inr (c.gives k) }) d.fits;
    sinks = λ k. let r = d.sinks k in (r.0, by_false (sees s (d.used ++ d.token ∷ k)) _ _ (same_test false ts d.used d.after k d.token d.parts e) ∙ r.1);
  }

  pub either_dives : Dives bad n (λ m. either (P m) (Q m)) (λ m. read_either s (f m) (g m))
  either_dives ts rest e =
      elim (way (sees s ts)) [
        | inl y ↦ elim (dp ts rest (sym (by_true (sees s ts) _ _ y) ∙ e)) [ inl d ↦ inl (left ts rest y d) | inr b ↦ inr b ]
        | inr y ↦ elim (dq ts rest (sym (by_false (sees s ts) _ _ y) ∙ e)) [ inl d ↦ inl (right ts rest y d) | inr b ↦ inr b ]
      ]

-- ---- levels

pub down_dives : {A : Type 0} (bad : Type 0) (n : ℕ) (P : ℕ → Form Token A) (f : ℕ → Reader Token A) → Brief P → Dives bad n (λ m. P (suc m)) (λ m. f (suc m)) → Dives bad (suc n) P f
down_dives bad n P f b d ts rest e =
    elim (d ts rest e) [
      | inl x ↦ inl (record { used = x.used; token = x.token; after = x.after; parts = x.parts; left = x.left; completes = record { by_ = x.completes.by_; value = x.completes.value; gives = x.completes.gives }; fits = fits_down n P x.used b x.fits; sinks = x.sinks })
      | inr y ↦ inr y
    ]

-- the laws of what stands one level further in
pub record Below {A : Type 0} (n : ℕ) (P : ℕ → Form Token A) (f : ℕ → Reader Token A) (first more : Token → Bool) (null : Bool) : Type 0 where
  pub law : Lawful n P f first more null
  pub dives : Dives (n ≡ 0) n P f

pub nothing_below : {A : Type 0} (P : ℕ → Form Token A) (f : ℕ → Reader Token A) (fp mp : Token → Bool) (np : Bool) → ((a : A) (ts rest : List Token) → P 0 a ts rest → ⊥) → ((ts : List Token) → f 0 ts ≡ Err (Deep ts)) → Brief P → Below 0 P f fp mp np
nothing_below P f fp mp np none deep some = record { law = down_zero P f fp mp np none deep (brief_some P some); dives = λ ts rest e. inr refl }

-- one level further in, where no level may open there is nothing to be read
pub below_dives : {A : Type 0} (P : ℕ → Form Token A) (f : ℕ → Reader Token A) → Brief (below P) → ((n : ℕ) → Dives ⊥ n P f) → (n : ℕ) → Dives (n ≡ 0) n (below P) (read_below f)
below_dives P f b d zero ts rest e = inr refl
below_dives P f b d (suc n) ts rest e = dives_for (λ x. absurd x) (down_dives ⊥ n (below P) (read_below f) b (d n)) ts rest e

pub recast_dives : {A : Type 0} (bad : Type 0) (n : ℕ) (P Q : ℕ → Form Token A) (f g : ℕ → Reader Token A) → Same P Q f g → Dives bad n P f → Dives bad n Q g
recast_dives bad n P Q f g same d ts rest e =
    elim (d ts rest (same.reads n ts ∙ e)) [
      | inl x ↦ inl (record {
        used = x.used;
        token = x.token;
        after = x.after;
        parts = x.parts;
        left = x.left;
        completes = record { by_ = x.completes.by_; value = x.completes.value; gives = λ k. same.there (suc n) x.completes.value _ k (x.completes.gives k) };
        fits = fits_map n P Q x.used (λ u c. record { by_ = c.by_; value = c.value; gives = λ k. same.there n c.value _ k (c.gives k) }) x.fits;
        sinks = λ k. let s = x.sinks k in (s.0, sym (same.reads n (x.used ++ x.token ∷ k)) ∙ s.1);
      })
      | inr b ↦ inr b
    ]

-- ---- what passes a test, and what is told of the tokens

passed_not : {A : Type 0} (b : Bool) (a : A) (mid rest : List Token) → passed b a mid ≡ sunk rest → ⊥
passed_not true a mid rest e = cc
passed_not false a mid rest e = cc

pub such_dives : {A : Type 0} (bad : Type 0) (n : ℕ) (ok : A → Bool) (P : ℕ → Form Token A) (f : ℕ → Reader Token A) → ((m : ℕ) (used : List Token) → Ends m P used → Ends m (λ m. such ok (P m)) used) → Dives bad n P f
    → Dives bad n (λ m. such ok (P m)) (λ m. read_such ok (f m))
such_dives bad n ok P f completes d ts rest e =
    elim (bind_deep (f n ts) (λ a rest. passed (ok a) a rest) rest e) [
      | inl h ↦ elim (d ts rest h) [
        | inl x ↦ inl (record { used = x.used; token = x.token; after = x.after; parts = x.parts; left = x.left; completes = completes (suc n) _ x.completes; fits = fits_map n P (λ m. such ok (P m)) x.used (completes n) x.fits; sinks = λ k. let s = x.sinks k in (s.0, rw s.1 refl) })
        | inr b ↦ inr b
      ]
      | inr h ↦ absurd (passed_not (ok h.0) h.0 h.1 rest h.3)
    ]

pub noting_ends : {A : Type 0} (n : ℕ) (s : Token → Bool) (P : ℕ → Form Token A) (used : List Token) → Ends n P used → Ends n (λ m. noting s (P m)) used
noting_ends n s P used c = record { by_ = c.by_; value = (every s (used ++ c.by_), c.value); gives = λ k. (used ++ c.by_, sym (append_assoc used c.by_ k), refl, c.gives k) }

pub noting_dives : {A : Type 0} (bad : Type 0) (n : ℕ) (s : Token → Bool) (P : ℕ → Form Token A) (f : ℕ → Reader Token A) → Dives bad n P f
    → Dives bad n (λ m. noting s (P m)) (λ m. read_noting s (f m))
noting_dives bad n s P f d ts rest e =
    elim (bind_deep (f n ts) (λ a rest. Ok ((every s (before ts rest), a), rest)) rest e) [
      | inl h ↦ elim (d ts rest h) [
        | inl x ↦ inl (record { used = x.used; token = x.token; after = x.after; parts = x.parts; left = x.left; completes = noting_ends (suc n) s P _ x.completes; fits = fits_map n P (λ m. noting s (P m)) x.used (noting_ends n s P) x.fits; sinks = λ k. let s = x.sinks k in (s.0, rw s.1 refl) })
        | inr b ↦ inr b
      ]
      | inr h ↦ absurd (not_sunk (every s (before ts h.1), h.0) h.1 rest h.3)
    ]
