-- Parts of bytes that are told from what stands behind them.
use Rattle.std.proofs.Common.{◌≡◌, ℕ, ◌^◌, ◌<◌, decimal, cond, List, [], ◌∷◌, ◌++◌, length, map, codes, bytes_eq, refl, sym, ap, subst, ◌∙◌, append_assoc, length-append, arith}
use Rattle.std.proofs.lemmas.List.{append_cancel_left}
use Rattle.rd_value.specs.Canon.{string, joined}
use Rattle.rd_value.specs.Lawful.{IsLawful}
use Rattle.rd_value.proofs.Ind.{Each}
use Rattle.rd_names.specs.Uses.{joined as all_of}
use Rattle.rd_structure.specs.Values.{Value}
use Rattle.rd_structure.proofs.Digits.{string_told}

-- what is written: its bytes, and the values in it
pub record Part : Type 1 where
  pub of : Type 0
  pub bytes : of → List ℕ
  pub values : of → List Value

-- Fewer than 2 ^ 64 bytes of lawful values are told from what stands behind them: no other part begins what they begin.
pub record FreeAt (P : Part) (a : P.of) : Type 0 where
  pub told : Each IsLawful (P.values a) → length (P.bytes a) < 2 ^ 64 → (b : P.of) (r s : List ℕ) → P.bytes a ++ r ≡ P.bytes b ++ s → (a ≡ b) × (r ≡ s)

each_left : {A : Type 0} (P : A → Type 0) (xs ys : List A) → Each P (xs ++ ys) → Each P xs
each_left P [] ys us = tt
each_left P (x ∷ xs) ys us = (us.0, each_left P xs ys us.1)

each_right : {A : Type 0} (P : A → Type 0) (xs ys : List A) → Each P (xs ++ ys) → Each P ys
each_right P [] ys us = us
each_right P (x ∷ xs) ys us = each_right P xs ys us.1

-- ---- texts

abbrev pub text : Part
text = record { of = List ℕ; bytes = string; values = λ t. [] }

pub text_free : (t : List ℕ) → FreeAt text t
text_free t = record {
  told = λ ok small u r s e. string_told t u r s (omega (arith, length-append (decimal (length t)) (58 ∷ t), small)) e;
}

-- ---- a part, and one behind it whose kind it says

abbrev pub choice : (P : Part) → (P.of → Part) → Part
choice P Q = record { of = (x : P.of) × (Q x).of; bytes = λ x. P.bytes x.0 ++ (Q x.0).bytes x.1; values = λ x. P.values x.0 ++ (Q x.0).values x.1 }

abbrev pub beside : Part → Part → Part
beside P Q = choice P (λ x. Q)

pub choice_free : (P : Part) (Q : P.of → Part) (a : P.of) (c : (Q a).of) → FreeAt P a → FreeAt (Q a) c → FreeAt (choice P Q) (a, c)
choice_free P Q a c f g = record { told = by }
  where
    behind : (b : P.of) → a ≡ b → (d : (Q b).of) (r s : List ℕ) → Each IsLawful ((Q a).values c) → length ((Q a).bytes c) < 2 ^ 64
        → (Q a).bytes c ++ r ≡ (Q b).bytes d ++ s → (◌≡◌ {A = (choice P Q).of} (a, c) (b, d)) × (r ≡ s)
    behind b is = subst (λ z. (d : (Q z).of) (r s : List ℕ) → Each IsLawful ((Q a).values c) → length ((Q a).bytes c) < 2 ^ 64
        → (Q a).bytes c ++ r ≡ (Q z).bytes d ++ s → (◌≡◌ {A = (choice P Q).of} (a, c) (z, d)) × (r ≡ s)) is
        (λ d r s ok small e. let t = g.told ok small d r s e in (ap (λ y. (let x : (choice P Q).of = (a, y) in x)) t.0, t.1))

    by : Each IsLawful (P.values a ++ (Q a).values c) → length (P.bytes a ++ (Q a).bytes c) < 2 ^ 64 → (b : (choice P Q).of) (r s : List ℕ)
        → (P.bytes a ++ (Q a).bytes c) ++ r ≡ (P.bytes b.0 ++ (Q b.0).bytes b.1) ++ s → (◌≡◌ {A = (choice P Q).of} (a, c) b) × (r ≡ s)
    by ok small b r s e =
        let long = length-append (P.bytes a) ((Q a).bytes c) in
        let moved = sym (append_assoc (P.bytes a) ((Q a).bytes c) r) ∙ e ∙ append_assoc (P.bytes b.0) ((Q b.0).bytes b.1) s in
        let t = f.told (each_left IsLawful (P.values a) _ ok) (omega (arith, small, long)) b.0 ((Q a).bytes c ++ r) ((Q b.0).bytes b.1 ++ s) moved in
        behind b.0 t.0 b.1 r s (each_right IsLawful (P.values a) _ ok) (omega (arith, small, long)) t.1

pub beside_free : (P Q : Part) (a : P.of) (c : Q.of) → FreeAt P a → FreeAt Q c → FreeAt (beside P Q) (a, c)
beside_free P Q a c f g = choice_free P (λ x. Q) a c f g

-- ---- what stands before and behind a part

abbrev pub begun : List ℕ → Part → Part
begun front P = record { of = P.of; bytes = λ a. front ++ P.bytes a; values = P.values }

pub begun_free : (front : List ℕ) (P : Part) (a : P.of) → FreeAt P a → FreeAt (begun front P) a
begun_free front P a f = record {
  told = λ ok small b r s e.
      f.told ok (omega (arith, small, length-append front (P.bytes a))) b r s
      (append_cancel_left front _ _ (sym (append_assoc front (P.bytes a) r) ∙ e ∙ append_assoc front (P.bytes b) s));
}

abbrev pub ended : Part → Part
ended P = record { of = P.of; bytes = λ a. P.bytes a ++ codes "e"; values = P.values }

pub ended_free : (P : Part) (a : P.of) → FreeAt P a → FreeAt (ended P) a
ended_free P a f = record {
  told = λ ok small b r s e.
      let t = f.told ok (omega (arith, small, length-append (P.bytes a) (codes "e"))) b (codes "e" ++ r) (codes "e" ++ s)
      (sym (append_assoc (P.bytes a) (codes "e") r) ∙ e ∙ append_assoc (P.bytes b) (codes "e") s) in
      (t.0, append_cancel_left (codes "e") r s t.1);
}

abbrev pub group : Part → Part
group P = begun (codes "l") (ended P)

pub group_free : (P : Part) (a : P.of) → FreeAt P a → FreeAt (group P) a
group_free P a f = begun_free (codes "l") (ended P) a (ended_free P a f)

abbrev pub nothing : Part
nothing = record { of = Unit {0}; bytes = λ a. []; values = λ a. [] }

pub nothing_free : FreeAt nothing tt
nothing_free = record { told = λ ok small b r s e. (refl, e) }

-- ---- any number of parts

-- bytes that begin, and not as the end of a list does
abbrev pub Begins : List ℕ → Type 0
Begins bs = (d : ℕ) × (more : List ℕ) × (bs ≡ d ∷ more) × (d ≡ 101 → ⊥)

abbrev pub run : Part → Part
run P = record { of = List P.of; bytes = λ xs. joined (map P.bytes xs) ++ codes "e"; values = λ xs. all_of (map P.values xs) }

abbrev pub many : Part → Part
many P = begun (codes "l") (run P)

module _ (P : Part) (begins : (a : P.of) → Begins (P.bytes a)) where
  no_end : (a : P.of) (more r s : List ℕ) → codes "e" ++ r ≡ (P.bytes a ++ more) ++ s → ⊥
  no_end a more r s e = let b = begins a in b.3 (head (b.1 ++ more) (e ∙ ap (λ bs. (bs ++ more) ++ s) b.2))
    where
      head : {d : ℕ} (bs : List ℕ) → 101 ∷ r ≡ d ∷ (bs ++ s) → d ≡ 101
      head bs e = cc

  pub run_free : (xs : List P.of) → Each (FreeAt P) xs → FreeAt (run P) xs
  run_free [] fs = record { told = by }
    where
      by : Each IsLawful [] → length (codes "e") < 2 ^ 64 → (ys : List P.of) (r s : List ℕ) → codes "e" ++ r ≡ (joined (map P.bytes ys) ++ codes "e") ++ s → (◌≡◌ {A = List P.of} [] ys) × (r ≡ s)
      by ok small [] r s e = (refl, append_cancel_left (codes "e") r s e)
      by ok small (y ∷ ys) r s e = absurd (no_end y (joined (map P.bytes ys) ++ codes "e") r s (e ∙ ap (λ bs. bs ++ s) (append_assoc (P.bytes y) (joined (map P.bytes ys)) (codes "e"))))
  run_free (x ∷ xs) fs = record { told = by (run_free xs fs.1) }
    where
      by : FreeAt (run P) xs → Each IsLawful (P.values x ++ all_of (map P.values xs)) → length ((P.bytes x ++ joined (map P.bytes xs)) ++ codes "e") < 2 ^ 64 → (ys : List P.of) (r s : List ℕ)
          → ((P.bytes x ++ joined (map P.bytes xs)) ++ codes "e") ++ r ≡ (joined (map P.bytes ys) ++ codes "e") ++ s → (◌≡◌ {A = List P.of} (x ∷ xs) ys) × (r ≡ s)
      by rest ok small [] r s e = absurd (no_end x (joined (map P.bytes xs) ++ codes "e") s r (sym e ∙ ap (λ bs. bs ++ r) (append_assoc (P.bytes x) (joined (map P.bytes xs)) (codes "e"))))
      by rest ok small (y ∷ ys) r s e =
          let two = beside_free P (run P) x xs fs.0 rest in
          let moved = ap length (append_assoc (P.bytes x) (joined (map P.bytes xs)) (codes "e")) in
          let t = two.told ok (omega (arith, small, moved)) (y, ys) r s
          (ap (λ bs. bs ++ r) (sym (append_assoc (P.bytes x) (joined (map P.bytes xs)) (codes "e"))) ∙ e ∙ ap (λ bs. bs ++ s) (append_assoc (P.bytes y) (joined (map P.bytes ys)) (codes "e"))) in
          (ap (λ (z : (beside P (run P)).of). z.0 ∷ z.1) t.0, t.1)

  pub many_free : (xs : List P.of) → Each (FreeAt P) xs → FreeAt (many P) xs
  many_free xs fs = begun_free (codes "l") (run P) xs (run_free xs fs)

-- ---- names of kinds

module _ {K : Type 0} (name : K → List ℕ) where
  -- the first of the kinds that has this name
  abbrev pub kind_named : K → List K → List ℕ → K
  kind_named other [] t = other
  kind_named other (k ∷ ks) t = cond (bytes_eq (name k) t) k (kind_named other ks t)

  abbrev pub kind : Part
  kind = record { of = K; bytes = λ k. string (name k); values = λ k. [] }

  pub kind_free : (other : K) (ks : List K) → ((k : K) → kind_named other ks (name k) ≡ k) → (k : K) → FreeAt kind k
  kind_free other ks known k = record {
    told = λ ok small j r s e. let t = (text_free (name k)).told ok small (name j) r s e in (sym (known k) ∙ ap (kind_named other ks) t.0 ∙ known j, t.1);
  }

-- ---- one part told as another

-- A is written as P is
pub as_free : (A P : Part) (a : A.of) (x : P.of) → A.bytes a ≡ P.bytes x → (Each IsLawful (A.values a) → Each IsLawful (P.values x))
    → ((b : A.of) → (y : P.of) × (A.bytes b ≡ P.bytes y) × (x ≡ y → a ≡ b)) → FreeAt P x → FreeAt A a
as_free A P a x is lawful view f = record {
  told = λ ok small b r s e.
      let v = view b in
      let t = f.told (lawful ok) (omega (arith, small, ap length is)) v.0 r s (ap (λ bs. bs ++ r) (sym is) ∙ e ∙ ap (λ bs. bs ++ s) v.1) in
      (v.2 t.0, t.1);
}

-- A is what is made of P
pub made_free : (A P : Part) (make : P.of → A.of) → ((x : P.of) → A.bytes (make x) ≡ P.bytes x) → ((x : P.of) → Each IsLawful (A.values (make x)) → Each IsLawful (P.values x))
    → ((a : A.of) → (x : P.of) × (make x ≡ a)) → (x : P.of) → FreeAt P x → FreeAt A (make x)
made_free A P make is lawful view x f =
    as_free A P (make x) x (is x) (lawful x) (λ b. let v = view b in (v.0, ap A.bytes (sym v.1) ∙ is v.0, λ e. ap make e ∙ v.1)) f

-- ---- one of some parts, which the bytes tell apart by how they begin

module _ {K : Type 0} (parts : K → Part) (tell : List ℕ → K) where
  abbrev pub one_of : Part
  one_of = record { of = (k : K) × (parts k).of; bytes = λ x. (parts x.0).bytes x.1; values = λ x. (parts x.0).values x.1 }

  pub one_of_free : ((k : K) (x : (parts k).of) (r : List ℕ) → tell ((parts k).bytes x ++ r) ≡ k) → (k : K) (x : (parts k).of) → FreeAt (parts k) x → FreeAt one_of (k, x)
  one_of_free told k x f = record { told = λ ok small b r s e. behind b.0 (sym (told k x r) ∙ ap tell e ∙ told b.0 b.1 s) b.1 r s ok small e }
    where
      behind : (j : K) → k ≡ j → (y : (parts j).of) (r s : List ℕ) → Each IsLawful ((parts k).values x) → length ((parts k).bytes x) < 2 ^ 64
          → (parts k).bytes x ++ r ≡ (parts j).bytes y ++ s → (◌≡◌ {A = one_of.of} (k, x) (j, y)) × (r ≡ s)
      behind j is = subst (λ z. (y : (parts z).of) (r s : List ℕ) → Each IsLawful ((parts k).values x) → length ((parts k).bytes x) < 2 ^ 64
          → (parts k).bytes x ++ r ≡ (parts z).bytes y ++ s → (◌≡◌ {A = one_of.of} (k, x) (z, y)) × (r ≡ s)) is
          (λ y r s ok small e. let t = f.told ok small y r s e in (ap (λ w. (let z : one_of.of = (k, w) in z)) t.0, t.1))
