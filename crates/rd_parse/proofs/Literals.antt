-- The rules of literal values are lawful.
use Rattle.std.proofs.Common.{◌≡◌, ◌≤◌, ◌<◌, ◌+◌, ◌⊎◌, length, subst, inl, inr, ℕ, zero, suc, ℤ, pos, neg_ℤ, Bool, true, false, not, ◌||◌, List, [], ◌∷◌, ◌++◌, None, Some, Option, refl, sym, ap, ◌∙◌, append_assoc, arith, length-append, replicate}
use Rattle.std.specs.Str.{bytes_eq}
use Rattle.std.proofs.lemmas.List.{length-replicate, append-nil}
use Rattle.std.proofs.lemmas.Bool.{leb-true, leb-false}
use Rattle.std.specs.Prelude.{nat_le, cond}
use Rattle.std.proofs.lemmas.Slice.Eq.{bytes_eq-Decides}
use Rattle.rd_syntax.specs.declared.token.TokenKind.TheVariants as kind
use Rattle.rd_syntax.specs.declared.token.Token.{Token}
use Rattle.rd_value.specs.declared.value.Datum.TheVariants as value
use Rattle.rd_parse.specs.declared.terminal.Terminal.{Terminal}
use Rattle.rd_parse.specs.declared.terminal.Terminal.TheVariants as w
use Rattle.rd_parse.specs.Form.{Form, one, many, either, below}
use Rattle.rd_parse.specs.Reader.{Reader, read_one, read_below, hits, is_there}
use Rattle.rd_parse.specs.Such.{such, read_such}
use Rattle.rd_parse.specs.Terminal.{terminal, among, is, greatest, number_of, text_of}
use Rattle.rd_parse.specs.Expressions.{joined, texts, constant_of}
use Rattle.rd_parse.specs.Reading.{read_texts}
use Rattle.rd_parse.specs.Expressions as expression
use Rattle.rd_parse.specs.Literals as form
use Rattle.rd_parse.specs.Literals.{Literal, Pair, is_number, is_text, any_of, new_number, new_text, only_if, number_key_of, negative_key_of, with_key, begins_literal, begins_plain, begins_key, inner_literal, deep_literal}
use Rattle.rd_parse.specs.LiteralReading as reader
use Rattle.rd_parse.specs.LiteralReading.{any_new, has_number, has_negative, read_inner_literal, read_deep_literal}
use Rattle.rd_parse.proofs.Laws.{Grows, Completes, Lawful, or_none}
use Rattle.rd_parse.proofs.Depth.{opening_grows, below_grows, below_zero, below_suc, recast}
use Rattle.rd_parse.proofs.Loops.{Shrinks, shrinks_of}
use Rattle.rd_parse.proofs.More.{way}
use Rattle.rd_parse.proofs.Rules.{Up}
use Rattle.rd_parse.proofs.Sets.{holds_one, set}
use Rattle.rd_parse.proofs.Samples.{sample, example}
use Rattle.rd_parse.proofs.Steps.{Step, Inward, settled, one_further, from_outside, opens_then, wide, carries, takes, makes, then, chooses, tests, commas, commas_by}
use Rattle.rd_parse.proofs.Expressions.{text_is, texts_step, number_within}
use Rattle.rd_parse.proofs.Numbers.{spelling, number_small}
use Rattle.rd_parse.proofs.Such.{such_lawful}
use Rattle.rd_parse.proofs.Dive.{Plain, Below, Brief, brief_some, Dives, nothing_below, below_dives, such_dives, recast_dives}

-- ---- sets of tokens

abbrev pub constant_first : List Terminal
constant_first = w.Nothing ∷ w.True ∷ w.False ∷ []

abbrev pub plain_first : List Terminal
plain_first = w.Minus ∷ w.Int ∷ w.Text ∷ constant_first

abbrev pub literal_first : List Terminal
literal_first = w.LeftSquare ∷ w.LeftCurly ∷ plain_first

abbrev pub key_first : List Terminal
key_first = w.Minus ∷ w.Int ∷ w.Text ∷ []

plain_by : (κ : Terminal) → holds_one plain_first κ ≡ begins_plain κ
plain_by w.Int = refl
plain_by _ = refl

plain_is : (t : Token) → set plain_first t ≡ among begins_plain t
unfolding set
plain_is t = plain_by (terminal t)

literal_by : (κ : Terminal) → holds_one literal_first κ ≡ begins_literal κ
literal_by w.Int = refl
literal_by _ = refl

pub literal_is : (t : Token) → set literal_first t ≡ among begins_literal t
unfolding set
literal_is t = literal_by (terminal t)

key_by : (κ : Terminal) → holds_one key_first κ ≡ begins_key κ
key_by w.Int = refl
key_by _ = refl

key_is : (t : Token) → set key_first t ≡ among begins_key t
unfolding set
key_is t = key_by (terminal t)

constant_by : (κ : Terminal) → is_there (expression.constant_by κ) ≡ true → holds_one constant_first κ ≡ true
constant_by w.Nothing h = refl
constant_by w.True h = refl
constant_by w.False h = refl
constant_by _ h = h

constant_within : (t : Token) → hits constant_of t ≡ true → set constant_first t ≡ true
unfolding set
constant_within t h = constant_by (terminal t) h

pub constant_there : constant_of (example w.Nothing) ≡ Some value.Nothing
unfolding terminal
constant_there = refl

number_there : number_of (example w.Int) ≡ Some (pos 0)
unfolding terminal
number_there = refl

-- ---- plain literals

module _ (U : ℕ → Type 0) (n : ℕ) where
  number_token : Step U n (λ _. one number_of) (λ _. read_one number_of) (w.Int ∷ []) [] false
  number_token = carries U n number_of (w.Int ∷ []) refl (example w.Int) _ number_there number_within

  text_step : Step U n (λ _. form.text) (λ _. reader.read_text) (w.Text ∷ []) (w.Text ∷ []) false
  unfolding reader.read_text
  text_step = then refl (texts_step U n) (λ t. makes U n (value.Text t))

  number_step : Step U n (λ _. form.number) (λ _. reader.read_number) (w.Int ∷ []) [] false
  unfolding reader.read_number
  number_step = then refl number_token (λ z. makes U n (value.Int z))

  negative_step : Step U n form.negative reader.read_negative (w.Minus ∷ []) [] false
  unfolding reader.read_negative
  negative_step = opens_then U n w.Minus refl (λ u. then refl number_token (λ z. makes U n (value.Int (neg_ℤ z))))

  pub literal_step : Step U n form.literal reader.read_literal plain_first (w.Text ∷ []) false
  unfolding reader.read_literal
  literal_step =
      wide refl refl (chooses (hits (is w.Minus)) (tests w.Minus) refl negative_step (chooses (hits (is w.Int)) (tests w.Int) refl number_step
      (chooses (hits text_of) text_is refl text_step (carries U n constant_of constant_first refl (example w.Nothing) _ constant_there constant_within))))

-- ---- texts that are no keys

abbrev size_of : Literal → ℕ
size_of (value.Text t) = length t
size_of _ = 0

abbrev sizes : List Literal → ℕ
sizes [] = 0
sizes (k ∷ ks) = size_of k + sizes ks

text_apart : (x : List ℕ) (k : Literal) → size_of k < length x → is_text x k ≡ false
text_apart x (value.Text t) less = elim (way (bytes_eq x t)) [ inl same ↦ absurd (let e : x ≡ t = (bytes_eq-Decides x t).0 same in omega (arith, ap length e, less)) | inr other ↦ other ]
text_apart x _ less = refl

either_none : (a b : Bool) → a ≡ false → b ≡ false → (a || b) ≡ false
either_none a b p q = rw (p, q) refl

texts_apart : (x : List ℕ) (ks : List Literal) → sizes ks < length x → any_of (is_text x) ks ≡ false
texts_apart x [] less = refl
texts_apart x (k ∷ ks) less = either_none (is_text x k) (any_of (is_text x) ks) (text_apart x k (omega arith)) (texts_apart x ks (omega arith))

-- what makes a text longer than all keys
abbrev longer : List Literal → List ℕ
longer keys = replicate (suc (sizes keys)) 97

longer_new : (keys : List Literal) (t : List ℕ) → new_text keys (t ++ longer keys) ≡ true
longer_new keys t = ap not (texts_apart (t ++ longer keys) keys (omega (arith, length-append t (longer keys), length-replicate {A = ℕ} (suc (sizes keys)) 97)))

longer_token : List Literal → Token
longer_token keys = sample kind.Text (longer keys)

longer_there : (keys : List Literal) → text_of (longer_token keys) ≡ Some (longer keys)
unfolding terminal longer_token
longer_there keys = refl

joined_append : (ts : List (List ℕ)) (t : List ℕ) → joined (ts ++ t ∷ []) ≡ joined ts ++ t
joined_append [] t = append-nil t
joined_append (u ∷ ts) t = ap (λ x. u ++ x) (joined_append ts t) ∙ sym (append_assoc u (joined ts) t)

many_append : (more : List (List ℕ)) (ts : List Token) (u : Token) (t : List ℕ) (k : List Token) → text_of u ≡ Some t → many (one text_of) more ts (u ∷ k) → many (one text_of) (more ++ t ∷ []) ts k
many_append [] ts u t k is h = (k, subst (λ ts. one text_of t ts k) (sym h) (is, refl), refl)
many_append (s ∷ more) ts u t k is h = (h.0, h.1, many_append more h.0 u t k is h.2)

texts_append : (x : List ℕ) (ts : List Token) (u : Token) (t : List ℕ) (k : List Token) → text_of u ≡ Some t → texts x ts (u ∷ k) → texts (x ++ t) ts k
texts_append x ts u t k is h =
    let behind = h.3 in
    let same : behind.1 ≡ u ∷ k = behind.3.1 in
    let all : many (one text_of) behind.0 h.1 (u ∷ k) = subst (λ (r : List Token). many (one text_of) behind.0 h.1 r) same behind.2 in
    let value : h.0 ++ joined (behind.0 ++ t ∷ []) ≡ x ++ t = joined_append (h.0 ∷ behind.0) t ∙ ap (λ y. y ++ t) behind.3.0 in
    (h.0, h.1, h.2, (behind.0 ++ t ∷ [], k, many_append behind.0 h.1 u t k is all, (value, refl)))

module _ (keys : List Literal) where
  abbrev New : ℕ → Form Token (List ℕ)
  New _ = such (new_text keys) texts

  texts_longer : (used : List Token) (x : List ℕ) → ((k : List Token) → texts x (used ++ k) k) → Completes New used
  texts_longer used x h = record {
    depth = 0;
    by_ = longer_token keys ∷ [];
    value = x ++ longer keys;
    gives = λ k. (texts_append x (used ++ longer_token keys ∷ k) (longer_token keys) (longer keys) k (longer_there keys) (h (longer_token keys ∷ k)), longer_new keys x);
  }

  texts_complete : (used : List Token) → Completes (λ _. texts) used → Completes New used
  texts_complete used c = record {
    depth = 0;
    by_ = c.by_ ++ longer_token keys ∷ [];
    value = c.value ++ longer keys;
    gives = λ k.
        let all : texts (c.value ++ longer keys) (used ++ (c.by_ ++ (longer_token keys ∷ k))) k =
        texts_append c.value _ (longer_token keys) (longer keys) k (longer_there keys) (c.gives (longer_token keys ∷ k)) in
        (rw append_assoc all, longer_new keys c.value);
  }

-- ---- numbers that are no keys

any_there : (new : ℕ → Bool) (top : ℕ) → any_new new top ≡ true → (m : ℕ) × (m ≤ top) × (new m ≡ true)
any_there new zero h = (0, omega arith, h)
any_there new (suc top) h = elim (way (new (suc top))) [ inl y ↦ (suc top, omega arith, y) | inr n ↦ let d = any_there new top (rw n at h) in (d.0, omega (arith, d.1), d.2) ]

pub none_there : (new : ℕ → Bool) (top : ℕ) → any_new new top ≡ false → (m : ℕ) → m ≤ top → new m ≡ false
none_there new zero h zero le = h
none_there new zero h (suc m) le = absurd (omega arith)
none_there new (suc top) h m le =
    let d = or_none (new (suc top)) (any_new new top) h in
    elim (le_split m top le) [ inl less ↦ none_there new top d.1 m less | inr same ↦ ap new same ∙ d.0 ]
  where
    le_split : (m top : ℕ) → m ≤ suc top → (m ≤ top) ⊎ (m ≡ suc top)
    le_split m top le = elim (way (nat_le m top)) [ inl y ↦ inl (leb-true m top y) | inr n ↦ inr (omega (arith, leb-false m top n)) ]

only_some : {A : Type 0} (ok : A → Bool) (o : Option A) (a : A) → o ≡ Some a → ok a ≡ true → only_if ok o ≡ Some a
only_some ok o a is y = rw (is, y) refl

only_one : {A : Type 0} (ok : A → Bool) (o : Option A) (a : A) → only_if ok o ≡ Some a → (o ≡ Some a) × (ok a ≡ true)
only_one {A} ok None a h = absurd (let no : (let o : Option A = None in o) ≡ Some a = h in cc)
only_one ok (Some b) a h = by_test (ok b) refl h
  where
    by_test : (t : Bool) → ok b ≡ t → cond t (Some b) None ≡ Some a → (Some b ≡ Some a) × (ok a ≡ true)
    by_test true y e = let same : b ≡ a = cc in (e, sym (ap ok same) ∙ y)
    by_test false y e = absurd cc

only_hits : {A : Type 0} (ok : A → Bool) (o : Option A) → is_there (only_if ok o) ≡ true → is_there o ≡ true
only_hits ok None h = h
only_hits ok (Some a) h = refl

-- a token with a number that is no key
abbrev pub Spelled : (Token → Option ℤ) → Type 0
Spelled o = (t : Token) × (z : ℤ) × (o t ≡ Some z)

number_spelled : (keys : List Literal) → has_number keys ≡ true → Spelled (number_key_of keys)
unfolding has_number
number_spelled keys h =
    let d = any_there (λ m. new_number keys (pos m)) greatest h in
    let s = spelling d.0 d.1 in
    (s.0, pos d.0, only_some (new_number keys) (number_of s.0) (pos d.0) s.1 d.2)

negative_spelled : (keys : List Literal) → has_negative keys ≡ true → Spelled (negative_key_of keys)
unfolding has_negative
negative_spelled keys h =
    let d = any_there (λ m. new_number keys (neg_ℤ (pos m))) greatest h in
    let s = spelling d.0 d.1 in
    (s.0, pos d.0, only_some (λ z. new_number keys (neg_ℤ z)) (number_of s.0) (pos d.0) s.1 d.2)

number_none : (keys : List Literal) → has_number keys ≡ false → (t : Token) (z : ℤ) → number_key_of keys t ≡ Some z → ⊥
unfolding has_number
number_none keys h t z e =
    let d = only_one (new_number keys) (number_of t) z e in
    let s = number_small t z d.0 in
    let no : new_number keys (pos s.0) ≡ false = none_there (λ m. new_number keys (pos m)) greatest h s.0 s.1 in
    let yes : new_number keys (pos s.0) ≡ true = ap (new_number keys) (sym s.2) ∙ d.1 in
    (let both : true ≡ false = sym yes ∙ no in cc)

negative_none : (keys : List Literal) → has_negative keys ≡ false → (t : Token) (z : ℤ) → negative_key_of keys t ≡ Some z → ⊥
unfolding has_negative
negative_none keys h t z e =
    let d = only_one (λ z. new_number keys (neg_ℤ z)) (number_of t) z e in
    let s = number_small t z d.0 in
    let no : new_number keys (neg_ℤ (pos s.0)) ≡ false = none_there (λ m. new_number keys (neg_ℤ (pos m))) greatest h s.0 s.1 in
    let yes : new_number keys (neg_ℤ (pos s.0)) ≡ true = ap (λ z. new_number keys (neg_ℤ z)) (sym s.2) ∙ d.1 in
    (let both : true ≡ false = sym yes ∙ no in cc)

one_none : {A : Type 0} (o : Token → Option A) → ((t : Token) (a : A) → o t ≡ Some a → ⊥) → (a : A) (ts rest : List Token) → one o a ts rest → ⊥
one_none o none a [] rest h = h
one_none o none a (t ∷ ts) rest h = none t a h.0

-- ---- keys

module _ (U : ℕ → Type 0) (n : ℕ) (keys : List Literal) where
  number_key_step : has_number keys ≡ true → Step U n (λ _. form.number_key keys) (λ _. reader.read_number_key keys) (w.Int ∷ []) [] false
  unfolding reader.read_number_key
  number_key_step h =
      let s = number_spelled keys h in
      then refl (carries U n (number_key_of keys) (w.Int ∷ []) refl s.0 s.1 s.2 (λ t h. number_within t (only_hits (new_number keys) (number_of t) h))) (λ z. makes U n (value.Int z))

  negative_key_step : has_negative keys ≡ true → Step U n (form.negative_key keys) (reader.read_negative_key keys) (w.Minus ∷ []) [] false
  unfolding reader.read_negative_key
  negative_key_step h =
      let s = negative_spelled keys h in
      opens_then U n w.Minus refl
      (λ u. then refl (carries U n (negative_key_of keys) (w.Int ∷ []) refl s.0 s.1 s.2 (λ t h. number_within t (only_hits (λ z. new_number keys (neg_ℤ z)) (number_of t) h))) (λ z. makes U n (value.Int (neg_ℤ z))))

  new_step : Step U n (λ _. such (new_text keys) texts) (λ _. read_such (new_text keys) read_texts) (w.Text ∷ []) (w.Text ∷ []) false
  new_step = record {
    rule = record {
      up = λ j u a ts rest h. h;
      law = λ x.
          let l = (texts_step U n).rule.law x in
          such_lawful n (new_text keys) (λ _. texts) (λ _. read_texts) _ _ false l (texts_longer keys) (texts_complete keys [] l.some) (texts_complete keys);
    };
    dives = λ x. such_dives ⊥ n (new_text keys) (λ _. texts) (λ _. read_texts) (λ m used c. let d = texts_complete keys used (record { depth = 1; by_ = c.by_; value = c.value; gives = c.gives }) in record { by_ = d.by_; value = d.value; gives = d.gives }) ((texts_step U n).dives x);
    plain = λ a ts rest h. (texts_step U n).plain a ts rest h.0;
    brief = let d = texts_complete keys [] (brief_some (λ _. texts) (texts_step U n).brief) in record { by_ = d.by_; value = d.value; gives = d.gives };
  }

  text_key_step : Step U n (λ _. form.text_key keys) (λ _. reader.read_text_key keys) (w.Text ∷ []) (w.Text ∷ []) false
  unfolding reader.read_text_key
  text_key_step = then refl new_step (λ t. makes U n (value.Text t))

  key_up : (j : ℕ) → Up j (form.key keys)
  key_up j a ts rest (inl h) = inl h
  key_up j a ts rest (inr (inl h)) = inr (inl (h.0, h.1, opening_grows (is w.Minus) j h.0 ts h.1 h.2, h.3))
  key_up j a ts rest (inr (inr h)) = inr (inr h)

  abbrev Key : Bool → Bool → Type 0
  Key b c = Step U n (form.key keys) (reader.read_key_where keys b c) key_first (w.Text ∷ []) false

  all_keys : has_number keys ≡ true → has_negative keys ≡ true → Key true true
  all_keys h k = wide refl refl (chooses (hits (is w.Int)) (tests w.Int) refl (number_key_step h) (chooses (hits (is w.Minus)) (tests w.Minus) refl (negative_key_step k) text_key_step))

  recast_key : (b c : Bool) (P : ℕ → Form Token Literal) → ((m : ℕ) (a : Literal) (ts rest : List Token) → P m a ts rest → form.key keys m a ts rest)
      → ((m : ℕ) (a : Literal) (ts rest : List Token) → form.key keys m a ts rest → P m a ts rest) → Step U n P (reader.read_key_where keys b c) key_first (w.Text ∷ []) false → Key b c
  recast_key b c P there back s = record {
    rule = record { up = λ j u. key_up j; law = λ x. recast n P (form.key keys) _ _ _ _ false (record { there = there; back = back; reads = λ m ts. refl }) (s.rule.law x) };
    dives = λ x. recast_dives ⊥ n P (form.key keys) _ _ (record { there = there; back = back; reads = λ m ts. refl }) (s.dives x);
    plain = λ a ts rest h. s.plain a ts rest (back 0 a ts rest h);
    brief = record { by_ = s.brief.by_; value = s.brief.value; gives = λ k. there 1 s.brief.value _ k (s.brief.gives k) };
  }

  no_number : has_number keys ≡ false → (a : Literal) (ts rest : List Token) → form.number_key keys a ts rest → ⊥
  no_number h a ts rest k = one_none (number_key_of keys) (number_none keys h) k.0 ts k.1 k.2

  no_negative : has_negative keys ≡ false → (m : ℕ) (a : Literal) (ts rest : List Token) → form.negative_key keys m a ts rest → ⊥
  no_negative h m a ts rest k = one_none (negative_key_of keys) (negative_none keys h) k.3.0 k.1 k.3.1 k.3.2

  no_negatives : has_number keys ≡ true → has_negative keys ≡ false → Key true false
  no_negatives h k =
      recast_key true false (λ m. either (form.number_key keys) (form.text_key keys)) (λ m a ts rest x. elim x [ inl y ↦ inl y | inr y ↦ inr (inr y) ])
      (λ m a ts rest x. elim x [ inl y ↦ inl y | inr y ↦ elim y [ inl z ↦ absurd (no_negative k m a ts rest z) | inr z ↦ inr z ] ])
      (wide refl refl (chooses (hits (is w.Int)) (tests w.Int) refl (number_key_step h) text_key_step))

  no_numbers : has_number keys ≡ false → has_negative keys ≡ true → Key false true
  no_numbers h k =
      recast_key false true (λ m. either (form.negative_key keys m) (form.text_key keys)) (λ m a ts rest x. inr x) (λ m a ts rest x. elim x [ inl y ↦ absurd (no_number h a ts rest y) | inr y ↦ y ])
      (wide refl refl (chooses (hits (is w.Minus)) (tests w.Minus) refl (negative_key_step k) text_key_step))

  texts_alone : has_number keys ≡ false → has_negative keys ≡ false → Key false false
  texts_alone h k =
      recast_key false false (λ m. form.text_key keys) (λ m a ts rest x. inr (inr x))
      (λ m a ts rest x. elim x [ inl y ↦ absurd (no_number h a ts rest y) | inr y ↦ elim y [ inl z ↦ absurd (no_negative k m a ts rest z) | inr z ↦ z ] ]) (wide refl refl text_key_step)

  key_where : (b c : Bool) → has_number keys ≡ b → has_negative keys ≡ c → Key b c
  key_where true true h k = all_keys h k
  key_where true false h k = no_negatives h k
  key_where false true h k = no_numbers h k
  key_where false false h k = texts_alone h k

  pub key_step : Step U n (form.key keys) (reader.read_key keys) key_first (w.Text ∷ []) false
  unfolding reader.read_key
  key_step = key_where (has_number keys) (has_negative keys) refl refl

-- ---- deep literals

module _ (U : ℕ → Type 0) (n : ℕ) (X : ℕ → Form Token Literal) (F : ℕ → Reader Token Literal) (inside : Inward U n X F literal_first (w.Text ∷ []) false) where
  abbrev Of : {A : Type 0} → (ℕ → Form Token Literal → Form Token A) → (ℕ → Reader Token Literal → Reader Token A) → List Terminal → List Terminal → Bool → Type 0
  Of P f = Step U n (λ m. P m (X m)) (λ m. f m (F m))

  abbrev Within : {A : Type 0} → (ℕ → Form Token Literal → Form Token A) → (ℕ → Reader Token Literal → Reader Token A) → List Terminal → List Terminal → Bool → Type 0
  Within P f = Inward U n (λ m. P m (X m)) (λ m. f m (F m))

  more_items_step : (e : Literal) → Within (λ m l. form.more_items m l e) (λ m l. reader.read_more_items m l e) (w.Comma ∷ []) (w.Comma ∷ w.Text ∷ literal_first) true
  unfolding reader.read_more_items
  more_items_step e = wide refl refl (then refl (commas (among begins_literal) literal_is refl refl inside) (λ more. makes U n (e ∷ more)))

  items_step : Within form.items reader.read_items literal_first (w.Comma ∷ w.Text ∷ literal_first) true
  unfolding reader.read_items
  items_step = wide refl refl (chooses (among begins_literal) literal_is refl (then refl inside more_items_step) (makes U n []))

  square_step : Of form.square reader.read_square (w.LeftSquare ∷ []) [] false
  unfolding reader.read_square
  square_step = opens_then U n w.LeftSquare refl (λ u. then refl items_step (λ all. then refl (takes U n w.RightSquare refl) (λ v. makes U n (value.List all))))

  below_key_law : (keys : List Literal) (n : ℕ) → ((n : ℕ) → Lawful n (form.key keys) (reader.read_key keys) (set key_first) (set (w.Text ∷ [])) false)
      → Lawful n (below (form.key keys)) (read_below (reader.read_key keys)) (set key_first) (set (w.Text ∷ [])) false
  below_key_law keys zero l = below_zero (form.key keys) (reader.read_key keys) _ _ false (l 0).some
  below_key_law keys (suc n) l = below_suc n (form.key keys) (reader.read_key keys) _ _ false (l n)

  key_below : (keys : List Literal) → Brief (below (form.key keys))
  key_below keys = let t = (text_key_step U n keys).brief in record { by_ = t.by_; value = t.value; gives = λ k. inr (inr (t.gives k)) }

  below_key_step : (keys : List Literal) → Inward U n (below (form.key keys)) (read_below (reader.read_key keys)) key_first (w.Text ∷ []) false
  below_key_step keys = record {
    rule = record {
      up = λ j u. below_grows (form.key keys) (λ m. key_up U n keys m) j;
      law = λ x. below_key_law keys n (λ m. (key_step U m keys).rule.law x);
    };
    dives = λ x. below_dives (form.key keys) (reader.read_key keys) (key_below keys) (λ m. (key_step U m keys).dives x) n;
    brief = key_below keys;
    plain = λ a ts rest h. absurd h;
  }

  pair_step : (keys : List Literal) → Within (λ m l. form.pair m l keys) (λ m l. reader.read_pair m l keys) key_first (w.Text ∷ []) false
  unfolding reader.read_pair
  pair_step keys = then refl (below_key_step keys) (λ k. then refl (takes U n w.Colon refl) (λ u. then refl inside (λ v. makes U n (k, v))))

  more_pairs_step : (keys : List Literal) → Within (λ m l. form.more_pairs m l keys) (λ m l. reader.read_more_pairs m l keys) (w.Comma ∷ []) (w.Comma ∷ w.Text ∷ key_first) true
  more_pairs_step keys = wide refl refl (commas_by (λ s. among begins_key) with_key key_first (λ s. key_is) (λ s. refl) refl pair_step keys)

  pairs_from_step : (keys : List Literal) (p : Pair) → Within (λ m l. form.pairs_from m l keys p) (λ m l. reader.read_pairs_from m l keys p) (w.Comma ∷ []) (w.Comma ∷ w.Text ∷ key_first) true
  unfolding reader.read_pairs_from
  pairs_from_step keys p = wide refl refl (then refl (more_pairs_step keys) (λ more. makes U n (p ∷ more)))

  pairs_step : Within form.pairs reader.read_pairs key_first (w.Comma ∷ w.Text ∷ key_first) true
  unfolding reader.read_pairs
  pairs_step = wide refl refl (chooses (among begins_key) key_is refl (then refl (pair_step []) (λ p. pairs_from_step (with_key [] p) p)) (makes U n []))

  curly_step : Of form.curly reader.read_curly (w.LeftCurly ∷ []) [] false
  unfolding reader.read_curly
  curly_step = opens_then U n w.LeftCurly refl (λ u. then refl pairs_step (λ all. then refl (takes U n w.RightCurly refl) (λ v. makes U n (value.Dict all))))

  pub deep_step : Of form.deep reader.read_deep literal_first (w.Text ∷ []) false
  unfolding reader.read_deep
  deep_step = wide refl refl (chooses (among begins_plain) plain_is refl (literal_step U n) (chooses (hits (is w.LeftSquare)) (tests w.LeftSquare) refl square_step curly_step))

-- ---- deep literals at every level

pub inner_some : Brief inner_literal
unfolding inner_literal
inner_some = record { by_ = example w.Nothing ∷ []; value = value.Nothing; gives = λ k. inl (inr (inr (inr (constant_there, refl)))) }

abbrev On : ℕ → Type 0
On j = Up j inner_literal

abbrev Inner : ℕ → Type 0
Inner n = Below n inner_literal read_inner_literal (set literal_first) (set (w.Text ∷ [])) false

pub no_literal : (a : Literal) (ts rest : List Token) → inner_literal 0 a ts rest → ⊥
unfolding inner_literal
no_literal a ts rest h = h

deep_at : (n : ℕ) → Inner n → Step On n (λ m. form.deep m (inner_literal m)) (λ m. reader.read_deep m (read_inner_literal m)) literal_first (w.Text ∷ []) false
deep_at n l = deep_step On n inner_literal read_inner_literal (one_further n _ _ (λ j u. u) l inner_some no_literal)

inner_zero : Inner 0
unfolding inner_literal read_inner_literal
inner_zero = nothing_below inner_literal read_inner_literal _ _ false (λ a ts rest h. h) (λ ts. refl) inner_some

inner_up : (j : ℕ) → On j
unfolding inner_literal
inner_up zero = λ a ts rest h. absurd h
inner_up (suc j) = (deep_at 0 inner_zero).rule.up j (inner_up j)

pub inner_literal_laws : (n : ℕ) → Inner n
unfolding inner_literal read_inner_literal
inner_literal_laws zero = inner_zero
inner_literal_laws (suc n) = from_outside n inner_literal read_inner_literal inner_up inner_some (deep_at n (inner_literal_laws n))

pub inner_short : (n : ℕ) → Shrinks (read_inner_literal n)
inner_short n = shrinks_of n inner_literal read_inner_literal _ _ (inner_literal_laws n).law

pub pair_short : (n : ℕ) (keys : List Literal) → Shrinks (reader.read_pair n (read_inner_literal n) keys)
pair_short n keys = shrinks_of n (λ m. form.pair m (inner_literal m) keys) (λ m. reader.read_pair m (read_inner_literal m) keys) _ _ ((pair_step On n inner_literal read_inner_literal (one_further n _ _ (λ j u. u) (inner_literal_laws n) inner_some no_literal) keys).rule.law inner_up)

pub inner_literal_grows : Grows inner_literal
inner_literal_grows = inner_up

pub deep_lawful : (n : ℕ) → Lawful n deep_literal read_deep_literal (set literal_first) (set (w.Text ∷ [])) false
unfolding deep_literal
deep_lawful n = (deep_at n (inner_literal_laws n)).rule.law inner_up

deep_dives : (n : ℕ) → Dives ⊥ n deep_literal read_deep_literal
unfolding deep_literal
deep_dives n = (deep_at n (inner_literal_laws n)).dives inner_up

deep_brief : Brief deep_literal
unfolding deep_literal
deep_brief = (deep_at 0 inner_zero).brief

deep_plain : Plain deep_literal
unfolding deep_literal
deep_plain = (deep_at 0 inner_zero).plain

pub deep_grows : Grows deep_literal
unfolding deep_literal
deep_grows n = (deep_at 0 inner_zero).rule.up n (inner_up n)

-- ---- whole texts

text_of_literal : (n : ℕ) → Step (λ j. Unit {0}) n form.literal_text reader.read_literal_text literal_first [] false
unfolding reader.read_literal_text
text_of_literal n =
    let value : Step (λ j. Unit {0}) n deep_literal read_deep_literal literal_first (w.Text ∷ []) false = settled n _ _ deep_grows (deep_lawful n) (deep_dives n) deep_brief deep_plain in
    wide refl refl (then refl value (λ v. then refl (takes (λ j. Unit {0}) n w.Newline refl) (λ u. then refl (takes (λ j. Unit {0}) n w.End refl) (λ x. makes (λ j. Unit {0}) n v))))

pub literal_text_lawful : (n : ℕ) → Lawful n form.literal_text reader.read_literal_text (set literal_first) (set []) false
literal_text_lawful n = (text_of_literal n).rule.law (λ j. tt)

pub literal_text_dives : (n : ℕ) → Dives ⊥ n form.literal_text reader.read_literal_text
literal_text_dives n = (text_of_literal n).dives (λ j. tt)

pub literal_text_grows : Grows form.literal_text
literal_text_grows n = (text_of_literal 0).rule.up n tt
