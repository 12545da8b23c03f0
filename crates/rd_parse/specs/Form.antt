-- Forms of text: what relates a value to the tokens that spell it and the tokens behind these.
use Rattle.std.specs.Prelude.{◌≡◌, ℕ, zero, suc, List, [], ◌∷◌, ◌++◌, Option, Some, None, ◌⊎◌}

abbrev pub Form : Type 0 → Type 0 → Type 1
Form T A = A → List T → List T → Type 0

-- one token, by what it means
abbrev pub one : {T A : Type 0} → (T → Option A) → Form T A
one f a [] rest = ⊥
one f a (t ∷ ts) rest = (f t ≡ Some a) × (ts ≡ rest)

-- one after the other
abbrev pub both : {T A B : Type 0} → Form T A → Form T B → Form T (A × B)
both {T} p q x ts rest = (mid : List T) × p x.0 ts mid × q x.1 mid rest

-- this value, of no token
abbrev pub yields : {T A : Type 0} → A → Form T A
yields a b ts rest = (a ≡ b) × (ts ≡ rest)

-- one after the other, where the first one's value decides what may come and what is made of both
abbrev pub bound : {T A B : Type 0} → Form T A → (A → Form T B) → Form T B
bound {T} {A} p q b ts rest = (a : A) × (mid : List T) × p a ts mid × q a b mid rest

infixl 10 ◌>>=◌
abbrev pub ◌>>=◌ : {T A B : Type 0} → Form T A → (A → Form T B) → Form T B
p >>= q = bound p q

-- what is made of a value
abbrev pub made : {T A B : Type 0} → (A → B) → Form T A → Form T B
made {T} {A} g p b ts rest = (a : A) × (g a ≡ b) × p a ts rest

abbrev pub either : {T A : Type 0} → Form T A → Form T A → Form T A
either p q a ts rest = p a ts rest ⊎ q a ts rest

-- any number of them
abbrev pub many : {T A : Type 0} → Form T A → Form T (List A)
many p [] ts rest = ts ≡ rest
many {T} p (a ∷ as_) ts rest = (mid : List T) × p a ts mid × many p as_ mid rest

-- at most one
abbrev pub opt : {T A : Type 0} → Form T A → Form T (Option A)
opt p None ts rest = ts ≡ rest
opt p (Some a) ts rest = p a ts rest

abbrev pub never : {T A : Type 0} → Form T A
never a ts rest = ⊥

-- one token, where one more level may be open: the number says how many may
abbrev pub opening : {T A : Type 0} → (T → Option A) → ℕ → Form T A
opening o zero = never
opening o (suc n) = one o

-- the form one level further in
abbrev pub below : {T A : Type 0} → (ℕ → Form T A) → ℕ → Form T A
below p zero = never
below p (suc n) = p n

-- More of them, each behind a sign, and the sign once more at the end or not. What came before decides, by a state, which may come.
abbrev pub tail : {T S C A : Type 0} → (T → Option C) → (S → Form T A) → (S → A → S) → S → Form T (List A)
tail {C = C} c p step s [] ts rest = (ts ≡ rest) ⊎ ((u : C) × one c u ts rest)
tail {T} {C = C} c p step s (a ∷ more) ts rest = (u : C) × (x : List T) × one c u ts x × (mid : List T) × p s a x mid × tail c p step (step s a) more mid rest

-- any number of them, each behind a sign, and the sign once more at the end or not
abbrev pub more : {T C A : Type 0} → (T → Option C) → Form T A → Form T (List A)
more {A = A} c p = tail c (λ (s : Unit {0}). p) (λ (s : Unit {0}) (a : A). s) tt

-- what a first one and those behind it are together
abbrev pub all_of : {A : Type 0} → Option (A × List A) → List A
all_of None = []
all_of (Some x) = x.0 ∷ x.1

-- any number of them with a sign between each two, and the sign once more behind the last or not
abbrev pub listed : {T C A : Type 0} → (T → Option C) → Form T A → Form T (List A)
listed c p = made all_of (opt (both p (more c p)))

-- ---- whole texts

-- The tokens are a text with this value, and no more than so many levels are open in it.
abbrev pub IsText : {T A : Type 0} → (ℕ → Form T A) → ℕ → A → List T → Type 0
IsText P n a ts = P n a ts []

-- some text begins so, however deep it nests
abbrev pub Viable : {T A : Type 0} → (ℕ → Form T A) → List T → Type 0
Viable {T} {A} P ts = (more : List T) × (n : ℕ) × (a : A) × IsText P n a (ts ++ more)

-- no text goes on with the first of these tokens, and where there is none, the tokens before are no text
abbrev pub IsStuck : {T A : Type 0} → (ℕ → Form T A) → List T → List T → Type 0
IsStuck {T} {A} P before [] = (n : ℕ) (a : A) → IsText P n a before → ⊥
IsStuck P before (t ∷ after) = Viable P (before ++ t ∷ []) → ⊥

-- what comes first with which no text goes on
pub record StopsAt {T A : Type 0} (P : ℕ → Form T A) (ts after : List T) : Type 0 where
  pub before : List T
  pub parts : ts ≡ before ++ after
  pub viable : Viable P before
  pub stuck : IsStuck P before after
