-- Comparisons that tell a value from every other.
use Rattle.std.proofs.Common.{◌≡◌, Bool, true, false, refl, ap, List, [], ◌∷◌, ◌&&◌}
use Rattle.std.specs.Cmp.Lexicographic.{pointwise}
use mathlib.Core.Logic.{inl, inr}
use denote.Struct.Field.{Field}
use denote.Enum.Declared.{Choice}
use denote.Enum.Compared as parts
use Rattle.rd_value.proofs.Ind.{Each, EachPair, EachSecond}

-- only x is equal to x
abbrev pub Tells : {A : Type 0} → (A → A → Bool) → A → Type 0
Tells {A} E x = (y : A) → E x y ≡ true → x ≡ y

both : (a b : Bool) → (a && b) ≡ true → (a ≡ true) × (b ≡ true)
both true true e = (refl, refl)
both true false e = cc
both false b e = cc

module _ {A : Type 0} (E : A → A → Bool) where
  pub tells_list : (xs : List A) → Each (Tells E) xs → Tells (pointwise E) xs
  tells_list [] hs [] e = refl
  tells_list [] hs (y ∷ ys) e = cc
  tells_list (x ∷ xs) hs [] e = cc
  tells_list (x ∷ xs) hs (y ∷ ys) e =
      let p = both (E x y) (pointwise E xs ys) e in
      λ i. hs.0 y p.0 i ∷ tells_list xs hs.1 ys p.1 i

module _ {A B : Type 0} (E : A → A → Bool) (H : B → B → Bool) where
  abbrev pub pair_eq : A × B → A × B → Bool
  pair_eq p q = E p.0 q.0 && H p.1 q.1

  pub tells_pair : (p : A × B) → Tells E p.0 → Tells H p.1 → Tells pair_eq p
  tells_pair p h k q e =
      let s = both (E p.0 q.0) (H p.1 q.1) e in
      λ i. (h q.0 s.0 i, k q.1 s.1 i)

-- of one field
abbrev pub one_eq : {A : Type 0} → (A → A → Bool) → A × Unit {0} → A × Unit {0} → Bool
one_eq E u v = E u.0 v.0

pub tells_one : {A : Type 0} (E : A → A → Bool) (x : A) → Tells E x → Tells (one_eq E) (x, tt)
tells_one E x h y e = λ i. (h y.0 e i, tt)

-- of a field and those after it
pub tells_two : {A B : Type 0} (E : A → A → Bool) (H : B → B → Bool) (x : A) (y : B) → Tells E x → Tells H y → Tells (pair_eq E (one_eq H)) (x, (y, tt))
tells_two E H x y h k = tells_pair E (one_eq H) (x, (y, tt)) h (tells_one H y k)

pub tells_three : {A B C : Type 0} (E : A → A → Bool) (H : B → B → Bool) (K : C → C → Bool) (x : A) (y : B) (z : C) → Tells E x → Tells H y → Tells K z → Tells (pair_eq E (pair_eq H (one_eq K))) (x, (y, (z, tt)))
tells_three E H K x y z h k l = tells_pair E (pair_eq H (one_eq K)) (x, (y, (z, tt))) h (tells_two H K y z k l)

-- of lists of pairs, from what is known of their parts
each_pair : {A : Type 0} (E : A → A → Bool) (ps : List (A × A)) → EachPair (Tells E) ps → Each (Tells (pair_eq E E)) ps
each_pair E [] hs = tt
each_pair E (p ∷ ps) hs = (tells_pair E E p hs.0.0 hs.0.1, each_pair E ps hs.1)

pub tells_pairs : {A : Type 0} (E : A → A → Bool) (ps : List (A × A)) → EachPair (Tells E) ps → Tells (pointwise (pair_eq E E)) ps
tells_pairs E ps hs = tells_list (pair_eq E E) ps (each_pair E ps hs)

module _ {A B : Type 0} (E : A → A → Bool) (H : B → B → Bool) (keys : (k : A) → Tells E k) where
  each_second : (ps : List (A × B)) → EachSecond (Tells H) ps → Each (Tells (pair_eq E H)) ps
  each_second [] hs = tt
  each_second (p ∷ ps) hs = (tells_pair E H p (keys p.0) hs.0, each_second ps hs.1)

  pub tells_seconds : (ps : List (A × B)) → EachSecond (Tells H) ps → Tells (pointwise (pair_eq E H)) ps
  tells_seconds ps hs = tells_list (pair_eq E H) ps (each_second ps hs)

-- a derived comparison tells a value of an enum, where its fields' comparisons tell the fields of its variant
abbrev pub TellsFields : (Fss : List (List Field)) → parts.Each Bool Fss → Choice Fss → Type 0
TellsFields [] each c = Unit {0}
TellsFields (Fs ∷ Fss) each (inl x) = Tells each.0 x
TellsFields (Fs ∷ Fss) each (inr c) = TellsFields Fss each.1 c

pub tells_choice : (Fss : List (List Field)) (each : parts.Each Bool Fss) (c : Choice Fss) → TellsFields Fss each c → Tells (parts.by false false Fss each) c
tells_choice [] each c h d e = absurd c
tells_choice (Fs ∷ Fss) each (inl x) h (inl y) e = ap inl (h y e)
tells_choice (Fs ∷ Fss) each (inl x) h (inr d) e = cc
tells_choice (Fs ∷ Fss) each (inr c) h (inl y) e = cc
tells_choice (Fs ∷ Fss) each (inr c) h (inr d) e = ap inr (tells_choice Fss each.1 c h d e)
