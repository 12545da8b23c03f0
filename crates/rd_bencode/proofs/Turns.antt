-- Loops over lists of any length, one item at a time.
use Rattle.std.proofs.Common.{◌≡◌, ℕ, zero, suc, true, false, List, [], ◌∷◌, ◌++◌, Ok, Err, refl, sym, ◌∙◌, append_assoc, append-nil}
use Rattle.rd_bencode.specs.declared.read.spot.Halt.{Halt}
use Rattle.rd_bencode.specs.declared.read.spot.Halt.TheVariants.{Memory, Refused}
use Rattle.rd_bencode.specs.Reader.{Fails, Place, Outcome, Reader, and_then, pure, begins_item, read_many_by, onto}
use Rattle.rd_bencode.specs.Values.{Value, read_pair, read_pairs_by}

-- what was read, as one more item in front of the rest
pub behind_one : {A : Type 0} (all : List A) (a : A) (r : Outcome (List A)) →
    and_then (and_then r (λ more. pure (a ∷ more))) (λ more. pure (all ++ more)) ≡ and_then r (λ more. pure ((all ++ a ∷ []) ++ more))
behind_one all a (Ok x) = let e : all ++ (a ∷ x.0) ≡ (all ++ a ∷ []) ++ x.0 = sym (append_assoc all (a ∷ []) x.0) in rw e refl
behind_one all a (Err e) = refl

module _ {A : Type 0} (p : Reader A) where
  turn_by : (all : List A) (a : A) (n : ℕ) (s t : Place) → begins_item s.0 ≡ true → p s ≡ Ok (a, t) → onto all (read_many_by p (suc n)) s ≡ onto (all ++ a ∷ []) (read_many_by p n) t
  turn_by all a n s t begins e = rw (begins, e) (behind_one all a (read_many_by p n t))

  pub turn : (all more : List A) (a : A) (m n : ℕ) (s t : Place) (target : Outcome (List A)) → begins_item s.0 ≡ true → p s ≡ Ok (a, t) → more ≡ all ++ a ∷ [] → m ≡ suc n →
      onto all (read_many_by p m) s ≡ target → onto more (read_many_by p n) t ≡ target
  turn all more a m n s t target begins e is next i = rw is (sym (turn_by all a n s t begins e) ∙ rw next at i)

  pub halts : (all : List A) (m n : ℕ) (s : Place) (e : List ℕ) (target : Outcome (List A)) → begins_item s.0 ≡ true → p s ≡ Err e → m ≡ suc n →
      onto all (read_many_by p m) s ≡ target → target ≡ Err e
  halts all m n s e target begins fails next i = sym (rw (next, begins, fails) at i)

  none_by : (all : List A) (m : ℕ) (s : Place) → begins_item s.0 ≡ false → onto all (read_many_by p m) s ≡ Ok (all, s)
  none_by all zero s none = rw append-nil refl
  none_by all (suc m) s none = rw none (rw append-nil refl)

  pub stops : (all : List A) (m : ℕ) (s : Place) (target : Outcome (List A)) → begins_item s.0 ≡ false → onto all (read_many_by p m) s ≡ target → target ≡ Ok (all, s)
  stops all m s target none i = sym i ∙ none_by all m s none

  pub ends : (all : List A) (m : ℕ) (s : Place) (target : Outcome (List A)) → m ≡ 0 → onto all (read_many_by p m) s ≡ target → target ≡ Ok (all, s)
  ends all m s target zero_left i = sym (rw (zero_left, append-nil) at i)

  pub fails : (all : List A) (m n : ℕ) (s : Place) (h : Halt) (target : Outcome (List A)) → begins_item s.0 ≡ true → Fails h (p s) → m ≡ suc n →
      onto all (read_many_by p m) s ≡ target → Fails h target
  fails all m n s Memory target begins e next i = tt
  fails all m n s (Refused r) target begins e next i = halts all m n s r.now target begins e next i

-- the same for the pairs of a dict
module _ {A : Type 0} (levels : ℕ) (inside : Reader A) where
  pair_turn_by : (all : List (Value × A)) (p : Value × A) (keys : List Value) (n : ℕ) (s t : Place) → begins_item s.0 ≡ true → read_pair levels inside keys s ≡ Ok (p, t) →
      onto all (read_pairs_by levels inside (suc n) keys) s ≡ onto (all ++ p ∷ []) (read_pairs_by levels inside n (keys ++ p.0 ∷ [])) t
  pair_turn_by all p keys n s t begins e = rw (begins, e) (behind_one all p (read_pairs_by levels inside n (keys ++ p.0 ∷ []) t))

  pub pair_turn : (all more : List (Value × A)) (p : Value × A) (keys added : List Value) (m n : ℕ) (s t : Place) (target : Outcome (List (Value × A))) → begins_item s.0 ≡ true → read_pair levels inside keys s ≡ Ok (p, t) →
      more ≡ all ++ p ∷ [] → added ≡ keys ++ p.0 ∷ [] → m ≡ suc n → onto all (read_pairs_by levels inside m keys) s ≡ target → onto more (read_pairs_by levels inside n added) t ≡ target
  pair_turn all more p keys added m n s t target begins e is new next i = rw (is, new) (sym (pair_turn_by all p keys n s t begins e) ∙ rw next at i)

  pub pair_fails : (all : List (Value × A)) (keys : List Value) (m n : ℕ) (s : Place) (h : Halt) (target : Outcome (List (Value × A))) → begins_item s.0 ≡ true → Fails h (read_pair levels inside keys s) → m ≡ suc n →
      onto all (read_pairs_by levels inside m keys) s ≡ target → Fails h target
  pair_fails all keys m n s Memory target begins e next i = tt
  pair_fails all keys m n s (Refused r) target begins e next i = sym (rw (next, begins, e) at i)

  no_pairs_by : (all : List (Value × A)) (keys : List Value) (m : ℕ) (s : Place) → begins_item s.0 ≡ false → onto all (read_pairs_by levels inside m keys) s ≡ Ok (all, s)
  no_pairs_by all keys zero s none = rw append-nil refl
  no_pairs_by all keys (suc m) s none = rw none (rw append-nil refl)

  pub pair_stops : (all : List (Value × A)) (keys : List Value) (m : ℕ) (s : Place) (target : Outcome (List (Value × A))) → begins_item s.0 ≡ false → onto all (read_pairs_by levels inside m keys) s ≡ target → target ≡ Ok (all, s)
  pair_stops all keys m s target none i = sym i ∙ no_pairs_by all keys m s none

  pub pair_ends : (all : List (Value × A)) (keys : List Value) (m : ℕ) (s : Place) (target : Outcome (List (Value × A))) → m ≡ 0 → onto all (read_pairs_by levels inside m keys) s ≡ target → target ≡ Ok (all, s)
  pair_ends all keys m s target zero_left i = sym (rw (zero_left, append-nil) at i)
