-- Loops over lists whose items are read in view of those before them.
use Rattle.std.proofs.Common.{◌≡◌, ℕ, zero, suc, ◌-◌, true, false, List, [], ◌∷◌, ◌++◌, length, slice_get, Some, Ok, Err, refl, sym, ap, ◌∙◌, append-nil, arith}
use Rattle.std.specs.Option.{option_map}
use Rattle.std.proofs.lemmas.List.{length-append}
use Rattle.rd_bencode.specs.declared.read.spot.Halt.{Halt}
use Rattle.rd_bencode.specs.declared.read.spot.Halt.TheVariants.{Memory, Refused}
use Rattle.rd_bencode.specs.Reader.{Fails, Place, Outcome, Reader, begins_item, onto}
use Rattle.rd_bencode.specs.Lists.{read_each_by}
use Rattle.rd_bencode.specs.RecordReaders.{last_key}
use Rattle.rd_bencode.proofs.Turns.{behind_one}

module _ {S A : Type 0} (p : S → Reader A) (after : S → A → S) where
  turn_by : (all : List A) (a : A) (st : S) (n : ℕ) (s t : Place) → begins_item s.0 ≡ true → p st s ≡ Ok (a, t) →
      onto all (read_each_by p after (suc n) st) s ≡ onto (all ++ a ∷ []) (read_each_by p after n (after st a)) t
  turn_by all a st n s t begins e = rw (begins, e) (behind_one all a (read_each_by p after n (after st a) t))

  pub each_turn : (all more : List A) (a : A) (st old next : S) (m n : ℕ) (s t : Place) (target : Outcome (List A)) → old ≡ st → begins_item s.0 ≡ true → p old s ≡ Ok (a, t) →
      more ≡ all ++ a ∷ [] → next ≡ after st a → m ≡ suc n → onto all (read_each_by p after m st) s ≡ target → onto more (read_each_by p after n next) t ≡ target
  each_turn all more a st old next m n s t target same begins e is new fuel i = rw (is, new) (sym (turn_by all a st n s t begins (ap (λ z. p z s) (sym same) ∙ e)) ∙ rw fuel at i)

  each_halts : (all : List A) (st : S) (m n : ℕ) (s : Place) (e : List ℕ) (target : Outcome (List A)) → begins_item s.0 ≡ true → p st s ≡ Err e → m ≡ suc n →
      onto all (read_each_by p after m st) s ≡ target → target ≡ Err e
  each_halts all st m n s e target begins fails fuel i = sym (rw (fuel, begins, fails) at i)

  pub each_fails : (all : List A) (st old : S) (m n : ℕ) (s : Place) (h : Halt) (target : Outcome (List A)) → old ≡ st → begins_item s.0 ≡ true → Fails h (p old s) → m ≡ suc n →
      onto all (read_each_by p after m st) s ≡ target → Fails h target
  each_fails all st old m n s Memory target same begins e fuel i = tt
  each_fails all st old m n s (Refused r) target same begins e fuel i = each_halts all st m n s r.now target begins (ap (λ z. p z s) (sym same) ∙ e) fuel i

  none_by : (all : List A) (st : S) (m : ℕ) (s : Place) → begins_item s.0 ≡ false → onto all (read_each_by p after m st) s ≡ Ok (all, s)
  none_by all st zero s none = rw append-nil refl
  none_by all st (suc m) s none = rw none (rw append-nil refl)

  pub each_stops : (all : List A) (st : S) (m : ℕ) (s : Place) (target : Outcome (List A)) → begins_item s.0 ≡ false → onto all (read_each_by p after m st) s ≡ target → target ≡ Ok (all, s)
  each_stops all st m s target none i = sym i ∙ none_by all st m s none

  pub each_ends : (all : List A) (st : S) (m : ℕ) (s : Place) (target : Outcome (List A)) → m ≡ 0 → onto all (read_each_by p after m st) s ≡ target → target ≡ Ok (all, s)
  each_ends all st m s target zero_left i = sym (rw (zero_left, append-nil) at i)

-- ---- the key of the last entry

last_is : {A : Type 0} (all : List (List ℕ × A)) (a : List ℕ × A) → slice_get (all ++ a ∷ []) (length all) ≡ Some a
last_is [] a = refl
last_is (b ∷ all) a = last_is all a

pub last_added : {A : Type 0} (all more : List (List ℕ × A)) (a : List ℕ × A) → more ≡ all ++ a ∷ [] → last_key more ≡ Some a.0
last_added {A} all more a is =
    let size : length (all ++ a ∷ []) - 1 ≡ length all = simp length-append (omega arith) in
    ap last_key is ∙ (ap (λ n. option_map (λ (e : List ℕ × A). e.0) (slice_get (all ++ a ∷ []) n)) size ∙ ap (option_map (λ (e : List ℕ × A). e.0)) (last_is all a))
