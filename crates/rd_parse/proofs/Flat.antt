-- Readers step by step, and the same as one combinator.
use Rattle.std.proofs.Common.{◌≡◌, ℕ, Bool, true, false, cond, List, [], ◌∷◌, Option, Some, None, Ok, Err, refl}
use Rattle.rd_parse.specs.Form.{all_of}
use Rattle.rd_parse.specs.Reader.{Refused, Deep, Outcome, Reader, sees, hits, and_then, ◌>>=◌, pure, read_both, read_made, read_opt, read_opening, read_open}

pub assoc : {T A B C : Type 0} (r : Outcome T A) (f : A → Reader T B) (g : B → Reader T C) → and_then (and_then r f) g ≡ and_then r (λ a ts. and_then (f a ts) g)
assoc (Ok x) f g = refl
assoc (Err e) f g = refl

pub flat2 : {T A B Z : Type 0} (z : A × B → Z) (f : Reader T A) (g : Reader T B) (w : List T) → read_made z (read_both f g) w ≡ (f >>= λ a. g >>= λ b. pure (z (a, b))) w
flat2 z f g w = simp assoc

pub flat3 : {T A B C Z : Type 0} (z : A × (B × C) → Z) (f : Reader T A) (g : Reader T B) (h : Reader T C) (w : List T) → read_made z (read_both f (read_both g h)) w ≡ (f >>= λ a. g >>= λ b. h >>= λ c. pure (z (a, (b, c)))) w
flat3 z f g h w = simp assoc

pub flat4 : {T A B C D Z : Type 0} (z : A × (B × (C × D)) → Z) (f : Reader T A) (g : Reader T B) (h : Reader T C) (p : Reader T D) (w : List T)
    → read_made z (read_both f (read_both g (read_both h p))) w ≡ (f >>= λ a. g >>= λ b. h >>= λ c. p >>= λ d. pure (z (a, (b, (c, d))))) w
flat4 z f g h p w = simp assoc

pub flat5 : {T A B C D E Z : Type 0} (z : A × (B × (C × (D × E))) → Z) (f : Reader T A) (g : Reader T B) (h : Reader T C) (p : Reader T D) (q : Reader T E) (w : List T)
    → read_made z (read_both f (read_both g (read_both h (read_both p q)))) w ≡ (f >>= λ a. g >>= λ b. h >>= λ c. p >>= λ d. q >>= λ e. pure (z (a, (b, (c, (d, e)))))) w
flat5 z f g h p q w = simp assoc

-- ---- none, or what is read

module _ {T A B : Type 0} (f : Reader T A) (h : Option A → B) (w : List T) where
  opt_by : (b : Bool) → cond b (and_then (f w) (λ a. pure (h (Some a)))) (Ok (h None, w)) ≡ and_then (cond b (read_made Some f w) (Ok (None, w))) (λ x. pure (h x))
  opt_by true = simp assoc
  opt_by false = refl

  pub flat_opt : (s : T → Bool) → cond (sees s w) ((f >>= λ a. pure (h (Some a))) w) (Ok (h None, w)) ≡ read_made h (read_opt s f) w
  flat_opt s = opt_by (sees s w)

module _ {T A : Type 0} (f : Reader T A) (g : Reader T (List A)) (w : List T) where
  listed_by : (b : Bool) → cond b ((f >>= λ a. g >>= λ more. pure (a ∷ more)) w) (Ok ([], w)) ≡ and_then (cond b (read_made Some (read_both f g) w) (Ok (None, w))) (λ x. pure (all_of x))
  listed_by true = simp assoc
  listed_by false = refl

  pub flat_listed : (s : T → Bool) → cond (sees s w) ((f >>= λ a. g >>= λ more. pure (a ∷ more)) w) (Ok ([], w)) ≡ read_made all_of (read_opt s (read_both f g)) w
  flat_listed s = listed_by (sees s w)

-- ---- a token that opens a level

-- where no level may open, nothing behind it is read
pub shut : {T A B C : Type 0} (o : T → Option A) (w : List T) (f : ℕ → Reader T B) (g : A → Reader T C) (h : C → B) → and_then (read_open o 0 w) f ≡ and_then (and_then (read_opening o 0 w) g) (λ x. pure (h x))
shut {T} {A} {B} {C} o w f g h = by_flag (sees (hits o) w)
  where
    by_flag : (b : Bool) → and_then {A = ℕ} (cond b (Err (Deep w)) (Err (Refused w))) f ≡ and_then (and_then {A = A} (cond b (Err (Deep w)) (Err (Refused w))) g) (λ x. pure (h x))
    by_flag true = refl
    by_flag false = refl
