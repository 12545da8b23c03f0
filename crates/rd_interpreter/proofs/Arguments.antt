-- Arguments of a helper, as they are made, found, filled and read.
use Rattle.std.proofs.Common.{◌≡◌, ℕ, zero, suc, ◌+◌, ◌<◌, ◌≤◌, Bool, true, false, cond, refl, sym, ap, ◌∙◌, List, [], ◌∷◌, ◌++◌, length, map, get_or, set, None, Some, Ok, Err, arith, append_assoc, add-one}
use Rattle.std.specs.Prelude.{Option, Result}
use Rattle.std.specs.List.{slice_get, position, position_from}
use Rattle.std.specs.Option.{option_map, is_some}
use Rattle.std.specs.Str.{bytes_eq}
use Rattle.std.proofs.lemmas.Iterator.Adapters.{position_from-zero}
use Rattle.std.proofs.lemmas.Slice.Eq.{bytes_eq-Decides}
use Rattle.std.proofs.lemmas.List.{map-append, length-map, length_push}
use Rattle.rd_routine.specs.declared.routine.Parameter.{Parameter}
use Rattle.rd_routine.specs.declared.routine.Word.{Word}
use Rattle.rd_value.specs.declared.value.ErrorValue.{ErrorValue}
use Rattle.rd_value.specs.declared.value.FileValue.{FileValue}
use Rattle.rd_value.specs.declared.expr.Lazy.{Lazy}
use Rattle.rd_value.specs.Bind as bind
use Rattle.rd_value.specs.Bind.{and_then, empty, placed, filled, with_keyword, with_keywords, settled, all_settled, arguments, too_many, unknown, given_twice}
use Rattle.rd_interpreter.specs.declared.binding.Argument.{Argument}
use Rattle.rd_routine.specs.declared.routine.Routine.{Routine}
use Rattle.std.proofs.lemmas.Simd.{map-map}
use Rattle.rd_interpreter.specs.Body as body
use Rattle.rd_interpreter.specs.Body.{bound, with_names}
use Rattle.rd_interpreter.specs.Running.{Answers, local, parameter_of, routine_of, with_local}
use mathlib.Core.Path.{fun_ext}
use Rattle.rd_interpreter.specs.declared.halt.Halt.{Halt}
use Rattle.rd_interpreter.specs.declared.halt.Halt.TheVariants.{Raised, OutOfMemory}
use Rattle.rd_interpreter.specs.Binding.{Filled, spelled_in, slot_of, names_of, in_order, place_of}

-- ---- the positional arguments

module _ {V : Type 0} where
  none_given : (n : ℕ) (ps : List (List ℕ × Option V)) → in_order n ps [] ≡ map empty ps
  none_given n [] = refl
  none_given n (p ∷ ps) = ap (λ slots. empty p ∷ slots) (none_given (suc n) ps)

  behind : (n : ℕ) (ps : List (List ℕ × Option V)) (v : V) (vs : List V) → in_order (suc n) ps (v ∷ vs) ≡ in_order n ps vs
  behind n [] v vs = refl
  behind n (p ∷ ps) v vs = ap (λ slots. record { name = p.0; default = p.1; given = slice_get vs n } ∷ slots) (behind (suc n) ps v vs)

  pub placed_in_order : (ps : List (List ℕ × Option V)) (vs : List V) → length vs ≤ length ps → placed ps vs ≡ Ok (in_order 0 ps vs)
  placed_in_order ps [] h = ap Ok (sym (none_given 0 ps))
  placed_in_order [] (v ∷ vs) h = absurd (omega arith)
  placed_in_order (p ∷ ps) (v ∷ vs) h = rw (placed_in_order ps vs (omega arith), behind 0 ps v vs) refl

  pub placed_too_many : (ps : List (List ℕ × Option V)) (vs : List V) → length ps < length vs → placed ps vs ≡ Err too_many
  placed_too_many ps [] h = absurd (omega arith)
  placed_too_many [] (v ∷ vs) h = refl
  placed_too_many (p ∷ ps) (v ∷ vs) h = rw (placed_too_many ps vs (omega arith)) refl

-- one slot more
pub slots_more : (words : List Word) (slots new : List Argument) (s : Argument) (ps rest : List Parameter) (p : Parameter) (vs : List (Lazy FileValue)) (target : List (bind.Slot (Lazy FileValue))) →
    new ≡ slots ++ s ∷ [] → ps ≡ p ∷ rest → slot_of s ≡ record { name = (spelled_in words p).0; default = (spelled_in words p).1; given = slice_get vs (length slots) } →
    map slot_of slots ++ in_order (length slots) (map (spelled_in words) ps) vs ≡ target → map slot_of new ++ in_order (length new) (map (spelled_in words) rest) vs ≡ target
slots_more words slots new s ps rest p vs target e d same i =
    rw (e, map-append slot_of slots (s ∷ []), length_push slots s, add-one, append_assoc, same) (rw d at i)

-- ---- a name

shifted : (n : ℕ) (o : Option ℕ) → option_map (λ k. n + k) (option_map suc o) ≡ option_map (λ k. (n + 1) + k) o
shifted n None = refl
shifted n (Some k) = ap Some (omega arith)

-- the first slot has the name
pub here : (name : List ℕ) (n : ℕ) (slots rest : List Argument) (s : Argument) (o : Option ℕ) → slots ≡ s ∷ rest → bytes_eq s.name name ≡ true →
    option_map (λ k. n + k) (place_of name (map slot_of slots)) ≡ o → Some n ≡ o
here name n slots rest s o d e i = ap Some (omega arith) ∙ rw (d, e) at i

-- the first slot has another name
pub later : (name : List ℕ) (n m : ℕ) (slots rest : List Argument) (s : Argument) (o : Option ℕ) → m ≡ n + 1 → slots ≡ s ∷ rest → bytes_eq s.name name ≡ false →
    option_map (λ k. n + k) (place_of name (map slot_of slots)) ≡ o → option_map (λ k. m + k) (place_of name (map slot_of rest)) ≡ o
later name n m slots rest s o p d e i = rw p (sym (shifted n (place_of name (map slot_of rest))) ∙ rw (d, e) at i)

-- ---- names

same_if : (p q : Bool) → (p ≡ true → q ≡ true) → (q ≡ true → p ≡ true) → p ≡ q
same_if true q f g = sym (f refl)
same_if false true f g = g refl
same_if false false f g = refl

turned : (a b : List ℕ) → bytes_eq a b ≡ bytes_eq b a
turned a b =
    let there : bytes_eq a b ≡ true → bytes_eq b a ≡ true = λ h. (bytes_eq-Decides b a).1 (sym ((bytes_eq-Decides a b).0 h)) in
    let back : bytes_eq b a ≡ true → bytes_eq a b ≡ true = λ h. (bytes_eq-Decides a b).1 (sym ((bytes_eq-Decides b a).0 h)) in
    same_if (bytes_eq a b) (bytes_eq b a) there back

as_it_is : (o : Option ℕ) → option_map (λ k. 0 + k) o ≡ o
as_it_is None = refl
as_it_is (Some k) = ap Some (omega arith)

counted_by : (n : ℕ) (b : Bool) (o p : Option ℕ) → option_map (λ k. (n + 1) + k) o ≡ p → option_map (λ k. n + k) (cond b (Some 0) (option_map suc o)) ≡ cond b (Some n) p
counted_by n true o p i = ap Some (omega arith)
counted_by n false o p i = shifted n o ∙ i

counted : (name : List ℕ) (n : ℕ) (slots : List Argument) → option_map (λ k. n + k) (place_of name (map slot_of slots)) ≡ position_from (bytes_eq name) n (names_of slots)
counted name n [] = refl
counted name n (s ∷ slots) = rw (turned name s.name) (counted_by n (bytes_eq s.name name) (place_of name (map slot_of slots)) (position_from (bytes_eq name) (n + 1) (names_of slots)) (counted name (n + 1) slots))

-- the place among the names is that among the slots
pub place_by_names : (name : List ℕ) (slots : List Argument) → position (bytes_eq name) (names_of slots) ≡ place_of name (map slot_of slots)
place_by_names name slots = position_from-zero (bytes_eq name) (names_of slots) ∙ (sym (counted name 0 slots) ∙ as_it_is (place_of name (map slot_of slots)))

-- a slot that is filled keeps its name
pub keeps_names : (slots : List Argument) (i : ℕ) (s t : Argument) → s ≡ get_or slots i s → t.name ≡ s.name → names_of (set slots i t) ≡ names_of slots
keeps_names [] i s t q e = refl
keeps_names (r ∷ slots) zero s t q e = rw (e, q) refl
keeps_names (r ∷ slots) (suc i) s t q e = ap (λ names. r.name ∷ names) (keeps_names slots i s t q e)

-- ---- a keyword

module _ (name : List ℕ) (v : Lazy FileValue) where
  unknown_by : (t : Argument) (slots : List Argument) (b : Bool) (o : Option ℕ) → (o ≡ None → with_keyword (name, v) (map slot_of slots) ≡ Err (unknown name)) → cond b (Some 0) (option_map suc o) ≡ None →
      cond b (and_then (filled v (slot_of t) t.given) (λ full. Ok (full ∷ map slot_of slots))) (and_then (with_keyword (name, v) (map slot_of slots)) (λ rest. Ok (slot_of t ∷ rest))) ≡ Err (unknown name)
  unknown_by t slots true o ih e = absurd cc
  unknown_by t slots false (Some k) ih e = absurd cc
  unknown_by t slots false None ih e = rw (ih refl) refl

  pub unknown_name : (slots : List Argument) → place_of name (map slot_of slots) ≡ None → with_keyword (name, v) (map slot_of slots) ≡ Err (unknown name)
  unknown_name [] e = refl
  unknown_name (t ∷ slots) e = unknown_by t slots (bytes_eq t.name name) (place_of name (map slot_of slots)) (unknown_name slots) e

  -- what comes of a slot that was found
  found : Argument → List Argument → ℕ → Option (Lazy FileValue) → Result (List (bind.Slot (Lazy FileValue))) ErrorValue
  found s slots i (Some w) = Err (given_twice s.name)
  found s slots i None = Ok (map slot_of (set slots i (record { name = s.name; default = s.default; given = Some v })))

  first_found : (t : Argument) (slots : List Argument) (o : Option (Lazy FileValue)) → and_then (filled v (slot_of t) o) (λ full. Ok (full ∷ map slot_of slots)) ≡ found t (t ∷ slots) 0 o
  unfolding found
  first_found t slots (Some w) = refl
  first_found t slots None = refl

  next_found : (s t : Argument) (slots : List Argument) (i : ℕ) (o : Option (Lazy FileValue)) → and_then (found s slots i o) (λ rest. Ok (slot_of t ∷ rest)) ≡ found s (t ∷ slots) (suc i) o
  unfolding found
  next_found s t slots i (Some w) = refl
  next_found s t slots i None = refl

  found_by : (s t : Argument) (slots : List Argument) (i : ℕ) (b : Bool) (o : Option ℕ) → ((j : ℕ) → o ≡ Some j → s ≡ get_or slots j s → with_keyword (name, v) (map slot_of slots) ≡ found s slots j s.given) →
      cond b (Some 0) (option_map suc o) ≡ Some i → s ≡ get_or (t ∷ slots) i s →
      cond b (and_then (filled v (slot_of t) t.given) (λ full. Ok (full ∷ map slot_of slots))) (and_then (with_keyword (name, v) (map slot_of slots)) (λ rest. Ok (slot_of t ∷ rest))) ≡ found s (t ∷ slots) i s.given
  found_by s t slots zero true o ih e q = rw q (first_found t slots t.given)
  found_by s t slots (suc i) true o ih e q = absurd cc
  found_by s t slots i false None ih e q = absurd cc
  found_by s t slots zero false (Some j) ih e q = absurd cc
  found_by s t slots (suc i) false (Some j) ih e q = rw (ih i (cc) q) (next_found s t slots i s.given)

  found_at : (slots : List Argument) (i : ℕ) (s : Argument) → place_of name (map slot_of slots) ≡ Some i → s ≡ get_or slots i s → with_keyword (name, v) (map slot_of slots) ≡ found s slots i s.given
  found_at [] i s e q = absurd cc
  found_at (t ∷ slots) i s e q = found_by s t slots i (bytes_eq t.name name) (place_of name (map slot_of slots)) (λ j. found_at slots j s) e q

  found_free : (s : Argument) (slots : List Argument) (i : ℕ) (o : Option (Lazy FileValue)) → is_some o ≡ false → found s slots i o ≡ Ok (map slot_of (set slots i (record { name = s.name; default = s.default; given = Some v })))
  unfolding found
  found_free s slots i (Some w) g = absurd cc
  found_free s slots i None g = refl

  found_taken : (s : Argument) (slots : List Argument) (i : ℕ) (o : Option (Lazy FileValue)) → is_some o ≡ true → found s slots i o ≡ Err (given_twice s.name)
  unfolding found
  found_taken s slots i (Some w) g = refl
  found_taken s slots i None g = absurd cc

  pub fills : (slots : List Argument) (i : ℕ) (s : Argument) → place_of name (map slot_of slots) ≡ Some i → s ≡ get_or slots i s → is_some s.given ≡ false →
      with_keyword (name, v) (map slot_of slots) ≡ Ok (map slot_of (set slots i (record { name = s.name; default = s.default; given = Some v })))
  fills slots i s e q g = found_at slots i s e q ∙ found_free s slots i s.given g

  pub fills_twice : (slots : List Argument) (i : ℕ) (s : Argument) → place_of name (map slot_of slots) ≡ Some i → s ≡ get_or slots i s → is_some s.given ≡ true →
      with_keyword (name, v) (map slot_of slots) ≡ Err (given_twice s.name)
  fills_twice slots i s e q g = found_at slots i s e q ∙ found_taken s slots i s.given g

-- ---- the value of each parameter

module _ {V : Type 0} where
  pushed : (values new : List V) (v : V) (r : Result (List V) ErrorValue) → new ≡ values ++ v ∷ [] →
      and_then r (λ vs. Ok (new ++ vs)) ≡ and_then (and_then r (λ vs. Ok (v ∷ vs))) (λ vs. Ok (values ++ vs))
  pushed values new v (Ok vs) e = ap Ok (rw e (append_assoc values (v ∷ []) vs))
  pushed values new v (Err x) e = refl

pub settles_one : (values new : List (Lazy FileValue)) (v : Lazy FileValue) (slots rest : List Argument) (s : Argument) (target : Result (List (Lazy FileValue)) ErrorValue) →
    new ≡ values ++ v ∷ [] → slots ≡ s ∷ rest → settled s.name s.given s.default ≡ Ok v →
    and_then (all_settled (map slot_of slots)) (λ vs. Ok (values ++ vs)) ≡ target → and_then (all_settled (map slot_of rest)) (λ vs. Ok (new ++ vs)) ≡ target
settles_one values new v slots rest s target e d h i = pushed values new v (all_settled (map slot_of rest)) e ∙ rw (d, h) at i

pub settles_none : (values : List (Lazy FileValue)) (x : ErrorValue) (slots rest : List Argument) (s : Argument) (target : Result (List (Lazy FileValue)) ErrorValue) →
    slots ≡ s ∷ rest → settled s.name s.given s.default ≡ Err x →
    and_then (all_settled (map slot_of slots)) (λ vs. Ok (values ++ vs)) ≡ target → Err x ≡ target
settles_none values x slots rest s target d h i = rw (d, h) at i

-- ---- the whole

module _ (words : List Word) (ps : List Parameter) (vs : List (Lazy FileValue)) (ks : List (List ℕ × Lazy FileValue)) where
  abbrev spelled : List (List ℕ × Option (Lazy FileValue))
  spelled = map (spelled_in words) ps

  -- there are more arguments than parameters
  pub binds_too_many : length ps < length vs → arguments spelled vs ks ≡ Err too_many
  binds_too_many h =
      let more : length spelled < length vs = simp length-map h in
      rw (placed_too_many spelled vs more) refl

  module _ (few : length vs ≤ length ps) where
    binds : arguments spelled vs ks ≡ and_then (with_keywords ks (in_order 0 spelled vs)) all_settled
    binds =
        let fewer : length vs ≤ length spelled = simp length-map few in
        rw (placed_in_order spelled vs fewer) refl

    -- a keyword fails
    pub binds_failed : (slots : List Argument) (e : ErrorValue) → map slot_of slots ≡ in_order 0 spelled vs → with_keywords ks (map slot_of slots) ≡ Err e → arguments spelled vs ks ≡ Err e
    binds_failed slots e s k = let b = binds in rw (← s, k) at b

    -- all keywords find their slots
    pub binds_filled : (slots filled : List Argument) (r : Result (List (Lazy FileValue)) ErrorValue) → map slot_of slots ≡ in_order 0 spelled vs →
        with_keywords ks (map slot_of slots) ≡ Ok (map slot_of filled) → all_settled (map slot_of filled) ≡ r → arguments spelled vs ks ≡ r
    binds_filled slots filled r s k a = let b = binds in rw (← s, k, a) at b

-- ---- where a function begins

-- one parameter more has its argument
pub names_step : (r : Routine) (names new : ℕ → Option (Lazy FileValue)) (ps rest : List Parameter) (p : Parameter) (vs others : List (Lazy FileValue)) (v : Lazy FileValue) (target : ℕ → Option (Lazy FileValue)) →
    ps ≡ p ∷ rest → vs ≡ v ∷ others → new ≡ with_local names p.slot (Some v) →
    with_names (routine_of r) names (map parameter_of ps) vs ≡ target → with_names (routine_of r) new (map parameter_of rest) others ≡ target
names_step r names new ps rest p vs others v target d g e i = rw e (rw (d, g) at i)

-- no argument is left
pub names_end : (r : Routine) (names : ℕ → Option (Lazy FileValue)) (ps : List Parameter) (vs : List (Lazy FileValue)) (target : ℕ → Option (Lazy FileValue)) → vs ≡ [] →
    with_names (routine_of r) names (map parameter_of ps) vs ≡ target → names ≡ target
names_end r names [] vs target g i = i
names_end r names (p ∷ ps) vs target g i = rw g at i

-- no parameter is left
pub names_done : (r : Routine) (names : ℕ → Option (Lazy FileValue)) (ps : List Parameter) (vs : List (Lazy FileValue)) (target : ℕ → Option (Lazy FileValue)) → ps ≡ [] →
    with_names (routine_of r) names (map parameter_of ps) vs ≡ target → names ≡ target
names_done r names ps vs target g i = rw g at i

nothing_at : (n : ℕ) → local [] n ≡ None
nothing_at zero = refl
nothing_at (suc n) = refl

pub nothing_local : local [] ≡ (λ n. None)
nothing_local = fun_ext nothing_at

-- the parameters of a helper, as they are spelled
pub bound_by : (r : Routine) (es : List (Lazy FileValue)) (ks : List (List ℕ × Lazy FileValue)) → bound (routine_of r) es ks ≡ arguments (map (spelled_in r.words) r.parameters) es ks
bound_by r es ks = ap (λ ps. arguments ps es ks) (map-map (body.spelled (routine_of r)) parameter_of r.parameters)

-- a keyword fails, or memory ran out
pub fails_by : (words : List Word) (ps : List Parameter) (vs : List (Lazy FileValue)) (ks : List (List ℕ × Lazy FileValue)) (few : length vs ≤ length ps) (slots filled : List Argument) (h : Halt) →
    map slot_of slots ≡ in_order 0 (map (spelled_in words) ps) vs → Filled (Err h) filled (with_keywords ks (map slot_of slots)) → Answers {A = List (Lazy FileValue)} (Err h) (arguments (map (spelled_in words) ps) vs ks)
fails_by words ps vs ks few slots filled (Raised e) s f = binds_failed words ps vs ks few slots e s f
fails_by words ps vs ks few slots filled OutOfMemory s f = tt
