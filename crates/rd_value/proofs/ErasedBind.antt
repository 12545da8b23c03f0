-- Binding does not look at what files carry.
use Rattle.std.proofs.Common.{◌≡◌, ℕ, Bool, true, false, refl, sym, ap, ◌∙◌, List, [], ◌∷◌, map, None, Some, Ok, Err, cond}
use Rattle.std.specs.Prelude.{Option, Result}
use Rattle.std.specs.Option.{option_map}
use Rattle.std.specs.Str.{bytes_eq}
use Rattle.rd_value.specs.declared.value.ErrorValue.{ErrorValue}
use Rattle.rd_value.specs.declared.value.FileValue.{FileValue}
use Rattle.rd_value.specs.declared.value.Datum.{Datum}
use Rattle.rd_value.specs.Bind.{Slot, and_then, empty, placed, filled, with_keyword, with_keywords, settled, all_settled, arguments, limited, bind}
use Rattle.rd_value.specs.Erase.{with_files, with_files_default, with_files_keyword, carried_all}
use Rattle.rd_value.specs.Limits.{are_within}
use Rattle.rd_value.specs.Operators.{value_limit}
use Rattle.rd_value.proofs.ErasedLimits.{are_within_with_files}

-- binding is the same for values that are put in place of others
module _ {V W : Type 0} (g : V → W) where
  abbrev defaulted : List ℕ × Option V → List ℕ × Option W
  defaulted p = (p.0, option_map g p.1)

  abbrev keyword : List ℕ × V → List ℕ × W
  keyword k = (k.0, g k.1)

  abbrev slot : Slot V → Slot W
  slot s = record { name = s.name; default = option_map g s.default; given = option_map g s.given }

  abbrev answered : {A B : Type 0} → (A → B) → Result A ErrorValue → Result B ErrorValue
  answered f (Ok x) = Ok (f x)
  answered f (Err e) = Err e

  empties : (ps : List (List ℕ × Option V)) → map empty (map defaulted ps) ≡ map slot (map empty ps)
  empties [] = refl
  empties (p ∷ ps) = ap (λ ss. slot (empty p) ∷ ss) (empties ps)

  placed_first : (p : List ℕ × Option V) (v : V) (r : Result (List (Slot V)) ErrorValue) →
      and_then (answered (map slot) r) (λ slots. Ok (record { name = p.0; default = option_map g p.1; given = Some (g v) } ∷ slots)) ≡ answered (map slot) (and_then r (λ slots. Ok (record { name = p.0; default = p.1; given = Some v } ∷ slots)))
  placed_first p v (Ok slots) = refl
  placed_first p v (Err e) = refl

  placed_put : (ps : List (List ℕ × Option V)) (vs : List V) → placed (map defaulted ps) (map g vs) ≡ answered (map slot) (placed ps vs)
  placed_put ps [] = ap Ok (empties ps)
  placed_put [] (v ∷ vs) = refl
  placed_put (p ∷ ps) (v ∷ vs) = rw (placed_put ps vs) (placed_first p v (placed ps vs))

  keyword_here : (v : V) (s : Slot V) (slots : List (Slot V)) (o : Option V) →
      and_then (filled (g v) (slot s) (option_map g o)) (λ full. Ok (full ∷ map slot slots)) ≡ answered (map slot) (and_then (filled v s o) (λ full. Ok (full ∷ slots)))
  keyword_here v s slots (Some w) = refl
  keyword_here v s slots None = refl

  keyword_later : (s : Slot V) (r : Result (List (Slot V)) ErrorValue) → and_then (answered (map slot) r) (λ rest. Ok (slot s ∷ rest)) ≡ answered (map slot) (and_then r (λ rest. Ok (s ∷ rest)))
  keyword_later s (Ok rest) = refl
  keyword_later s (Err e) = refl

  keyword_by : (k : List ℕ × V) (s : Slot V) (slots : List (Slot V)) → with_keyword (keyword k) (map slot slots) ≡ answered (map slot) (with_keyword k slots) → (b : Bool) →
      cond b (and_then (filled (g k.1) (slot s) (option_map g s.given)) (λ full. Ok (full ∷ map slot slots))) (and_then (with_keyword (keyword k) (map slot slots)) (λ rest. Ok (slot s ∷ rest)))
      ≡ answered (map slot) (cond b (and_then (filled k.1 s s.given) (λ full. Ok (full ∷ slots))) (and_then (with_keyword k slots) (λ rest. Ok (s ∷ rest))))
  keyword_by k s slots e true = keyword_here k.1 s slots s.given
  keyword_by k s slots e false = rw e (keyword_later s (with_keyword k slots))

  with_keyword_put : (k : List ℕ × V) (slots : List (Slot V)) → with_keyword (keyword k) (map slot slots) ≡ answered (map slot) (with_keyword k slots)
  with_keyword_put k [] = refl
  with_keyword_put k (s ∷ slots) = keyword_by k s slots (with_keyword_put k slots) (bytes_eq s.name k.0)

  keywords_by : (ks : List (List ℕ × V)) → ((next : List (Slot V)) → with_keywords (map keyword ks) (map slot next) ≡ answered (map slot) (with_keywords ks next)) →
      (r : Result (List (Slot V)) ErrorValue) → and_then (answered (map slot) r) (with_keywords (map keyword ks)) ≡ answered (map slot) (and_then r (with_keywords ks))
  keywords_by ks e (Ok next) = e next
  keywords_by ks e (Err x) = refl

  with_keywords_put : (ks : List (List ℕ × V)) (slots : List (Slot V)) → with_keywords (map keyword ks) (map slot slots) ≡ answered (map slot) (with_keywords ks slots)
  with_keywords_put [] slots = refl
  with_keywords_put (k ∷ ks) slots = rw (with_keyword_put k slots) (keywords_by ks (with_keywords_put ks) (with_keyword k slots))

  settled_put : (name : List ℕ) (given default : Option V) → settled name (option_map g given) (option_map g default) ≡ answered g (settled name given default)
  settled_put name (Some v) default = refl
  settled_put name None (Some v) = refl
  settled_put name None None = refl

  settled_by : (r : Result V ErrorValue) (rest : Result (List V) ErrorValue) →
      and_then (answered g r) (λ v. and_then (answered (map g) rest) (λ vs. Ok (v ∷ vs))) ≡ answered (map g) (and_then r (λ v. and_then rest (λ vs. Ok (v ∷ vs))))
  settled_by (Ok v) (Ok vs) = refl
  settled_by (Ok v) (Err e) = refl
  settled_by (Err e) rest = refl

  all_settled_put : (slots : List (Slot V)) → all_settled (map slot slots) ≡ answered (map g) (all_settled slots)
  all_settled_put [] = refl
  all_settled_put (s ∷ slots) = rw (settled_put s.name s.given s.default, all_settled_put slots) (settled_by (settled s.name s.given s.default) (all_settled slots))

  settled_last : (r : Result (List (Slot V)) ErrorValue) → and_then (answered (map slot) r) all_settled ≡ answered (map g) (and_then r all_settled)
  settled_last (Ok slots) = all_settled_put slots
  settled_last (Err e) = refl

  arguments_by : (ks : List (List ℕ × V)) (r : Result (List (Slot V)) ErrorValue) →
      and_then (answered (map slot) r) (λ slots. and_then (with_keywords (map keyword ks) slots) all_settled) ≡ answered (map g) (and_then r (λ slots. and_then (with_keywords ks slots) all_settled))
  arguments_by ks (Ok slots) = rw (with_keywords_put ks slots) (settled_last (with_keywords ks slots))
  arguments_by ks (Err e) = refl

  pub arguments_put : (ps : List (List ℕ × Option V)) (vs : List V) (ks : List (List ℕ × V)) → arguments (map defaulted ps) (map g vs) (map keyword ks) ≡ answered (map g) (arguments ps vs ks)
  arguments_put ps vs ks = rw (placed_put ps vs) (arguments_by ks (placed ps vs))

module _ {F G : Type 0} (h : F → G) (file : G → FileValue) where
  limited_carried : (vs : List (Datum F)) → limited file (map (with_files h) vs) ≡ carried_all h (limited (λ f. file (h f)) vs)
  limited_carried vs = rw (are_within_with_files h file vs) (elim (are_within (λ f. file (h f)) vs) as (λ b. cond b (Ok (map (with_files h) vs)) (Err value_limit) ≡ carried_all h (cond b (Ok vs) (Err value_limit))) [ true ↦ refl | false ↦ refl ])

  limited_by : (r : Result (List (Datum F)) ErrorValue) → and_then (answered (with_files h) (map (with_files h)) r) (limited file) ≡ carried_all h (and_then r (limited (λ f. file (h f))))
  limited_by (Ok bound) = limited_carried bound
  limited_by (Err e) = refl

  pub bind_with_files : (ps : List (List ℕ × Option (Datum F))) (vs : List (Datum F)) (ks : List (List ℕ × Datum F)) →
      bind file (map (with_files_default h) ps) (map (with_files h) vs) (map (with_files_keyword h) ks) ≡ carried_all h (bind (λ f. file (h f)) ps vs ks)
  bind_with_files ps vs ks = rw (arguments_put (with_files h) ps vs ks) (limited_by (arguments ps vs ks))
