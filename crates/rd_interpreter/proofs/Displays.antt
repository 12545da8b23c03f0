-- The keys of a display's pairs, in the order in which they came first.
use Rattle.std.proofs.Common.{◌≡◌, ◌<ℤ◌, inl, inr, ℕ, ℤ, Bool, true, false, subst, refl, sym, ap, ◌∙◌, List, [], ◌∷◌, Result, Ok, Err}
use Rattle.std.specs.Prelude.{if◌then◌else◌}
use Rattle.std.specs.Bool.{Decides}
use Rattle.std.specs.Str.{bytes_eq}
use Rattle.std.specs.Ordering.{int_cmp, is_eq, is_some_and, MatchOrdering}
use Rattle.std.specs.declared.cmp.Ordering.{Ordering}
use Rattle.std.specs.declared.cmp.Ordering.TheVariants.{Less, Equal, Greater}
use Rattle.std.specs.Cmp.{int_cmp_is, int_ranks}
use Rattle.std.proofs.lemmas.Map.Text.{is_eq-slice_cmp}
use Rattle.std.proofs.lemmas.Slice.Eq.{bytes_eq-Decides}
use Rattle.indexmap.specs.IndexMap.{insert_entry}
use Rattle.rd_value.specs.declared.value.ErrorValue.{ErrorValue}
use Rattle.rd_value.specs.declared.value.FileValue.{FileValue}
use Rattle.rd_value.specs.declared.value.Datum.{Datum, out-Datum}
use Rattle.rd_value.specs.declared.value.Datum.TheViews as made
use Rattle.rd_value.specs.declared.value.Datum.TheVariants as value
use Rattle.rd_value.specs.declared.value.Datum.TheOpen.{Datum-F}
use Rattle.rd_value.specs.declared.value.Datum.TheFolds.{fold-roll-Datum}
use Rattle.rd_value.specs.declared.expr.Lazy.{Lazy}
use Rattle.rd_value.specs.Compare.{Test, number_at, number_order, compared, compared_at, equal}
use Rattle.rd_value.specs.Make.{value_of}
use Rattle.rd_interpreter.specs.Body.{key_held, with_pair, with_pairs}
use Rattle.rd_interpreter.specs.Display.{IsKeyOf}
use Rattle.rd_interpreter.specs.Running.{own}

abbrev Value : Type 0
Value = Datum FileValue

-- ---- equal keys

compared_int : (m : ℤ) (w : Value) → compared own (value.Int m) w ≡ number_order m (number_at (out-Datum FileValue w))
unfolding made.roll-Datum denote.Hole.Carrier.roll
compared_int m w = ap (λ f. f w) (fold-roll-Datum FileValue (Test Value) (λ x w. compared_at own x (out-Datum FileValue w)) (Datum-F.Int m))

compared_text : (s : List ℕ) (w : Value) → compared own (value.Text s) w ≡ compared_at own (Datum-F.Text s) (out-Datum FileValue w)
unfolding made.roll-Datum denote.Hole.Carrier.roll
compared_text s w = ap (λ f. f w) (fold-roll-Datum FileValue (Test Value) (λ x w. compared_at own x (out-Datum FileValue w)) (Datum-F.Text s))

out_int : (n : ℤ) → out-Datum FileValue (value.Int n) ≡ Datum-F.Int n
unfolding made.roll-Datum denote.Hole.Carrier.roll
out_int n = made.out-roll-Datum FileValue (Datum-F.Int n)

out_text : (t : List ℕ) → out-Datum FileValue (value.Text t) ≡ Datum-F.Text t
unfolding made.roll-Datum denote.Hole.Carrier.roll
out_text t = made.out-roll-Datum FileValue (Datum-F.Text t)

equal_ints : (m n : ℤ) → equal own (value.Int m) (value.Int n) ≡ is_eq (int_cmp m n)
equal_ints m n = ap (is_some_and is_eq) (compared_int m (value.Int n) ∙ ap (λ x. number_order m (number_at x)) (out_int n))

equal_int_text : (m : ℤ) (t : List ℕ) → equal own (value.Int m) (value.Text t) ≡ false
equal_int_text m t = ap (is_some_and is_eq) (compared_int m (value.Text t) ∙ ap (λ x. number_order m (number_at x)) (out_text t))

equal_text_int : (s : List ℕ) (n : ℤ) → equal own (value.Text s) (value.Int n) ≡ false
equal_text_int s n = ap (is_some_and is_eq) (compared_text s (value.Int n) ∙ ap (compared_at own (Datum-F.Text s)) (out_int n))

equal_texts : (s t : List ℕ) → equal own (value.Text s) (value.Text t) ≡ bytes_eq s t
equal_texts s t = ap (is_some_and is_eq) (compared_text s (value.Text t) ∙ ap (compared_at own (Datum-F.Text s)) (out_text t)) ∙ is_eq-slice_cmp s t

same_by : (m n : ℤ) (r : Ordering) → MatchOrdering r (m <ℤ n) (m ≡ n) (n <ℤ m) → is_eq r ≡ true → m ≡ n
same_by m n Less h e = absurd cc
same_by m n Equal h e = h
same_by m n Greater h e = absurd cc

tells : (p k : Value) → IsKeyOf p → IsKeyOf k → equal own p k ≡ true → p ≡ k
tells p k (inl x) (inl y) h =
    let e : is_eq (int_cmp x.0 y.0) ≡ true = sym (equal_ints x.0 y.0) ∙ rw (x.1, y.1) at h in
    x.1 ∙ ap value.Int (same_by x.0 y.0 (int_cmp x.0 y.0) (int_ranks x.0 y.0) e) ∙ sym y.1
tells p k (inl x) (inr y) h = let e : false ≡ true = sym (equal_int_text x.0 y.0) ∙ rw (x.1, y.1) at h in absurd cc
tells p k (inr x) (inl y) h = let e : false ≡ true = sym (equal_text_int x.0 y.0) ∙ rw (x.1, y.1) at h in absurd cc
tells p k (inr x) (inr y) h =
    let e : bytes_eq x.0 y.0 ≡ true = sym (equal_texts x.0 y.0) ∙ rw (x.1, y.1) at h in
    x.1 ∙ ap value.Text ((bytes_eq-Decides x.0 y.0).0 e) ∙ sym y.1

itself : (p : Value) → IsKeyOf p → equal own p p ≡ true
itself p (inl x) = rw x.1 (equal_ints x.0 x.0 ∙ ap is_eq (sym (int_cmp_is x.0 x.0 Equal refl)))
itself p (inr x) = rw x.1 (equal_texts x.0 x.0 ∙ (bytes_eq-Decides x.0 x.0).1 refl)

same_if : (p q : Bool) → (p ≡ true → q ≡ true) → (q ≡ true → p ≡ true) → p ≡ q
same_if true q f g = sym (f refl)
same_if false true f g = g refl
same_if false false f g = refl

module _ (E : Value → Value → Bool) (decides : (a b : Value) → Decides (E a b) (a ≡ b)) where
  key_equal : (p k : Value) → IsKeyOf p → IsKeyOf k → equal own p k ≡ E k p
  key_equal p k i j =
      let there : equal own p k ≡ true → E k p ≡ true = λ h. (decides k p).1 (sym (tells p k i j h)) in
      let back : E k p ≡ true → equal own p k ≡ true = λ h. subst (λ x. equal own p x ≡ true) (sym ((decides k p).0 h)) (itself p i) in
      same_if (equal own p k) (E k p) there back

  -- ---- pairs by their keys

  -- all keys are Int or Text
  abbrev pub HaveKeys : List (Value × Lazy FileValue) → Type 0
  HaveKeys [] = Unit {0}
  HaveKeys (p ∷ ps) = IsKeyOf p.0 × HaveKeys ps

  same_pair : (b c : Bool) (p q : List (Value × Lazy FileValue)) (r s : List (Value × Lazy FileValue)) → b ≡ c → p ≡ r → q ≡ s → (if b then p else q) ≡ (if c then r else s)
  same_pair b c p q r s e f g = rw (e, f, g) refl

  one_pair : (k : Value) (v : Lazy FileValue) (ps : List (Value × Lazy FileValue)) → IsKeyOf k → HaveKeys ps → with_pair own k v ps ≡ insert_entry E ps k v
  one_pair k v [] i hs = refl
  one_pair k v (p ∷ ps) i hs = same_pair (equal own p.0 k) (E k p.0) _ _ _ _ (key_equal p.0 k hs.0 i) refl (ap (λ qs. p ∷ qs) (one_pair k v ps i hs.1))

  keeps_by : (k : Value) (v : Lazy FileValue) (p : Value × Lazy FileValue) (ps qs : List (Value × Lazy FileValue)) (b : Bool) → IsKeyOf p.0 → HaveKeys ps → HaveKeys qs → HaveKeys (if b then (p.0, v) ∷ ps else p ∷ qs)
  keeps_by k v p ps qs true i hs gs = (i, hs)
  keeps_by k v p ps qs false i hs gs = (i, gs)

  keeps_keys : (k : Value) (v : Lazy FileValue) (ps : List (Value × Lazy FileValue)) → IsKeyOf k → HaveKeys ps → HaveKeys (insert_entry E ps k v)
  keeps_keys k v [] i hs = (i, tt)
  keeps_keys k v (p ∷ ps) i hs = keeps_by k v p ps (insert_entry E ps k v) (E k p.0) hs.0 hs.1 (keeps_keys k v ps i hs.1)

  -- what is left of the pairs onto the entries
  pub record Onto (left : List (Lazy FileValue × Lazy FileValue)) (entries : List (Value × Lazy FileValue)) (target : Result (List (Value × Lazy FileValue)) ErrorValue) : Type 0 where
    pub keys : HaveKeys entries
    pub whole : with_pairs own left entries ≡ target

  module _ (left rest : List (Lazy FileValue × Lazy FileValue)) (p : Lazy FileValue × Lazy FileValue) (entries : List (Value × Lazy FileValue)) (target : Result (List (Value × Lazy FileValue)) ErrorValue) (first : left ≡ p ∷ rest) (onto : Onto left entries target) where
    pub goes_on : (new : List (Value × Lazy FileValue)) (k : Value) → key_held (value_of p.0) ≡ Ok k → IsKeyOf k → new ≡ insert_entry E entries k p.1 → Onto rest new target
    goes_on new k h i e = record {
      keys = rw e (keeps_keys k p.1 entries i onto.keys);
      whole = ap (with_pairs own rest) (e ∙ sym (one_pair k p.1 entries i onto.keys)) ∙ sym (rw (first, h) refl) ∙ onto.whole;
    }

    pub fails : (x : ErrorValue) → key_held (value_of p.0) ≡ Err x → target ≡ Err x
    fails x h = sym onto.whole ∙ rw (first, h) refl

  pub all_on : (left : List (Lazy FileValue × Lazy FileValue)) (entries : List (Value × Lazy FileValue)) (target : Result (List (Value × Lazy FileValue)) ErrorValue) → left ≡ [] → Onto left entries target → target ≡ Ok entries
  all_on left entries target none onto = sym onto.whole ∙ rw none refl
