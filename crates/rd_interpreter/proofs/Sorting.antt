-- A stable sort and insertion give the same list.
use Rattle.std.proofs.Common.{◌≡◌, ℕ, ℤ, suc, ◌<◌, ◌≤◌, Bool, true, false, cond, not, ◌&&◌, refl, sym, ap, ◌∙◌, List, [], ◌∷◌, length, get_or, arith, filter, Option, None, Some, Ok}
use Rattle.std.specs.Cmp.{IsStrictWeakOrder}
use Rattle.std.specs.List.Sorted.{IsSortedBy, IsStableBy, ties}
use Rattle.std.proofs.lemmas.List.Sorted.{sorted_far}
use Rattle.rd_value.proofs.Ind.{Each}
use Rattle.std.specs.List.{list_all}
use Rattle.std.specs.Cmp.Lexicographic.{slice_cmp}
use Rattle.std.specs.Ordering.{int_cmp, nat_cmp, is_lt, is_some_and}
use Rattle.rd_value.specs.declared.value.FileValue.{FileValue}
use Rattle.rd_value.specs.declared.value.Datum.{Datum, out-Datum}
use Rattle.rd_value.specs.declared.value.Datum.TheVariants as value
use Rattle.rd_value.specs.declared.value.Datum.TheOpen.{Datum-F}
use Rattle.rd_value.specs.declared.value.Datum.TheFolds.{fold_out-Datum, map-Datum}
use Rattle.rd_value.specs.Compare.{Test, compared, compared_at, number_at, number_of_bool}
use Rattle.rd_interpreter.specs.Builtins.{inserted, in_order, is_number, is_text, is_text_at, less, number_less, number_or_zero, or_zero, sorted, text_at, text_less}
use Rattle.rd_interpreter.specs.Operations.{number_of}
use Rattle.rd_interpreter.specs.Running.{own}

module _ {X : Type 0} (less : X → X → Bool) (order : IsStrictWeakOrder less) where
  -- none of these is less
  abbrev NoneLess : X → List X → Type 0
  NoneLess y ys = Each (λ z. less z y ≡ false) ys

  abbrev Ascends : List X → Type 0
  Ascends [] = Unit {0}
  Ascends (y ∷ ys) = NoneLess y ys × Ascends ys

  itself : (y : X) → less y y ≡ false
  itself y = by (less y y) refl
    where
      by : (b : Bool) → less y y ≡ b → less y y ≡ false
      by true e = order.one_way y y e
      by false e = e

  -- ---- what a sort gives ascends

  each_of : (P : X → Type 0) (ys : List X) → ((j : ℕ) (d : X) → j < length ys → P (get_or ys j d)) → Each P ys
  each_of P [] h = tt
  each_of P (y ∷ ys) h = (h 0 y (omega arith), each_of P ys (λ j d l. h (suc j) d (omega arith)))

  ascends_by : (ys : List X) → ((i j : ℕ) (d : X) → i ≤ j → j < length ys → less (get_or ys j d) (get_or ys i d) ≡ false) → Ascends ys
  ascends_by [] h = tt
  ascends_by (y ∷ ys) h = (each_of (λ z. less z y ≡ false) ys (λ j d l. h 0 (suc j) d (omega arith) (omega arith)), ascends_by ys (λ i j d l m. h (suc i) (suc j) d (omega arith) (omega arith)))

  ascends : (ys : List X) → IsSortedBy less ys → Ascends ys
  ascends ys up = ascends_by ys (sorted_far less order ys up)

  -- ---- insertion

  none_less_in : (y v : X) (ws : List X) → less v y ≡ false → NoneLess y ws → NoneLess y (inserted less v ws)
  none_less_in y v [] h hs = (h, tt)
  none_less_in y v (w ∷ ws) h hs = by (less w v) (none_less_in y v ws h hs.1)
    where
      by : (b : Bool) → NoneLess y (inserted less v ws) → NoneLess y (cond b (w ∷ inserted less v ws) (v ∷ w ∷ ws))
      by true more = (hs.0, more)
      by false more = (h, hs)

  none_less_behind : (v w : X) (ws : List X) → less w v ≡ false → NoneLess w ws → NoneLess v ws
  none_less_behind v w [] h hs = tt
  none_less_behind v w (z ∷ ws) h hs = (order.chain z w v hs.0 h, none_less_behind v w ws h hs.1)

  inserted_ascends : (v : X) (ws : List X) → Ascends ws → Ascends (inserted less v ws)
  inserted_ascends v [] up = (tt, tt)
  inserted_ascends v (w ∷ ws) up = by (less w v) refl (inserted_ascends v ws up.1)
    where
      by : (b : Bool) → less w v ≡ b → Ascends (inserted less v ws) → Ascends (cond b (w ∷ inserted less v ws) (v ∷ w ∷ ws))
      by true e more = (none_less_in w v ws (order.one_way w v e) up.0, more)
      by false e more = ((e, none_less_behind v w ws e up.0), up)

  in_order_ascends : (xs : List X) → Ascends (in_order less xs)
  in_order_ascends [] = tt
  in_order_ascends (x ∷ xs) = inserted_ascends x (in_order less xs) (in_order_ascends xs)

  -- ---- those that tie keep their places

  both_tie : (x v w : X) → less w v ≡ true → ties less x v ≡ true → ties less x w ≡ true → ⊥
  both_tie x v w e f g = by (less x v) (less v x) (less x w) (less w x) refl refl refl refl f g
    where
      by : (a b c d : Bool) → less x v ≡ a → less v x ≡ b → less x w ≡ c → less w x ≡ d → (not a && not b) ≡ true → (not c && not d) ≡ true → ⊥
      by false b c false p q r s m n = let no : less w v ≡ false = order.chain w x v s p in absurd cc
      by true b c d p q r s m n = absurd cc
      by false b true true p q r s m n = absurd cc
      by false b false true p q r s m n = absurd cc

  swapped : (a b : Bool) (v w : X) (rest : List X) → (a ≡ true → b ≡ true → ⊥) → cond b (w ∷ cond a (v ∷ rest) rest) (cond a (v ∷ rest) rest) ≡ cond a (v ∷ cond b (w ∷ rest) rest) (cond b (w ∷ rest) rest)
  swapped true true v w rest h = absurd (h refl refl)
  swapped true false v w rest h = refl
  swapped false true v w rest h = refl
  swapped false false v w rest h = refl

  inserted_ties : (x v : X) (ws : List X) → filter (ties less x) (inserted less v ws) ≡ filter (ties less x) (v ∷ ws)
  inserted_ties x v [] = refl
  inserted_ties x v (w ∷ ws) = by (less w v) refl (inserted_ties x v ws)
    where
      by : (b : Bool) → less w v ≡ b → filter (ties less x) (inserted less v ws) ≡ filter (ties less x) (v ∷ ws) → filter (ties less x) (cond b (w ∷ inserted less v ws) (v ∷ w ∷ ws)) ≡ filter (ties less x) (v ∷ w ∷ ws)
      by true e more = ap (λ zs. cond (ties less x w) (w ∷ zs) zs) more ∙ swapped (ties less x v) (ties less x w) v w (filter (ties less x) ws) (both_tie x v w e)
      by false e more = refl

  in_order_ties : (x : X) (xs : List X) → filter (ties less x) (in_order less xs) ≡ filter (ties less x) xs
  in_order_ties x [] = refl
  in_order_ties x (v ∷ xs) = inserted_ties x v (in_order less xs) ∙ ap (λ zs. cond (ties less x v) (v ∷ zs) zs) (in_order_ties x xs)

  -- ---- one list

  tie_itself : (y : X) → ties less y y ≡ true
  tie_itself y = rw (itself y) refl

  not_less : (y z : X) → ties less y z ≡ true → less y z ≡ false
  not_less y z = by (less y z) (less z y)
    where
      by : (a b : Bool) → (not a && not b) ≡ true → a ≡ false
      by false b e = refl
      by true b e = absurd cc

  -- where one of these ties, the least of them isn't less
  low : (y z : X) (ws rest : List X) → NoneLess z ws → filter (ties less y) ws ≡ y ∷ rest → less y z ≡ false
  low y z [] rest hs e = absurd cc
  low y z (w ∷ ws) rest hs e = by (ties less y w) refl e (low y z ws rest hs.1)
    where
      by : (b : Bool) → ties less y w ≡ b → cond b (w ∷ filter (ties less y) ws) (filter (ties less y) ws) ≡ y ∷ rest → (filter (ties less y) ws ≡ y ∷ rest → less y z ≡ false) → less y z ≡ false
      by true t f more = order.chain y w z (not_less y w t) hs.0
      by false t f more = more f

  with_itself : (y : X) (ys : List X) → filter (ties less y) (y ∷ ys) ≡ y ∷ filter (ties less y) ys
  with_itself y ys = rw (tie_itself y) refl

  tail_of : (b : Bool) (y z : X) (ps qs : List X) → y ≡ z → cond b (y ∷ ps) ps ≡ cond b (z ∷ qs) qs → ps ≡ qs
  tail_of true y z ps qs e f = cc
  tail_of false y z ps qs e f = f

  heads : (y z : X) (ps qs : List X) → y ∷ ps ≡ z ∷ qs → y ≡ z
  heads y z ps qs e = cc

  one_list : (ys zs : List X) → Ascends ys → Ascends zs → ((x : X) → filter (ties less x) ys ≡ filter (ties less x) zs) → ys ≡ zs
  one_list [] [] up vp same = refl
  one_list [] (z ∷ zs) up vp same = let e : [] ≡ z ∷ filter (ties less z) zs = same z ∙ with_itself z zs in absurd cc
  one_list (y ∷ ys) [] up vp same = let e : [] ≡ y ∷ filter (ties less y) ys = sym (same y) ∙ with_itself y ys in absurd cc
  one_list (y ∷ ys) (z ∷ zs) up vp same =
      let here : filter (ties less y) (z ∷ zs) ≡ y ∷ filter (ties less y) ys = sym (same y) ∙ with_itself y ys in
      let there : filter (ties less z) (y ∷ ys) ≡ z ∷ filter (ties less z) zs = same z ∙ with_itself z zs in
      let a : less y z ≡ false = low y z (z ∷ zs) (filter (ties less y) ys) (itself z, vp.0) here in
      let b : less z y ≡ false = low z y (y ∷ ys) (filter (ties less z) zs) (itself y, up.0) there in
      let t : ties less y z ≡ true = rw (a, b) refl in
      let first : filter (ties less y) (z ∷ zs) ≡ z ∷ filter (ties less y) zs = rw t refl in
      let e : y ≡ z = heads y z (filter (ties less y) ys) (filter (ties less y) zs) (sym here ∙ first) in
      let tails : (x : X) → filter (ties less x) ys ≡ filter (ties less x) zs = λ x. tail_of (ties less x y) y z (filter (ties less x) ys) (filter (ties less x) zs) e (same x ∙ ap (λ w. cond (ties less x w) (z ∷ filter (ties less x) zs) (filter (ties less x) zs)) (sym e)) in
      ap (λ ws. y ∷ ws) (one_list ys zs up.1 vp.1 tails) ∙ ap (λ w. w ∷ zs) e

  -- what a stable sort gives
  pub sorts : (xs ys : List X) → IsSortedBy less ys → IsStableBy less xs ys → ys ≡ in_order less xs
  sorts xs ys up stable = one_list ys (in_order less xs) (ascends ys up) (in_order_ascends xs) (λ x. stable x ∙ sym (in_order_ties x xs))

-- ---- by another test that agrees

module _ {X : Type 0} (P : X → Type 0) (less lt : X → X → Bool) (agree : (v w : X) → P v → P w → less v w ≡ lt v w) where
  each_inserted : (v : X) (ws : List X) → P v → Each P ws → Each P (inserted lt v ws)
  each_inserted v [] p ps = (p, tt)
  each_inserted v (w ∷ ws) p ps = by (lt w v) (each_inserted v ws p ps.1)
    where
      by : (b : Bool) → Each P (inserted lt v ws) → Each P (cond b (w ∷ inserted lt v ws) (v ∷ w ∷ ws))
      by true more = (ps.0, more)
      by false more = (p, ps)

  each_in_order : (xs : List X) → Each P xs → Each P (in_order lt xs)
  each_in_order [] ps = tt
  each_in_order (x ∷ xs) ps = each_inserted x (in_order lt xs) ps.0 (each_in_order xs ps.1)

  same_inserted : (v : X) (ws : List X) → P v → Each P ws → inserted less v ws ≡ inserted lt v ws
  same_inserted v [] p ps = refl
  same_inserted v (w ∷ ws) p ps = ap (λ b. cond b (w ∷ inserted less v ws) (v ∷ w ∷ ws)) (agree w v ps.0 p) ∙ ap (λ zs. cond (lt w v) (w ∷ zs) (v ∷ w ∷ ws)) (same_inserted v ws p ps.1)

  same_order : (xs : List X) → Each P xs → in_order less xs ≡ in_order lt xs
  same_order [] ps = refl
  same_order (x ∷ xs) ps = ap (inserted less x) (same_order xs ps.1) ∙ same_inserted x (in_order lt xs) ps.0 (each_in_order xs ps.1)

-- ---- values

each_passes : (test : Datum FileValue → Bool) (vs : List (Datum FileValue)) → list_all test vs ≡ true → Each (λ v. test v ≡ true) vs
each_passes test [] h = tt
each_passes test (v ∷ vs) h = (first (test v) (list_all test vs) h, each_passes test vs (second (test v) (list_all test vs) h))
  where
    first : (a b : Bool) → (a && b) ≡ true → a ≡ true
    first true b e = refl
    first false b e = absurd cc

    second : (a b : Bool) → (a && b) ≡ true → b ≡ true
    second true b e = e
    second false b e = absurd cc

layers : (v w : Datum FileValue) → compared own v w ≡ compared_at own (map-Datum FileValue (Datum FileValue) (Test (Datum FileValue)) (compared own) (out-Datum FileValue v)) (out-Datum FileValue w)
layers v w = ap (λ f. f w) (fold_out-Datum FileValue (Test (Datum FileValue)) (λ x w. compared_at own x (out-Datum FileValue w)) v)

numbers_at : (x y : Datum-F FileValue (Datum FileValue)) (m n : ℤ) → number_at x ≡ Some m → number_at y ≡ Some n →
    compared_at own (map-Datum FileValue (Datum FileValue) (Test (Datum FileValue)) (compared own) x) y ≡ Some (int_cmp m n)
numbers_at (Datum-F.Bool b) y m n h e = let same : number_of_bool b ≡ m = cc in rw (e, same) refl
numbers_at (Datum-F.Int k) y m n h e = let same : k ≡ m = cc in rw (e, same) refl
numbers_at Datum-F.Nothing y m n h e = absurd cc
numbers_at (Datum-F.Text t) y m n h e = absurd cc
numbers_at (Datum-F.List vs) y m n h e = absurd cc
numbers_at (Datum-F.Dict ps) y m n h e = absurd cc
numbers_at (Datum-F.File f) y m n h e = absurd cc
numbers_at (Datum-F.Error d) y m n h e = absurd cc

the_number : (o : Option ℤ) → (elim o [ None ↦ false | Some n ↦ true ]) ≡ true → o ≡ Some (or_zero o)
the_number None h = absurd cc
the_number (Some n) h = refl

numbers_agree : (v w : Datum FileValue) → is_number v ≡ true → is_number w ≡ true → less own v w ≡ number_less v w
numbers_agree v w p q =
    ap (is_some_and is_lt) (layers v w ∙ numbers_at (out-Datum FileValue v) (out-Datum FileValue w) (number_or_zero v) (number_or_zero w) (the_number (number_of v) p) (the_number (number_of w) q))

pub number_order : (vs : List (Datum FileValue)) → list_all is_number vs ≡ true → in_order (less own) vs ≡ in_order number_less vs
number_order vs h = same_order (λ v. is_number v ≡ true) (less own) number_less numbers_agree vs (each_passes is_number vs h)

texts_at : (x y : Datum-F FileValue (Datum FileValue)) → is_text_at x ≡ true → is_text_at y ≡ true →
    compared_at own (map-Datum FileValue (Datum FileValue) (Test (Datum FileValue)) (compared own) x) y ≡ Some (slice_cmp nat_cmp (text_at x) (text_at y))
texts_at (Datum-F.Text s) (Datum-F.Text t) h e = refl
texts_at (Datum-F.Text s) Datum-F.Nothing h e = absurd cc
texts_at (Datum-F.Text s) (Datum-F.Bool b) h e = absurd cc
texts_at (Datum-F.Text s) (Datum-F.Int n) h e = absurd cc
texts_at (Datum-F.Text s) (Datum-F.List vs) h e = absurd cc
texts_at (Datum-F.Text s) (Datum-F.Dict ps) h e = absurd cc
texts_at (Datum-F.Text s) (Datum-F.File f) h e = absurd cc
texts_at (Datum-F.Text s) (Datum-F.Error d) h e = absurd cc
texts_at Datum-F.Nothing y h e = absurd cc
texts_at (Datum-F.Bool b) y h e = absurd cc
texts_at (Datum-F.Int n) y h e = absurd cc
texts_at (Datum-F.List vs) y h e = absurd cc
texts_at (Datum-F.Dict ps) y h e = absurd cc
texts_at (Datum-F.File f) y h e = absurd cc
texts_at (Datum-F.Error d) y h e = absurd cc

texts_agree : (v w : Datum FileValue) → is_text v ≡ true → is_text w ≡ true → less own v w ≡ text_less v w
texts_agree v w p q = ap (is_some_and is_lt) (layers v w ∙ texts_at (out-Datum FileValue v) (out-Datum FileValue w) p q)

pub text_order : (vs : List (Datum FileValue)) → list_all is_text vs ≡ true → in_order (less own) vs ≡ in_order text_less vs
text_order vs h = same_order (λ v. is_text v ≡ true) (less own) text_less texts_agree vs (each_passes is_text vs h)

pub sorted_numbers : (vs ys : List (Datum FileValue)) → list_all is_number vs ≡ true → ys ≡ in_order number_less vs → sorted own vs ≡ Ok (value.List ys)
sorted_numbers vs ys h e = rw (h, number_order vs h, e) refl

pub sorted_texts : (vs ys : List (Datum FileValue)) → list_all is_number vs ≡ false → list_all is_text vs ≡ true → ys ≡ in_order text_less vs → sorted own vs ≡ Ok (value.List ys)
sorted_texts vs ys n h e = rw (n, h, text_order vs h, e) refl
