-- Names of helpers that grow until they name no more.
use Rattle.std.proofs.Common.{◌≡◌, ℕ, zero, suc, ◌+◌, ◌-◌, ◌<◌, ◌≤◌, Bool, true, false, List, [], ◌∷◌, ◌++◌, filter, length, is_some, Option, None, Some, refl, sym, ap, subst, ◌∙◌, arith, nat_lt, inl, inr}
use Rattle.std.proofs.lemmas.Bool.{ltb-false, ltb-true}
use Rattle.std.proofs.lemmas.List.{length-append}
use Rattle.std.specs.Prelude.{◌⊎◌, slice_index_or}
use Rattle.std.proofs.lemmas.Map.Views.{Contains-keys_from_lookup}
use Rattle.std.specs.List.{Contains, IsDistinct}
use Rattle.std.specs.Map.{keys_of}
use Rattle.std.specs.Option.{IsSome}
use Rattle.std.specs.Str.{bytes_eq}
use Rattle.indexmap.specs.IndexMap.{IndexMap, get}
use Rattle.rd_tree.specs.declared.tree.Statement.{Statement}
use Rattle.rd_names.specs.Names.{with_names}
use Rattle.rd_code.specs.declared.named.Helper.{Helper}
use Rattle.rd_registry.specs.Codes.{outside}
use Rattle.rd_registry.specs.declared.functions.Found.{Found}
use Rattle.rd_registry.specs.Functions.{helper_at, helper_in}
use Rattle.rd_registry.specs.Reach.{names_helper, further_of, further, Reaches, Named, Through, AreReached}
use Rattle.rd_registry.proofs.Elements.{nothing_in, passes, names_kept, names_put, names_from, names_behind, no_more, same_bytes}

-- an element of the front
in_front : {X : Type 0} (xs ys : List X) (i : ℕ) (d : X) → i < length xs → slice_index_or (xs ++ ys) i d ≡ slice_index_or xs i d
in_front [] ys i d h = absurd (omega (arith, h))
in_front (x ∷ xs) ys zero d h = refl
in_front (x ∷ xs) ys (suc i) d h = in_front xs ys i d (omega (arith, h))

within_any : {X : Type 0} (xs : List X) (i : ℕ) (d e : X) → i < length xs → slice_index_or xs i d ≡ slice_index_or xs i e
within_any [] i d e h = absurd (omega (arith, h))
within_any (x ∷ xs) zero d e h = refl
within_any (x ∷ xs) (suc i) d e h = within_any xs i d e (omega (arith, h))

less_or_by : (i n : ℕ) (b : Bool) → nat_lt i n ≡ b → i < n + 1 → (i < n) ⊎ (i ≡ n)
less_or_by i n true e h = inl (ltb-true i n e)
less_or_by i n false e h = inr (omega (arith, ltb-false i n e, h))

module _ (helpers : List ℕ → Option Helper) (block : List (Statement (List ℕ))) where
  abbrev named : List (List ℕ)
  named = filter (names_helper helpers) (outside block)

  -- So many of the names have been looked at, and what their helpers name is there.
  pub record Reaching (names : List (List ℕ)) (place : ℕ) : Type 0 where
    pub within : place ≤ length names
    pub first : (t : List ℕ) → Contains named t → Contains names t
    pub closed : (i : ℕ) (t d : List ℕ) → i < place → Contains (further helpers (slice_index_or names i d)) t → Contains names t
    pub known : (t : List ℕ) → Contains names t → names_helper helpers t ≡ true
    pub only : (t : List ℕ) → Contains names t → Reaches helpers block t

  further_known : (o : Option Helper) (t : List ℕ) → Contains (further_of helpers o) t → names_helper helpers t ≡ true
  further_known None t c = nothing_in t c
  further_known (Some h) t c = passes (names_helper helpers) (outside h.block) t c

  from_named : (t : List ℕ) → Contains [] t ⊎ Contains named t → names_helper helpers t ≡ true
  from_named t (inl c) = nothing_in t c
  from_named t (inr c) = passes (names_helper helpers) (outside block) t c

  reached_named : (t : List ℕ) → Contains [] t ⊎ Contains named t → Reaches helpers block t
  reached_named t (inl c) = nothing_in t c
  reached_named t (inr c) = Named t c

  pub begins : (names : List (List ℕ)) → names ≡ with_names [] named → Reaching names 0
  begins names e = subst (λ ns. Reaching ns 0) (sym e) (record {
    within = omega arith;
    first = λ t c. names_put named [] t c;
    closed = λ i t d h c. absurd (omega (arith, h));
    known = λ t c. from_named t (names_from named [] t c);
    only = λ t c. reached_named t (names_from named [] t c);
  })

  module _ (names new : List (List ℕ)) (place : ℕ) (name : List ℕ) (u : Reaching names place) (less : place < length names) (is : name ≡ slice_index_or names place name) (e : new ≡ with_names names (further helpers name)) where
    kept : (t : List ℕ) → Contains names t → Contains new t
    kept t c = subst (λ ns. Contains ns t) (sym e) (names_kept (further helpers name) names t c)

    put : (t : List ℕ) → Contains (further helpers name) t → Contains new t
    put t c = subst (λ ns. Contains ns t) (sym e) (names_put (further helpers name) names t c)

    from : (t : List ℕ) → Contains names t ⊎ Contains (further helpers name) t → names_helper helpers t ≡ true
    from t (inl c) = u.known t c
    from t (inr c) = further_known (helpers name) t c

    reached_from : (t : List ℕ) → Contains names t ⊎ Contains (further helpers name) t → Reaches helpers block t
    reached_from t (inl c) = u.only t c
    reached_from t (inr c) = Through name t (u.only name (place, less, sym is)) c

    longer : (more : List (List ℕ)) → new ≡ names ++ more → place + 1 ≤ length new
    longer more q = let long : length new ≡ length names + length more = ap length q ∙ length-append names more in omega (arith, less, long)

    by_place : (i : ℕ) (t d : List ℕ) (more : List (List ℕ)) → Contains (further helpers (slice_index_or (names ++ more) i d)) t → (i < place) ⊎ (i ≡ place) → Contains new t
    by_place i t d more c (inl below) = kept t (u.closed i t d below (subst (λ n. Contains (further helpers n) t) (in_front names more i d (omega (arith, below, less))) c))
    by_place i t d more c (inr same) =
        let within : i < length names = omega (arith, same, less) in
        put t (subst (λ n. Contains (further helpers n) t) (in_front names more i d within ∙ within_any names i d name within ∙ ap (λ j. slice_index_or names j name) same ∙ sym is) c)

    -- one name more has been looked at
    pub goes_on : Reaching new (place + 1)
    goes_on =
        let more = names_behind (further helpers name) names in
        let longer_by : new ≡ names ++ more.0 = e ∙ more.1 in
        record {
          within = longer more.0 longer_by;
          first = λ t c. kept t (u.first t c);
          closed = λ i t d below c. by_place i t d more.0 (subst (λ ns. Contains (further helpers (slice_index_or ns i d)) t) longer_by c) (less_or_by i place (nat_lt i place) refl below);
          known = λ t c. from t (names_from (further helpers name) names t (subst (λ ns. Contains ns t) e c));
          only = λ t c. reached_from t (names_from (further helpers name) names t (subst (λ ns. Contains ns t) e c));
        }

  pub ends : (names : List (List ℕ)) (place : ℕ) → Reaching names place → length names ≤ place → AreReached helpers block names
  ends names place u h = record {
    first = u.first;
    closed = λ name t c d. u.closed c.0 t name (omega (arith, c.1, h)) (subst (λ n. Contains (further helpers n) t) (sym c.2) d);
    known = u.known;
    only = u.only;
  }

pub one_less : (n p : ℕ) → p < n → n - (p + 1) < n - p
one_less n p h = omega (arith, h)

found_there : (o : Option Found) → is_some (helper_at o) ≡ true → IsSome o
found_there None e = absurd cc
found_there (Some f) e = refl

-- there are no more names of helpers than functions
pub no_more_helpers : {S : Type 0} (functions : IndexMap (List ℕ) Found S) (block : List (Statement (List ℕ))) (names : List (List ℕ)) (place : ℕ) → Reaching (helper_in functions) block names place → IsDistinct bytes_eq names → length names ≤ length (keys_of functions.entries)
no_more_helpers functions block names place u d =
    no_more names (keys_of functions.entries) d (λ t c. Contains-keys_from_lookup same_bytes t functions.entries (found_there (get bytes_eq functions t) (u.known t c)))

-- what was read at a place, and copied
pub name_is : (xs ys : List (List ℕ)) (i : ℕ) (name read : List ℕ) → read ≡ slice_index_or ys i read → ys ≡ xs → name ≡ read → name ≡ slice_index_or xs i name
name_is xs ys i name read h q e = subst (λ n. n ≡ slice_index_or xs i n) (sym e) (h ∙ ap (λ zs. slice_index_or zs i read) q)
