-- What lists contain.
use Rattle.std.proofs.Common.{◌≡◌, ℕ, zero, suc, ◌≤◌, Bool, true, false, cond, List, [], ◌∷◌, ◌++◌, map, filter, length, refl, sym, ap, subst, ◌∙◌, arith, append_assoc, append-nil, inl, inr}
use Rattle.std.proofs.lemmas.List.Elements.{Contains-append_left, Contains-append_right, Contains-append_cases, Contains-push}
use Rattle.std.proofs.lemmas.Map.Views.{Contains-from_any}
use Rattle.std.proofs.lemmas.Slice.Eq.{bytes_eq-Decides}
use Rattle.std.specs.Prelude.{◌⊎◌, if◌then◌else◌}
use Rattle.std.specs.List.{Contains, IsAmong, IsDistinct, AllByRecursion}
use Rattle.std.specs.Str.{bytes_eq}
use Rattle.rd_names.specs.Names.{is_among, with_name, with_names}
use Rattle.rd_names.specs.Uses.{joined}

module _ {X : Type 0} where
  pub first : (x : X) (xs : List X) → Contains (x ∷ xs) x
  first x xs = (0, omega arith, refl)

  pub later : (x : X) (xs : List X) (y : X) → Contains xs y → Contains (x ∷ xs) y
  later x xs y h = (suc h.0, omega (arith, h.1), h.2)

  -- the first, or one behind it
  pub cases : (x : X) (xs : List X) (y : X) → Contains (x ∷ xs) y → (x ≡ y) ⊎ Contains xs y
  cases x xs y (zero, less, is) = inl is
  cases x xs y (suc k, less, is) = inr (k, omega (arith, less), is)

  pub nothing_in : {Z : Type 0} (y : X) → Contains [] y → Z
  nothing_in y h = absurd (omega (arith, h.1))

  pub among : (xs : List X) (y : X) → IsAmong xs y → Contains xs y
  among xs y h = (h.0, h.1.0, sym h.1.1)

in_map_by : {X Y : Type 0} (f : X → Y) (y : X) (ys : List X) (x : X) → (Contains ys x → Contains (map f ys) (f x)) → (y ≡ x) ⊎ Contains ys x → Contains (map f (y ∷ ys)) (f x)
in_map_by f y ys x more (inl e) = subst (λ z. Contains (map f (y ∷ ys)) (f z)) e (first (f y) (map f ys))
in_map_by f y ys x more (inr c) = later (f y) (map f ys) (f x) (more c)

pub in_map : {X Y : Type 0} (f : X → Y) (xs : List X) (x : X) → Contains xs x → Contains (map f xs) (f x)
in_map f [] x h = nothing_in x h
in_map f (y ∷ ys) x h = in_map_by f y ys x (in_map f ys x) (cases y ys x h)

kept_by : {X : Type 0} (y : X) (zs : List X) (x : X) (b : Bool) → Contains zs x → Contains (cond b (y ∷ zs) zs) x
kept_by y zs x true c = later y zs x c
kept_by y zs x false c = c

in_filter_by : {X : Type 0} (p : X → Bool) (y : X) (ys : List X) (x : X) → p x ≡ true → (Contains ys x → Contains (filter p ys) x) → (y ≡ x) ⊎ Contains ys x → Contains (filter p (y ∷ ys)) x
in_filter_by p y ys x e more (inl q) = subst (λ b. Contains (cond b (y ∷ filter p ys) (filter p ys)) x) (sym (ap p q ∙ e)) (subst (λ z. Contains (y ∷ filter p ys) z) q (first y (filter p ys)))
in_filter_by p y ys x e more (inr c) = kept_by y (filter p ys) x (p y) (more c)

pub in_filter : {X : Type 0} (p : X → Bool) (xs : List X) (x : X) → p x ≡ true → Contains xs x → Contains (filter p xs) x
in_filter p [] x e h = nothing_in x h
in_filter p (y ∷ ys) x e h = in_filter_by p y ys x e (in_filter p ys x e) (cases y ys x h)

passes_by : {X : Type 0} (p : X → Bool) (y : X) (ys : List X) (x : X) → p y ≡ true → (Contains ys x → p x ≡ true) → (y ≡ x) ⊎ Contains ys x → p x ≡ true
passes_by p y ys x e more (inl q) = ap p (sym q) ∙ e
passes_by p y ys x e more (inr c) = more c

passes_if : {X : Type 0} (p : X → Bool) (y : X) (ys : List X) (x : X) (b : Bool) → p y ≡ b → (Contains ys x → p x ≡ true) → Contains (cond b (y ∷ ys) ys) x → p x ≡ true
passes_if p y ys x true e more c = passes_by p y ys x e more (cases y ys x c)
passes_if p y ys x false e more c = more c

pub passes : {X : Type 0} (p : X → Bool) (xs : List X) (x : X) → Contains (filter p xs) x → p x ≡ true
passes p [] x h = nothing_in x h
passes p (y ∷ ys) x h = passes_if p y (filter p ys) x (p y) refl (passes p ys x) h

in_joined_by : {X : Type 0} (ys : List X) (xss : List (List X)) (xs : List X) (x : X) → Contains xs x → (Contains xss xs → Contains (joined xss) x) → (ys ≡ xs) ⊎ Contains xss xs → Contains (ys ++ joined xss) x
in_joined_by ys xss xs x c more (inl e) = Contains-append_left ys (joined xss) x (subst (λ zs. Contains zs x) (sym e) c)
in_joined_by ys xss xs x c more (inr d) = Contains-append_right ys (joined xss) x (more d)

pub in_joined : {X : Type 0} (xss : List (List X)) (xs : List X) (x : X) → Contains xs x → Contains xss xs → Contains (joined xss) x
in_joined [] xs x c h = nothing_in xs h
in_joined (ys ∷ xss) xs x c h = in_joined_by ys xss xs x c (in_joined xss xs x c) (cases ys xss xs h)

-- ---- names with more names

pub same_bytes : (x y : List ℕ) → bytes_eq x y ≡ true → x ≡ y
same_bytes x y h = (bytes_eq-Decides x y).0 h

name_kept_by : (names : List (List ℕ)) (x t : List ℕ) (b : Bool) → Contains names t → Contains (if b then names else names ++ x ∷ []) t
name_kept_by names x t true h = h
name_kept_by names x t false h = Contains-append_left names (x ∷ []) t h

pub name_kept : (names : List (List ℕ)) (x t : List ℕ) → Contains names t → Contains (with_name names x) t
name_kept names x t h = name_kept_by names x t (is_among names x) h

name_put_by : (names : List (List ℕ)) (x : List ℕ) (b : Bool) → is_among names x ≡ b → Contains (if b then names else names ++ x ∷ []) x
name_put_by names x true e = Contains-from_any same_bytes x names e
name_put_by names x false e = Contains-push names x

name_put : (names : List (List ℕ)) (x : List ℕ) → Contains (with_name names x) x
name_put names x = name_put_by names x (is_among names x) refl

pub names_kept : (xs names : List (List ℕ)) (t : List ℕ) → Contains names t → Contains (with_names names xs) t
names_kept [] names t h = h
names_kept (x ∷ xs) names t h = names_kept xs (with_name names x) t (name_kept names x t h)

names_put_by : (x : List ℕ) (xs names : List (List ℕ)) (t : List ℕ) → (Contains xs t → Contains (with_names (with_name names x) xs) t) → (x ≡ t) ⊎ Contains xs t → Contains (with_names (with_name names x) xs) t
names_put_by x xs names t more (inl e) = names_kept xs (with_name names x) t (subst (λ y. Contains (with_name names x) y) e (name_put names x))
names_put_by x xs names t more (inr c) = more c

pub names_put : (xs names : List (List ℕ)) (t : List ℕ) → Contains xs t → Contains (with_names names xs) t
names_put [] names t h = nothing_in t h
names_put (x ∷ xs) names t h = names_put_by x xs names t (names_put xs (with_name names x) t) (cases x xs t h)

one_of : (x t : List ℕ) {P : Type 0} → (x ≡ t) ⊎ Contains [] t → P ⊎ (x ≡ t)
one_of x t (inl e) = inr e
one_of x t (inr c) = nothing_in t c

pushed_by : (names : List (List ℕ)) (x t : List ℕ) → Contains names t ⊎ Contains (x ∷ []) t → Contains names t ⊎ (x ≡ t)
pushed_by names x t (inl c) = inl c
pushed_by names x t (inr c) = one_of x t (cases x [] t c)

name_from_by : (names : List (List ℕ)) (x t : List ℕ) (b : Bool) → Contains (if b then names else names ++ x ∷ []) t → Contains names t ⊎ (x ≡ t)
name_from_by names x t true c = inl c
name_from_by names x t false c = pushed_by names x t (Contains-append_cases names (x ∷ []) t c)

names_from_one : (x : List ℕ) (xs names : List (List ℕ)) (t : List ℕ) → Contains names t ⊎ (x ≡ t) → Contains names t ⊎ Contains (x ∷ xs) t
names_from_one x xs names t (inl c) = inl c
names_from_one x xs names t (inr e) = inr (subst (λ y. Contains (x ∷ xs) y) e (first x xs))

names_from_by : (x : List ℕ) (xs names : List (List ℕ)) (t : List ℕ) → Contains (with_name names x) t ⊎ Contains xs t → Contains names t ⊎ Contains (x ∷ xs) t
names_from_by x xs names t (inl c) = names_from_one x xs names t (name_from_by names x t (is_among names x) c)
names_from_by x xs names t (inr c) = inr (later x xs t c)

pub names_from : (xs names : List (List ℕ)) (t : List ℕ) → Contains (with_names names xs) t → Contains names t ⊎ Contains xs t
names_from [] names t h = inl h
names_from (x ∷ xs) names t h = names_from_by x xs names t (names_from xs (with_name names x) t h)

pub names_both : (names xs ys : List (List ℕ)) → with_names names (xs ++ ys) ≡ with_names (with_names names xs) ys
names_both names [] ys = refl
names_both names (x ∷ xs) ys = names_both (with_name names x) xs ys

abbrev Behind : List (List ℕ) → List (List ℕ) → Type 0
Behind names new = (more : List (List ℕ)) × (new ≡ names ++ more)

names_behind_by : (x : List ℕ) (xs names : List (List ℕ)) (b : Bool) → Behind (if b then names else names ++ x ∷ []) (with_names (if b then names else names ++ x ∷ []) xs) → Behind names (with_names (if b then names else names ++ x ∷ []) xs)
names_behind_by x xs names true r = r
names_behind_by x xs names false r = (x ∷ r.0, r.1 ∙ append_assoc names (x ∷ []) r.0)

-- the names stay in front
pub names_behind : (xs names : List (List ℕ)) → (more : List (List ℕ)) × (with_names names xs ≡ names ++ more)
names_behind [] names = ([], sym (append-nil names))
names_behind (x ∷ xs) names = names_behind_by x xs names (is_among names x) (names_behind xs (with_name names x))

-- ---- no more than there are

-- a list without one element
abbrev Without : {X : Type 0} → X → List X → Type 0
Without {X} x ys = (zs : List X) × (length ys ≡ suc (length zs)) × ((z : X) → Contains ys z → (x ≡ z → ⊥) → Contains zs z)

without_first : {X : Type 0} (x y : X) (ys : List X) → y ≡ x → (z : X) → (x ≡ z → ⊥) → (y ≡ z) ⊎ Contains ys z → Contains ys z
without_first x y ys e z ne (inl q) = absurd (ne (sym e ∙ q))
without_first x y ys e z ne (inr c) = c

without_later : {X : Type 0} (x y : X) (ys zs : List X) → ((z : X) → Contains ys z → (x ≡ z → ⊥) → Contains zs z) → (z : X) → (x ≡ z → ⊥) → (y ≡ z) ⊎ Contains ys z → Contains (y ∷ zs) z
without_later x y ys zs k z ne (inl q) = subst (λ w. Contains (y ∷ zs) w) q (first y zs)
without_later x y ys zs k z ne (inr c) = later y zs z (k z c ne)

without_by : {X : Type 0} (x y : X) (ys : List X) → (Contains ys x → Without x ys) → (y ≡ x) ⊎ Contains ys x → Without x (y ∷ ys)
without_by x y ys more (inl e) = (ys, refl, λ z c ne. without_first x y ys e z ne (cases y ys z c))
without_by x y ys more (inr d) = let r = more d in (y ∷ r.0, ap suc r.1, λ z c ne. without_later x y ys r.0 r.2 z ne (cases y ys z c))

without : {X : Type 0} (x : X) (ys : List X) → Contains ys x → Without x ys
without x [] h = nothing_in x h
without x (y ∷ ys) h = without_by x y ys (without x ys) (cases y ys x h)

holds_by : {X : Type 0} (P : X → Type 0) (y : X) (ys : List X) (x : X) → P y → (Contains ys x → P x) → (y ≡ x) ⊎ Contains ys x → P x
holds_by P y ys x u more (inl e) = subst P e u
holds_by P y ys x u more (inr c) = more c

pub holds_at : {X : Type 0} (P : X → Type 0) (xs : List X) (x : X) → AllByRecursion P xs → Contains xs x → P x
holds_at P [] x u h = nothing_in x h
holds_at P (y ∷ ys) x u h = holds_by P y ys x u.0 (holds_at P ys x u.1) (cases y ys x h)

-- Different texts that are all in a list are no more than the list has.
pub no_more : (xs ys : List (List ℕ)) → IsDistinct bytes_eq xs → ((t : List ℕ) → Contains xs t → Contains ys t) → length xs ≤ length ys
unfolding IsDistinct
no_more [] ys d h = omega arith
no_more (x ∷ xs) ys d h =
    let r = without x ys (h x (first x xs)) in
    let apart : (t : List ℕ) → Contains xs t → x ≡ t → ⊥ = λ t c e. let no : true ≡ false = sym ((bytes_eq-Decides x t).1 e) ∙ holds_at (λ y. bytes_eq x y ≡ false) xs t d.0 c in absurd cc in
    let le : length xs ≤ length r.0 = no_more xs r.0 d.1 (λ t c. r.2 t (h t (later x xs t c)) (apart t c)) in
    omega (arith, le, r.1)
