-- The arguments that words give.
use Rattle.std.proofs.Common.{◌≡◌, ◌≢◌, ℕ, zero, suc, ◌<◌, ◌≤◌, inl, inr, Bool, true, false, not, ◌+◌, List, [], ◌∷◌, ◌++◌, map, length, take, get_or, refl, sym, ap, subst, ◌∙◌, arith, add-one}
use Rattle.std.proofs.Math.Seq.{take-length}
use Rattle.std.specs.List.{AllZip, AllPairs, IsDistinct, list_any}
use Rattle.std.specs.Str.{bytes_eq}
use Rattle.indexmap.specs.IndexSet.{insert_key}
use Rattle.indexmap.proofs.SetLemmas.{AllZip-push}
use Rattle.std.specs.Prelude.{if◌then◌else◌, ◌↔◌, IsTrue}
use Rattle.std.proofs.lemmas.List.{get_or-map, get_or-take, get_or_default, length-map, length-take, take_all}
use Rattle.std.proofs.lemmas.Map.Views.{Contains-from_any}
use Rattle.std.proofs.lemmas.Map.Made.{AllPairs-from_IsDistinct, IsDistinct-from_AllPairs}
use Rattle.std.proofs.lemmas.Slice.Eq.{bytes_eq-Decides}
use Rattle.rd_value.specs.declared.value.FileValue.{FileValue}
use Rattle.rd_value.specs.declared.value.Datum.{Datum}
use Rattle.rd_parse.proofs.WholeTexts.{one_spelled}
use Rattle.rd_top.specs.Arguments.{plain, HoldNoFiles}
use Rattle.rd_top.specs.Command.{Argument, IsArgument, AreArguments, Means, names_of}
use Rattle.rd_top.specs.Running.{own}
use Rattle.rd_top.proofs.PlainValues.{with_files_plain, plain_text, holds_no_file}

-- ---- a word gives one argument at most

one_meaning : (text : List ℕ) (v w : Datum FileValue) → Means text v → Means text w → v ≡ w
one_meaning text v w (inl s) (inl t) = one_spelled text v w s t
one_meaning text v w (inl s) (inr n) = absurd (n.0 v s)
one_meaning text v w (inr n) (inl t) = absurd (n.0 w t)
one_meaning text v w (inr n) (inr m) = n.1 ∙ sym m.1

one_argument : (word : List ℕ) (a b : Argument) → IsArgument word a → IsArgument word b → a ≡ b
one_argument word a b h k =
    let e = one_meaning _ a.1 b.1 h.means k.means in
    let n = h.name ∙ sym k.name in
    λ i. (n i, e i)

pub one_list : (words : List (List ℕ)) (xs bs : List Argument) → AllZip IsArgument words xs → AllZip IsArgument words bs → xs ≡ bs
one_list [] [] [] h k = refl
one_list [] [] (b ∷ bs) h k = absurd k
one_list [] (a ∷ xs) bs h k = absurd h
one_list (w ∷ ws) [] bs h k = absurd h
one_list (w ∷ ws) (a ∷ xs) [] h k = absurd k
one_list (w ∷ ws) (a ∷ xs) (b ∷ bs) h k =
    let e = one_argument w a b h.0 k.0 in
    let es = one_list ws xs bs h.1 k.1 in
    cc

-- ---- arguments hold no files

meaning_is_plain : (text : List ℕ) (v : Datum FileValue) → Means text v → plain v ≡ v
meaning_is_plain text v (inl s) = sym (with_files_plain own v) ∙ holds_no_file own text v s
meaning_is_plain text v (inr n) = ap plain n.1 ∙ plain_text text ∙ sym n.1

pub hold_no_files : (words : List (List ℕ)) (xs : List Argument) → AllZip IsArgument words xs → HoldNoFiles xs
hold_no_files [] [] h = refl
hold_no_files [] (a ∷ xs) h = absurd h
hold_no_files (w ∷ ws) [] h = absurd h
hold_no_files (w ∷ ws) (a ∷ xs) h =
    ap (λ v. (a.0, v) ∷ map (λ b. (b.0, plain b.1)) xs) (meaning_is_plain _ a.1 h.0.means) ∙ ap (λ bs. a ∷ bs) (hold_no_files ws xs h.1)

-- ---- one word after the other

-- the item at a place has its partner
pub zip_at : {A B : Type 0} (R : A → B → Type 0) (xs : List A) (ys : List B) (i : ℕ) (d : A) → AllZip R xs ys → i < length xs → (y : B) × R (get_or xs i d) y
zip_at R [] ys i d h l = absurd (omega (arith, l))
zip_at R (x ∷ xs) [] i d h l = absurd h
zip_at R (x ∷ xs) (y ∷ ys) zero d h l = (y, h.0)
zip_at R (x ∷ xs) (y ∷ ys) (suc i) d h l = zip_at R xs ys i d h.1 (omega (arith, l))

-- ---- names that are there once

same_bytes : (a b : List ℕ) → bytes_eq a b ≡ true → a ≡ b
same_bytes a b h = (bytes_eq-Decides a b).0 h

-- a name that is among those before it
not_distinct : (names : List (List ℕ)) (i : ℕ) (d : List ℕ) → i < length names → list_any (bytes_eq (get_or names i d)) (take i names) ≡ true → IsDistinct bytes_eq names → ⊥
not_distinct names i d lt h u =
    let x : List ℕ = get_or names i d in
    let m = Contains-from_any same_bytes x (take i names) h in
    let before : m.0 < i = omega (arith, m.1, length-take i names) in
    let found : get_or names m.0 x ≡ x = sym (get_or-take i names m.0 x before) ∙ m.2 in
    AllPairs-from_IsDistinct bytes_eq-Decides names u m.0 i x before lt (found ∙ get_or_default names i d x lt)

pub all_different : (names : List (List ℕ)) → IsDistinct bytes_eq names → AllPairs ◌≢◌ names
all_different names u = AllPairs-from_IsDistinct bytes_eq-Decides names u

was_there : (b x : Bool) → b ≡ not x → b ≡ false → x ≡ true
was_there b true n f = refl
was_there b false n f = absurd cc

abbrev name : Argument → List ℕ
name a = a.0

-- the name of the argument at a place
name_at : (xs : List Argument) (i : ℕ) (a : Argument) → i < length xs → a ≡ get_or xs i a → a.0 ≡ get_or (names_of xs) i a.0
name_at xs i a lt e = ap name e ∙ sym (get_or-map name xs i a a.0 lt)

-- a name that the set of those before it has
pub repeated : (xs : List Argument) (keys : List (List ℕ)) (i : ℕ) (a : Argument) (b : Bool) → i < length xs → keys ≡ take i (names_of xs) → a ≡ get_or xs i a → b ≡ not (list_any (bytes_eq a.0) keys) → b ≡ false
    → AllPairs ◌≢◌ (names_of xs) → ⊥
repeated xs keys i a b lt k e n f different =
    let h = was_there b (list_any (bytes_eq a.0) keys) n f in
    let at = name_at xs i a lt e in
    not_distinct (names_of xs) i a.0 (rw (length-map xs name) lt)
    (subst (λ (ks : List (List ℕ)). list_any (bytes_eq (get_or (names_of xs) i a.0)) ks ≡ true) k (subst (λ (y : List ℕ). list_any (bytes_eq y) keys ≡ true) at h))
    (IsDistinct-from_AllPairs bytes_eq-Decides (names_of xs) different)

take_more : {A : Type 0} (xs : List A) (i : ℕ) (x : A) → i < length xs → x ≡ get_or xs i x → take i xs ++ x ∷ [] ≡ take (suc i) xs
take_more [] i x lt e = absurd (omega (arith, lt))
take_more (y ∷ ys) zero x lt e = ap (λ z. z ∷ []) e
take_more (y ∷ ys) (suc i) x lt e = ap (λ zs. y ∷ zs) (take_more ys i x (omega (arith, lt)) e)

-- one name more
pub one_name : (xs : List Argument) (keys : List (List ℕ)) (i : ℕ) (a : Argument) → i < length xs → keys ≡ take i (names_of xs) → a ≡ get_or xs i a → keys ++ a.0 ∷ [] ≡ take (i + 1) (names_of xs)
one_name xs keys i a lt k e = rw add-one (ap (λ ks. ks ++ a.0 ∷ []) k ∙ take_more (names_of xs) i a.0 (rw (length-map xs name) lt) (name_at xs i a lt e))

pub all_names : (xs : List Argument) (keys : List (List ℕ)) → keys ≡ take (length xs) (names_of xs) → IsDistinct bytes_eq keys → AllPairs ◌≢◌ (names_of xs)
all_names xs keys k u = all_different (names_of xs) (subst (IsDistinct bytes_eq) (k ∙ ap (λ n. take n (names_of xs)) (sym (length-map xs name)) ∙ take-length (names_of xs)) u)

-- a set with a name that it didn't have
pub grown : (keys : List (List ℕ)) (x : List ℕ) (b : Bool) → b ≡ not (list_any (bytes_eq x) keys) → b ≡ true → insert_key bytes_eq keys x ≡ keys ++ x ∷ []
grown keys x b e t = by (list_any (bytes_eq x) keys) refl (sym e ∙ t)
  where
    by : (a : Bool) → list_any (bytes_eq x) keys ≡ a → not (list_any (bytes_eq x) keys) ≡ true → insert_key bytes_eq keys x ≡ keys ++ x ∷ []
    by true i h = absurd cc
    by false i h = ap (λ (b : Bool). if b then keys else keys ++ x ∷ []) i

-- ---- words, one after the other

module _ {W : Type 0} (f : W → List ℕ) (ws : List W) (i : ℕ) (w : W) (t : List ℕ) (lt : i < length ws) (e : w ≡ get_or ws i w) (is : t ≡ f w) where
  in_reach : i < length (map f ws)
  in_reach = rw (length-map ws f) lt

  word_at : f w ≡ get_or (map f ws) i (f w)
  word_at = ap f e ∙ sym (get_or-map f ws i w (f w) lt)

  -- a word that gives an argument
  pub one_word : (xs : List Argument) (a : Argument) → AllZip IsArgument (take i (map f ws)) xs → IsArgument t a → AllZip IsArgument (take (i + 1) (map f ws)) (xs ++ a ∷ [])
  one_word xs a h k =
      rw add-one
      (subst (λ (us : List (List ℕ)). AllZip IsArgument us (xs ++ a ∷ [])) (take_more (map f ws) i (f w) in_reach word_at)
      (AllZip-push IsArgument (take i (map f ws)) xs (f w) a h (subst (λ (u : List ℕ). IsArgument u a) is k)))

  -- a word that gives none
  pub no_word : ((a : Argument) → IsArgument t a → ⊥) → (xs : List Argument) → AllZip IsArgument (map f ws) xs → ⊥
  no_word none xs h =
      let found = zip_at IsArgument (map f ws) xs i (f w) h in_reach in
      none found.0 (subst (λ (u : List ℕ). IsArgument u found.0) (sym (is ∙ word_at)) found.1)

-- behind the last word
pub all_words : {W : Type 0} (f : W → List ℕ) (ws : List W) (i : ℕ) (xs : List Argument) → length ws ≤ i → AllZip IsArgument (take i (map f ws)) xs → AllZip IsArgument (map f ws) xs
all_words f ws i xs le h = subst (λ (us : List (List ℕ)). AllZip IsArgument us xs) (take_all i (map f ws) (rw (length-map ws f) le)) h

-- arguments of which a name is there twice
pub not_given : (words : List (List ℕ)) (all given xs : List Argument) (d : Bool) → AllZip IsArgument words all → xs ≡ all → (IsTrue d ↔ AllPairs ◌≢◌ (names_of xs)) → d ≡ false → AreArguments words given → ⊥
not_given words all given xs d zip same is off h =
    let e : given ≡ xs = one_list words given all h.0 zip ∙ sym same in
    not_true d off (is.1 (subst (λ (ys : List Argument). AllPairs ◌≢◌ (names_of ys)) e h.1))
  where
    not_true : (b : Bool) → b ≡ false → IsTrue b → ⊥
    not_true true n t = absurd cc
    not_true false n t = absurd cc
