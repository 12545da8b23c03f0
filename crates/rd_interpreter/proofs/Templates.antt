-- Templates, mark by mark.
use Rattle.std.proofs.Common.{◌≡◌, ℕ, zero, suc, ◌+◌, ◌-◌, ◌<◌, ◌≤◌, Bool, true, false, ◌==◌, ◌||◌, List, [], ◌∷◌, ◌++◌, length, map, take, drop, get_or, refl, sym, ap, subst, ◌∙◌, arith, append_assoc, true≢false, Option, Result, Ok, Err, slice_get, slice_range, drop-cons, drop-drop, take_all, add-one, IsUtf8, IsCharBoundary}
use Rattle.std.proofs.lemmas.List.{get_or-drop, length-drop}
use Rattle.std.proofs.lemmas.Str.{IsCharBoundary-after_ascii}
use Rattle.std.specs.Prelude.{if◌then◌else◌}
use Rattle.std.proofs.lemmas.Bool.{eqb-true}
use Rattle.std.proofs.lemmas.Grind.{common_steps}
use Rattle.rd_value.specs.declared.value.ErrorValue.{ErrorValue}
use Rattle.rd_interpreter.specs.declared.template.Mark.{Mark}
use Rattle.rd_interpreter.specs.declared.template.Mark.TheVariants as mark
use Rattle.rd_interpreter.specs.Texts.{Neither, Left, Right, is_brace, mark_of, in_front, placed, bad_format, too_few, filled_from, filled}
use Rattle.rd_interpreter.specs.declared.halt.Halt.{Halt}
use Rattle.rd_interpreter.specs.declared.halt.Halt.TheVariants.{Raised, OutOfMemory}
use Rattle.rd_interpreter.specs.Running.{Answers, Raises}
use Rattle.rd_interpreter.specs.Draft.{added, all_added}
use Rattle.rd_interpreter.proofs.Drafts.{all_added_twice, added_nothing}

in_front_none : (r : Result (List ℕ) ErrorValue) → r ≡ in_front [] r
in_front_none (Ok t) = refl
in_front_none (Err e) = refl

in_front_twice : (a b : List ℕ) (r : Result (List ℕ) ErrorValue) → in_front a (in_front b r) ≡ in_front (a ++ b) r
in_front_twice a b (Ok t) = ap Ok (sym (append_assoc a b t))
in_front_twice a b (Err e) = refl

plain_byte : (b : ℕ) (bs : List ℕ) (ts : List (List ℕ)) → is_brace b ≡ false → filled_from Neither (b ∷ bs) ts ≡ in_front (b ∷ []) (filled_from Neither bs ts)
plain_byte b bs ts h = by_test (b == 123) (b == 125) h
  where
    by_test : (x y : Bool) → (x || y) ≡ false → (if x then filled_from Left bs ts else if y then filled_from Right bs ts else in_front (b ∷ []) (filled_from Neither bs ts)) ≡ in_front (b ∷ []) (filled_from Neither bs ts)
    by_test true y e = absurd (true≢false e)
    by_test false true e = absurd (true≢false e)
    by_test false false e = refl

-- bytes without a brace stay as they are
plain_front : (n : ℕ) (t : List ℕ) (ts : List (List ℕ)) → n ≤ length t → ((i : ℕ) → i < n → is_brace (get_or t i 0) ≡ false) → filled_from Neither t ts ≡ in_front (take n t) (filled_from Neither (drop n t) ts)
plain_front zero t ts le h = in_front_none (filled_from Neither t ts)
plain_front (suc n) [] ts le h = absurd (omega arith)
plain_front (suc n) (b ∷ bs) ts le h =
    plain_byte b bs ts (h 0 (omega arith))
    ∙ ap (in_front (b ∷ [])) (plain_front n bs ts (omega arith) (λ i lt. h (suc i) (omega arith)))
    ∙ in_front_twice (b ∷ []) (take n bs) (filled_from Neither (drop n bs) ts)

-- what a mark comes to, with these bytes behind its brace
abbrev pub Means : Mark → List ℕ → List (List ℕ) → Result (List ℕ) ErrorValue → Type 0
Means mark.Left tail ts r = (0 < length tail) × (get_or tail 0 0 < 128) × (r ≡ in_front (123 ∷ []) (filled_from Neither (drop 1 tail) ts))
Means mark.Right tail ts r = (0 < length tail) × (get_or tail 0 0 < 128) × (r ≡ in_front (125 ∷ []) (filled_from Neither (drop 1 tail) ts))
Means mark.Place tail ts r = (0 < length tail) × (get_or tail 0 0 < 128) × (r ≡ placed ts (filled_from Neither (drop 1 tail)))
Means mark.Bad tail ts r = r ≡ Err bad_format

at_left : (tail : List ℕ) (ts : List (List ℕ)) → Means (mark_of 123 (slice_get tail 0)) tail ts (filled_from Left tail ts)
at_left [] ts = refl
at_left (y ∷ more) ts = by_test (y == 123) (y == 125) refl refl
  where
    by_test : (a b : Bool) → (y == 123) ≡ a → (y == 125) ≡ b → Means (if a then mark.Left else if b then mark.Place else mark.Bad) (y ∷ more) ts (if a then in_front (y ∷ []) (filled_from Neither more ts) else if b then placed ts (filled_from Neither more) else Err bad_format)
    by_test true b e f = let same : y ≡ 123 = eqb-true y 123 e in (omega arith, omega (arith, same), ap (λ z. in_front (z ∷ []) (filled_from Neither more ts)) same)
    by_test false true e f = let same : y ≡ 125 = eqb-true y 125 f in (omega arith, omega (arith, same), refl)
    by_test false false e f = refl

at_right : (tail : List ℕ) (ts : List (List ℕ)) → Means (mark_of 125 (slice_get tail 0)) tail ts (filled_from Right tail ts)
at_right [] ts = refl
at_right (y ∷ more) ts = by_test (y == 125) refl
  where
    by_test : (b : Bool) → (y == 125) ≡ b → Means (if b then mark.Right else mark.Bad) (y ∷ more) ts (if b then in_front (y ∷ []) (filled_from Neither more ts) else Err bad_format)
    by_test true f = let same : y ≡ 125 = eqb-true y 125 f in (omega arith, omega (arith, same), ap (λ z. in_front (z ∷ []) (filled_from Neither more ts)) same)
    by_test false f = refl

at_brace : (x : ℕ) (tail : List ℕ) (ts : List (List ℕ)) → is_brace x ≡ true → Means (mark_of x (slice_get tail 0)) tail ts (filled_from Neither (x ∷ tail) ts)
at_brace x tail ts h = by_test (x == 123) (x == 125) refl refl h
  where
    by_test : (a b : Bool) → (x == 123) ≡ a → (x == 125) ≡ b → (a || b) ≡ true → Means (mark_of x (slice_get tail 0)) tail ts (filled_from Neither (x ∷ tail) ts)
    by_test true b e f i = subst (λ z. Means (mark_of z (slice_get tail 0)) tail ts (filled_from Neither (z ∷ tail) ts)) (sym (eqb-true x 123 e)) (at_left tail ts)
    by_test false true e f i = subst (λ z. Means (mark_of z (slice_get tail 0)) tail ts (filled_from Neither (z ∷ tail) ts)) (sym (eqb-true x 125 f)) (at_right tail ts)
    by_test false false e f i = absurd (true≢false (sym i))

pub front : (t : List ℕ) (place : ℕ) → slice_range t 0 place ≡ take place t
front t place = let all : place - 0 ≡ place = omega arith in ap (λ n. take n t) all

pub marked : (t bytes tail : List ℕ) (place : ℕ) (m n : Mark) → bytes ≡ t → tail ≡ drop (place + 1) bytes → m ≡ mark_of (get_or bytes place 0) (slice_get tail 0) → m ≡ n → n ≡ mark_of (get_or t place 0) (slice_get (drop (suc place) t) 0)
marked t bytes tail place m n b l e f = sym f ∙ e ∙ ap (λ x. mark_of (get_or bytes place 0) (slice_get x 0)) (l ∙ ap (λ k. drop k bytes) (add-one place)) ∙ ap (λ x. mark_of (get_or x place 0) (slice_get (drop (suc place) x) 0)) b

-- a slice up to the end
pub to_the_end : (bytes : List ℕ) (from : ℕ) → take (length bytes - from) (drop from bytes) ≡ drop from bytes
to_the_end bytes from = let left : length (drop from bytes) ≡ length bytes - from = length-drop from bytes in take_all (length bytes - from) (drop from bytes) (omega (arith, left))

pub raised_answer : {A : Type 0} (h : Halt) (e : ErrorValue) (r : Result A ErrorValue) → Raises h e → r ≡ Err e → Answers (Err h) r
raised_answer (Raised x) e r f k = k ∙ ap Err (sym f)
raised_answer OutOfMemory e r f k = tt

pub none_placed : {A : Type 0} (f : A → List ℕ) (xs : List A) → length xs ≡ 0 → map f xs ≡ []
none_placed f [] h = refl
none_placed f (x ∷ xs) h = absurd (omega arith)

abbrev Drafting : Type 0
Drafting = Result (Option (List ℕ)) ErrorValue

-- the plain bytes in front are added
at_mark : (t : List ℕ) (place : ℕ) (ts : List (List ℕ)) (o p : Option (List ℕ)) (r : Drafting) → place ≤ length t → ((i : ℕ) → i < place → is_brace (get_or t i 0) ≡ false) → p ≡ added o (take place t) → all_added o (filled t ts) ≡ r → all_added p (filled_from Neither (drop place t) ts) ≡ r
at_mark t place ts o p r le plain e k =
    ap (λ x. all_added x (filled_from Neither (drop place t) ts)) e
    ∙ all_added_twice o (take place t) (filled_from Neither (drop place t) ts)
    ∙ ap (all_added o) (sym (plain_front place t ts le plain)) ∙ k

-- what is behind the last plain byte
module _ (t : List ℕ) (place : ℕ) (le : place ≤ length t) (plain : (i : ℕ) → i < place → is_brace (get_or t i 0) ≡ false) (ts : List (List ℕ)) (o p : Option (List ℕ)) (r : Drafting) (e : p ≡ added o (take place t)) (k : all_added o (filled t ts) ≡ r) where
  pub no_mark : place ≡ length t → r ≡ Ok p
  no_mark all = sym (at_mark t place ts o p r le plain e k) ∙ ap (λ l. all_added p (filled_from Neither l ts)) nothing ∙ ap Ok (added_nothing p o (take place t) e)
    where
      nothing : drop place t ≡ []
      nothing = grind (arith, common_steps)

  module _ (lt : place < length t) (brace : is_brace (get_or t place 0) ≡ true) where
    first : drop place t ≡ get_or t place 0 ∷ drop (suc place) t
    first = drop-cons t place 0 lt

    behind : all_added p (filled_from Neither (get_or t place 0 ∷ drop (suc place) t) ts) ≡ r
    behind = ap (λ l. all_added p (filled_from Neither l ts)) (sym first) ∙ at_mark t place ts o p r le plain e k

    meaning : (m : Mark) → m ≡ mark_of (get_or t place 0) (slice_get (drop (suc place) t) 0) → Means m (drop (suc place) t) ts (filled_from Neither (get_or t place 0 ∷ drop (suc place) t) ts)
    meaning m h = subst (λ x. Means x (drop (suc place) t) ts (filled_from Neither (get_or t place 0 ∷ drop (suc place) t) ts)) (sym h) (at_brace (get_or t place 0) (drop (suc place) t) ts brace)

    edge : IsUtf8 t → 0 < length (drop (suc place) t) → get_or (drop (suc place) t) 0 0 < 128 → IsCharBoundary t (place + 2)
    edge u some ascii =
        let at : get_or (drop (suc place) t) 0 0 ≡ get_or t (suc place + 0) 0 = get_or-drop (suc place) t 0 0 in
        let same : suc place + 0 ≡ suc place = omega arith in
        let next : suc place + 1 ≡ place + 2 = omega arith in
        let left : length (drop (suc place) t) ≡ length t - suc place = length-drop (suc place) t in
        let within : suc place < length t = omega (arith, some, left) in
        subst (IsCharBoundary t) next (IsCharBoundary-after_ascii t (suc place) u within (subst (λ b. b < 128) (at ∙ ap (λ i. get_or t i 0) same) ascii))

    pub left_edge : IsUtf8 t → mark.Left ≡ mark_of (get_or t place 0) (slice_get (drop (suc place) t) 0) → IsCharBoundary t (place + 2)
    left_edge u h = edge u (meaning mark.Left h).0 (meaning mark.Left h).1

    pub right_edge : IsUtf8 t → mark.Right ≡ mark_of (get_or t place 0) (slice_get (drop (suc place) t) 0) → IsCharBoundary t (place + 2)
    right_edge u h = edge u (meaning mark.Right h).0 (meaning mark.Right h).1

    pub place_edge : IsUtf8 t → mark.Place ≡ mark_of (get_or t place 0) (slice_get (drop (suc place) t) 0) → IsCharBoundary t (place + 2)
    place_edge u h = edge u (meaning mark.Place h).0 (meaning mark.Place h).1

    one_more : drop 1 (drop (suc place) t) ≡ drop (place + 2) t
    one_more = let two : suc place + 1 ≡ place + 2 = omega arith in drop-drop 1 (suc place) t ∙ ap (λ n. drop n t) two

    -- a brace that stands for itself
    written : (b : ℕ) (d : Option (List ℕ)) → filled_from Neither (get_or t place 0 ∷ drop (suc place) t) ts ≡ in_front (b ∷ []) (filled_from Neither (drop 1 (drop (suc place) t)) ts) → d ≡ added p (b ∷ []) → all_added d (filled (drop (place + 2) t) ts) ≡ r
    written b d h f =
        ap (λ x. all_added x (filled (drop (place + 2) t) ts)) f
        ∙ all_added_twice p (b ∷ []) (filled (drop (place + 2) t) ts)
        ∙ ap (λ l. all_added p (in_front (b ∷ []) (filled_from Neither l ts))) (sym one_more)
        ∙ ap (all_added p) (sym h) ∙ behind

    pub left_mark : (d : Option (List ℕ)) → mark.Left ≡ mark_of (get_or t place 0) (slice_get (drop (suc place) t) 0) → d ≡ added p (123 ∷ []) → all_added d (filled (drop (place + 2) t) ts) ≡ r
    left_mark d h f = written 123 d (meaning mark.Left h).2 f

    pub right_mark : (d : Option (List ℕ)) → mark.Right ≡ mark_of (get_or t place 0) (slice_get (drop (suc place) t) 0) → d ≡ added p (125 ∷ []) → all_added d (filled (drop (place + 2) t) ts) ≡ r
    right_mark d h f = written 125 d (meaning mark.Right h).2 f

    pub bad_mark : mark.Bad ≡ mark_of (get_or t place 0) (slice_get (drop (suc place) t) 0) → r ≡ Err bad_format
    bad_mark h = sym behind ∙ ap (all_added p) (meaning mark.Bad h)

    pub place_mark : (one : List ℕ) (more : List (List ℕ)) (d : Option (List ℕ)) → mark.Place ≡ mark_of (get_or t place 0) (slice_get (drop (suc place) t) 0) → ts ≡ one ∷ more → d ≡ added p one → all_added d (filled (drop (place + 2) t) more) ≡ r
    place_mark one more d h g f =
        ap (λ x. all_added x (filled (drop (place + 2) t) more)) f
        ∙ all_added_twice p one (filled (drop (place + 2) t) more)
        ∙ ap (λ l. all_added p (in_front one (filled_from Neither l more))) (sym one_more)
        ∙ ap (λ us. all_added p (placed us (filled_from Neither (drop 1 (drop (suc place) t))))) (sym g)
        ∙ ap (all_added p) (sym (meaning mark.Place h).2) ∙ behind

    pub no_place : mark.Place ≡ mark_of (get_or t place 0) (slice_get (drop (suc place) t) 0) → ts ≡ [] → r ≡ Err too_few
    no_place h g =
        sym behind ∙ ap (all_added p) (meaning mark.Place h).2
        ∙ ap (λ us. all_added p (placed us (filled_from Neither (drop 1 (drop (suc place) t))))) g
