-- The parts of texts.
use Rattle.std.proofs.Common.{◌≡◌, ◌≢◌, ℕ, zero, suc, ◌+◌, ◌-◌, ◌<◌, ◌≤◌, Bool, true, false, ◌&&◌, ◌||◌, nat_le, ◌==◌, List, [], ◌∷◌, ◌++◌, length, map, reverse, take, drop, get_or, refl, sym, ap, subst, ◌∙◌, arith, append_assoc, append-nil, Some, None, MatchBool, true≢false, slice_range, IsUtf8, drop-cons, take-suc, add-one}
use Rattle.std.specs.Str.Pattern.{LacksTextAt, FindsText, FindsTextPrefix, FindsTextSuffix, HasPrefixMatch, HasSuffixMatch, SplitsAroundMatch}
use Rattle.std.proofs.lemmas.Bool.{eqb-true}
use Rattle.std.proofs.lemmas.Bool.Decides.{nat_tests}
use Rattle.std.proofs.lemmas.List.{reverse-reverse, reverse-append, get_or-drop}
use Rattle.std.proofs.lemmas.Str.{IsUtf8-drop}
use Rattle.std.proofs.lemmas.Grind.{common_steps}
use Rattle.rd_interpreter.specs.Texts.{is_space, skipped, with_word, words_from, begins, ends, pieces_from, pieces}

-- ---- a text at the front of another

eqb_self : (n : ℕ) → (n == n) ≡ true
eqb_self n = grind (arith, nat_tests)

pub begins_append : (a b : List ℕ) → begins a (a ++ b) ≡ true
begins_append [] b = refl
begins_append (c ∷ cs) b = rw (eqb_self c) (begins_append cs b)

pub begins_split : (a b : List ℕ) → begins a b ≡ true → (rest : List ℕ) × (b ≡ a ++ rest)
begins_split [] b h = (b, refl)
begins_split (c ∷ cs) [] h = absurd (true≢false (sym h))
begins_split (c ∷ cs) (b ∷ bs) h = by_test (c == b) refl (begins_split cs bs) h
  where
    by_test : (t : Bool) → (c == b) ≡ t → (begins cs bs ≡ true → (rest : List ℕ) × (bs ≡ cs ++ rest)) → (t && begins cs bs) ≡ true → (rest : List ℕ) × (b ∷ bs ≡ c ∷ (cs ++ rest))
    by_test true e more i = let r = more i in (r.0, ap (λ l. b ∷ l) r.1 ∙ ap (λ a. a ∷ (cs ++ r.0)) (sym (eqb-true c b e)))
    by_test false e more i = absurd (true≢false (sym i))

no_begins : (a b : List ℕ) → ((rest : List ℕ) → b ≢ a ++ rest) → begins a b ≡ false
no_begins a b h = by_test (begins a b) refl
  where
    by_test : (t : Bool) → begins a b ≡ t → t ≡ false
    by_test true e = let r = begins_split a b e in absurd (h r.0 r.1)
    by_test false e = refl

pub begins_is : (r : Bool) (n s : List ℕ) → MatchBool r (HasPrefixMatch (FindsTextPrefix n) s) (FindsTextPrefix n s None) → r ≡ begins n s
begins_is true n s h = sym (subst (λ t. begins n t ≡ true) (sym h.1.1) (begins_append n (drop h.0 s)))
begins_is false n s h = sym (no_begins n s h)

pub ends_is : (r : Bool) (n s : List ℕ) → MatchBool r (HasSuffixMatch (FindsTextSuffix n) s) (FindsTextSuffix n s None) → r ≡ ends n s
ends_is true n s h = sym (subst (λ t. begins (reverse n) (reverse t) ≡ true) (sym h.1.1) (rw (reverse-append (take (length s - h.0) s) n) (begins_append (reverse n) (reverse (take (length s - h.0) s)))))
ends_is false n s h = sym (no_begins (reverse n) (reverse s) (λ rest e. h (reverse rest) (sym (reverse-reverse s) ∙ ap reverse e ∙ reverse-append (reverse n) rest ∙ ap (λ l. reverse rest ++ l) (reverse-reverse n))))

-- ---- pieces

last_piece : (s piece t : List ℕ) → ((i : ℕ) → i ≤ length t → LacksTextAt s t i) → pieces_from s 0 piece t ≡ (piece ++ t) ∷ []
last_piece s piece [] h = ap (λ p. p ∷ []) (sym (append-nil piece))
last_piece s piece (b ∷ bs) h =
    rw (no_begins s (b ∷ bs) (h 0 (omega arith)))
    (last_piece s (piece ++ b ∷ []) bs (λ i le. h (suc i) (omega arith)) ∙ ap (λ p. p ∷ []) (append_assoc piece (b ∷ []) bs))

past_separator : (s xs ys : List ℕ) → pieces_from s (length xs) [] (xs ++ ys) ≡ pieces_from s 0 [] ys
past_separator s [] ys = refl
past_separator s (x ∷ xs) ys = past_separator s xs ys

no_cons : (c : ℕ) (cs : List ℕ) → [] ≡ c ∷ cs → ⊥
no_cons c cs e = let l : 0 ≡ suc (length cs) = ap length e in omega (arith, l)

at_separator : (c : ℕ) (cs piece rest : List ℕ) → pieces_from (c ∷ cs) 0 piece (c ∷ (cs ++ rest)) ≡ (piece ++ []) ∷ pieces_from (c ∷ cs) 0 [] rest
at_separator c cs piece rest =
    let one : suc (length cs) - 1 ≡ length cs = omega arith in
    rw (begins_append (c ∷ cs) rest, append-nil piece)
    (ap (λ n. piece ∷ pieces_from (c ∷ cs) n [] (cs ++ rest)) one ∙ ap (λ l. piece ∷ l) (past_separator (c ∷ cs) cs rest))

next_piece : (c : ℕ) (cs piece t rest : List ℕ) (i : ℕ) → ((k : ℕ) → k < i → LacksTextAt (c ∷ cs) t k) → drop i t ≡ (c ∷ cs) ++ rest → pieces_from (c ∷ cs) 0 piece t ≡ (piece ++ take i t) ∷ pieces_from (c ∷ cs) 0 [] rest
next_piece c cs piece [] rest zero h e = absurd (no_cons c (cs ++ rest) e)
next_piece c cs piece [] rest (suc i) h e = absurd (no_cons c (cs ++ rest) e)
next_piece c cs piece (b ∷ bs) rest zero h e = ap (pieces_from (c ∷ cs) 0 piece) e ∙ at_separator c cs piece rest
next_piece c cs piece (b ∷ bs) rest (suc i) h e =
    rw (no_begins (c ∷ cs) (b ∷ bs) (h 0 (omega arith)))
    (next_piece c cs (piece ++ b ∷ []) bs rest i (λ k lt. h (suc k) (omega arith)) e ∙ ap (λ p. p ∷ pieces_from (c ∷ cs) 0 [] rest) (append_assoc piece (b ∷ []) (take i bs)))

pub pieces_end : (s t : List ℕ) → FindsText s t None → pieces s t ≡ t ∷ []
pieces_end s t h = last_piece s [] t h

pub pieces_next : (s t : List ℕ) (i j : ℕ) → 0 < length s → FindsText s t (Some (i, j)) → pieces s t ≡ take i t ∷ pieces s (drop j t)
pieces_next [] t i j some h = absurd (omega arith)
pieces_next (c ∷ cs) t i j some h = next_piece c cs [] t (drop j t) i h.0 h.1.split

-- ---- whitespace

pub skipped_one : (t : List ℕ) → 0 < length t → is_space (get_or t 0 0) ≡ true → skipped is_space t ≡ skipped is_space (drop 1 t)
skipped_one [] some h = absurd (omega arith)
skipped_one (b ∷ bs) some h = rw h refl

pub skipped_none : (t : List ℕ) → (0 < length t → is_space (get_or t 0 0) ≡ false) → skipped is_space t ≡ t
skipped_none [] h = refl
skipped_none (b ∷ bs) h = rw (h (omega arith)) refl

one_space : (w : List ℕ) (b : ℕ) (bs : List ℕ) → is_space b ≡ true → words_from w (b ∷ bs) ≡ with_word w (words_from [] bs)
one_space w b bs h = rw h refl

one_letter : (w : List ℕ) (b : ℕ) (bs : List ℕ) → is_space b ≡ false → words_from w (b ∷ bs) ≡ words_from (w ++ b ∷ []) bs
one_letter w b bs h = rw h refl

-- ---- loops

pub past_utf8 : (n s piece more : List ℕ) → IsUtf8 s → SplitsAroundMatch (FindsText n) s piece more → IsUtf8 more
past_utf8 n s piece more u h = subst IsUtf8 (sym (h.4 ∙ ap (λ j. drop j s) h.2.1.ends)) (IsUtf8-drop s (h.0 + length n) u h.2.1.after)

pub pieces_around : (n s piece more : List ℕ) → 0 < length n → SplitsAroundMatch (FindsText n) s piece more → pieces n s ≡ piece ∷ pieces n more
pieces_around n s piece more some h = pieces_next n s h.0 h.1 some h.2 ∙ ap (λ p. p ∷ pieces n (drop h.1 s)) (sym h.3) ∙ ap (λ l. piece ∷ pieces n l) (sym h.4)

module _ {V : Type 0} (f : List ℕ → V) where
  -- a loop over pieces goes on
  pub pieces_turn : (n s piece more : List ℕ) (ps new target : List V) → 0 < length n → IsUtf8 s → SplitsAroundMatch (FindsText n) s piece more → new ≡ ps ++ map f (piece ∷ []) → ps ++ map f (pieces n s) ≡ target → IsUtf8 more × (new ++ map f (pieces n more) ≡ target)
  pieces_turn n s piece more ps new target some u h e k = (
    past_utf8 n s piece more u h,
    ap (λ l. l ++ map f (pieces n more)) e ∙ append_assoc ps (f piece ∷ []) (map f (pieces n more)) ∙ ap (λ l. ps ++ map f l) (sym (pieces_around n s piece more some h)) ∙ k,
  )

  -- a loop over pieces ends
  pub pieces_last : (n s : List ℕ) (ps new target : List V) → FindsText n s None → new ≡ ps ++ map f (s ∷ []) → ps ++ map f (pieces n s) ≡ target → new ≡ target
  pieces_last n s ps new target h e k = e ∙ ap (λ l. ps ++ map f l) (sym (pieces_end n s h)) ∙ k

  with_more : (w : List ℕ) (more : List (List ℕ)) → map f (with_word w more) ≡ map f (with_word w []) ++ map f more
  with_more [] more = refl
  with_more (b ∷ bs) more = refl

  -- whitespace ends a word
  pub words_space : (t : List ℕ) (begun place : ℕ) (ws new target : List V) → place < length t → is_space (get_or t place 0) ≡ true → new ≡ ws ++ map f (with_word (slice_range t begun place) []) → ws ++ map f (words_from (slice_range t begun place) (drop place t)) ≡ target → new ++ map f (words_from (slice_range t (place + 1) (place + 1)) (drop (place + 1) t)) ≡ target
  words_space t begun place ws new target lt s e k = rw (nothing, e, append_assoc ws (map f (with_word (slice_range t begun place) [])) (map f (words_from [] (drop (place + 1) t))), ← with_more (slice_range t begun place) (words_from [] (drop (place + 1) t)), ← first) k
    where
      nothing : slice_range t (place + 1) (place + 1) ≡ []
      nothing = ap (λ n. take n (drop (place + 1) t)) zero_wide
        where
          zero_wide : (place + 1) - (place + 1) ≡ 0
          zero_wide = omega arith

      first : words_from (slice_range t begun place) (drop place t) ≡ with_word (slice_range t begun place) (words_from [] (drop (place + 1) t))
      first = ap (words_from (slice_range t begun place)) (drop-cons t place 0 lt) ∙ one_space (slice_range t begun place) (get_or t place 0) (drop (suc place) t) s ∙ ap (λ n. with_word (slice_range t begun place) (words_from [] (drop n t))) (sym (add-one place))

  -- another byte belongs to the word
  pub words_letter : (t : List ℕ) (begun place : ℕ) (ws target : List V) → begun ≤ place → place < length t → is_space (get_or t place 0) ≡ false → ws ++ map f (words_from (slice_range t begun place) (drop place t)) ≡ target → ws ++ map f (words_from (slice_range t begun (place + 1)) (drop (place + 1) t)) ≡ target
  words_letter t begun place ws target le lt s k = ap (λ l. ws ++ map f l) (sym first) ∙ k
    where
      wider : slice_range t begun (place + 1) ≡ slice_range t begun place ++ get_or t place 0 ∷ []
      wider =
          let width : (place + 1) - begun ≡ suc (place - begun) = omega arith in
          let at : begun + (place - begun) ≡ place = omega arith in
          let within : place - begun < length (drop begun t) = grind (arith, common_steps) in
          rw width (take-suc (drop begun t) (place - begun) 0 within ∙ ap (λ b. take (place - begun) (drop begun t) ++ b ∷ []) (get_or-drop begun t (place - begun) 0 ∙ ap (λ i. get_or t i 0) at))

      first : words_from (slice_range t begun place) (drop place t) ≡ words_from (slice_range t begun (place + 1)) (drop (place + 1) t)
      first = ap (words_from (slice_range t begun place)) (drop-cons t place 0 lt) ∙ one_letter (slice_range t begun place) (get_or t place 0) (drop (suc place) t) s ∙ ap (λ w. words_from w (drop (suc place) t)) (sym wider) ∙ ap (λ n. words_from (slice_range t begun (place + 1)) (drop n t)) (sym (add-one place))

-- whitespace is ASCII
pub space_ascii : (b : ℕ) → is_space b ≡ true → b < 128
space_ascii b h = by_test (b == 32) refl h
  where
    by_test : (e : Bool) → (b == 32) ≡ e → (e || (nat_le 9 b && nat_le b 13)) ≡ true → b < 128
    by_test true e i = let same : b ≡ 32 = eqb-true b 32 e in omega (arith, same)
    by_test false e i = grind (arith, nat_tests, i)
