-- Lists behind signs, with a state.
use Rattle.std.proofs.Common.{◌≡◌, ℕ, zero, suc, ◌+◌, ◌≤◌, ◌<◌, Bool, true, false, cond, List, [], ◌∷◌, ◌++◌, length, Option, Some, Ok, Err, refl, sym, ap, subst, ◌∙◌, append_assoc, arith, inl, inr, ◌⊎◌, length-append}
use Rattle.rd_parse.specs.Form.{Form, one, tail}
use Rattle.rd_parse.specs.Reader.{Refused, Outcome, Reader, head, holds, sees, hits, and_then, ◌>>=◌, pure, read_one, read_tail_by, read_tail}
use Rattle.rd_parse.proofs.Laws.{SameHead, Grows, Completes, Found, Stops, Lawful, got, got_value, got_rest, stopped, bind_ok, bind_err, head_append, same_sees, raise, join, Apart, none_left, none_right, apart_sees, one_stops, one_lawful}
use Rattle.rd_parse.proofs.More.{begins, by_true, by_false, way}

from_suc : (Q : ℕ → Type 0) (below_ : ℕ) → ((turns : ℕ) → below_ ≤ turns → Q (suc turns)) → (turns : ℕ) → below_ < turns → Q turns
from_suc Q below_ h zero lt = absurd (omega arith)
from_suc Q below_ h (suc turns) lt = h turns (omega arith)

-- the same, for every number of turns that is enough
pub record TailFound {T A : Type 0} (n : ℕ) (P : Form T (List A)) (r : ℕ → ℕ → Reader T (List A)) (xs : List A) (ts rest : List T) : Type 0 where
  pub used : List T
  pub parts : ts ≡ used ++ rest
  pub anywhere : (k : List T) → P xs (used ++ k) k
  pub steady : (m turns : ℕ) (k : List T) → n ≤ m → SameHead rest k → length used < turns → r m turns (used ++ k) ≡ Ok (xs, k)

pub record TailStops {T A : Type 0} (n : ℕ) (P : ℕ → Form T (List A)) (r : ℕ → ℕ → Reader T (List A)) (ts rest : List T) : Type 0 where
  pub used : List T
  pub parts : ts ≡ used ++ rest
  pub completes : Completes P used
  pub steady : (m turns : ℕ) (k : List T) → n ≤ m → SameHead rest k → length used < turns → r m turns (used ++ k) ≡ Err (Refused k)

module _ {T S C A : Type 0} (n : ℕ) (c : T → Option C) (sign : T) (is_sign : C) (is : c sign ≡ Some is_sign) (P : S → ℕ → Form T A) (f : S → ℕ → Reader T A) (fp : S → T → Bool) (all mp : T → Bool) (step : S → A → S)
    (within : (s : S) (k : T) → fp s k ≡ true → all k ≡ true) (apart : Apart (hits c) mp)
    (grows : (s : S) → Grows (P s)) (lp : (s : S) → Lawful n (P s) (f s) (fp s) mp false) where
  abbrev T' : S → ℕ → Form T (List A)
  T' s m = tail c (λ s. P s m) step s

  abbrev R' : S → ℕ → Reader T (List A)
  R' s m = read_tail c fp (λ s. f s m) step s

  tail_grows : (s : S) → Grows (T' s)
  tail_grows s m [] ts rest h = h
  tail_grows s m (a ∷ more) ts rest h = (h.0, h.1, h.2, h.3, grows s m a h.1 h.3 h.4, tail_grows (step s a) m more h.3 rest h.5)

  one_sees : (u : C) (ts rest : List T) → one c u ts rest → sees (hits c) ts ≡ true
  one_sees u [] rest h = absurd h
  one_sees u (t ∷ ts) rest h = rw h.0 refl

  one_reads : (u : C) (ts rest : List T) → one c u ts rest → read_one c ts ≡ Ok (u, rest)
  one_reads u [] rest h = absurd h
  one_reads u (t ∷ ts) rest h = rw (h.0, h.1) refl

  one_short : (u : C) (ts rest : List T) → one c u ts rest → length rest + 1 ≤ length ts
  one_short u [] rest h = absurd h
  one_short u (t ∷ ts) rest h = rw (← h.1) (omega arith)

  tail_starts : (s : S) (xs : List A) (ts rest : List T) → T' s n xs ts rest → (sees (hits c) ts ≡ true) ⊎ ((true ≡ true) × (ts ≡ rest))
  tail_starts s [] ts rest h = elim h [ inl e ↦ inr (refl, e) | inr e ↦ inl (one_sees e.0 ts rest e.1) ]
  tail_starts s (a ∷ more) ts rest h = inl (one_sees h.0 ts h.1 h.2)

  tail_shrinks : (s : S) (xs : List A) (ts rest : List T) → T' s n xs ts rest → length rest + length xs ≤ length ts
  tail_shrinks s [] ts rest h = elim h [ inl e ↦ (rw e (omega arith)) | inr e ↦ omega (arith, one_short e.0 ts rest e.1) ]
  tail_shrinks s (a ∷ more) ts rest h = omega (arith, one_short h.0 ts h.1 h.2, (lp s).shrinks a h.1 h.3 h.4, tail_shrinks (step s a) more h.3 rest h.5)

  within_sees : (s : S) (ts : List T) → sees all ts ≡ false → sees (fp s) ts ≡ false
  within_sees s [] h = refl
  within_sees s (k ∷ ts) h = elim (way (fp s k)) [ inl y ↦ absurd (let no : all k ≡ true = within s k y in let other : all k ≡ false = h in cc) | inr e ↦ e ]

  abbrev more_set : T → Bool
  more_set = join true (hits c) (join true all mp)

  tail_mid : (s : S) (xs : List A) (mid rest : List T) → T' s n xs mid rest → sees more_set rest ≡ false → sees mp mid ≡ false
  tail_mid s xs mid rest h m =
      elim (tail_starts s xs mid rest h) [
        | inl y ↦ apart_sees (hits c) mp apart mid y
        | inr e ↦ ap (sees mp) e.1 ∙ none_right all mp rest (none_right (hits c) (join true all mp) rest m)
      ]

  tail_only_by : (turns : ℕ) (s : S) (xs : List A) (ts rest : List T) → length xs < turns → T' s n xs ts rest → sees more_set rest ≡ false → read_tail_by c fp (λ s. f s n) step turns s ts ≡ Ok (xs, rest)
  tail_only_by zero s xs ts rest lt h m = absurd (omega arith)
  tail_only_by (suc turns) s [] ts rest lt h m =
      elim h [
        | inl e ↦ by_false (sees (hits c) ts) _ _ (ap (sees (hits c)) e ∙ none_left true (hits c) (join true all mp) rest m) ∙ ap (λ (r : List T). Ok ([], r)) e
        | inr e ↦ by_true (sees (hits c) ts) _ _ (one_sees e.0 ts rest e.1) ∙ rw (one_reads e.0 ts rest e.1) (by_false (sees (fp s) rest) _ _ (within_sees s rest (none_left true all mp rest (none_right (hits c) (join true all mp) rest m))))
      ]
  tail_only_by (suc turns) s (a ∷ more) ts rest lt h m =
      let p : f s n h.1 ≡ Ok (a, h.3) = (lp s).only a h.1 h.3 h.4 (tail_mid (step s a) more h.3 rest h.5 m) in
      let q : read_tail_by c fp (λ s. f s n) step turns (step s a) h.3 ≡ Ok (more, rest) = tail_only_by turns (step s a) more h.3 rest (omega arith) h.5 m in
      by_true (sees (hits c) ts) _ _ (one_sees h.0 ts h.1 h.2) ∙ rw (one_reads h.0 ts h.1 h.2) (by_true (sees (fp s) h.1) _ _ (begins n (P s) (f s) (fp s) mp (lp s) a h.1 h.3 h.4) ∙ rw (p, q) refl)

  abbrev by_turns : S → ℕ → ℕ → Reader T (List A)
  by_turns s m turns = read_tail_by c fp (λ s. f s m) step turns s

  no_sign : (s : S) (m turns : ℕ) (w : List T) → sees (hits c) w ≡ false → by_turns s m (suc turns) w ≡ Ok ([], w)
  no_sign s m turns w h = by_false (sees (hits c) w) _ _ h

  last_sign : (s : S) (m turns : ℕ) (u : C) (w x : List T) → sees (hits c) w ≡ true → read_one c w ≡ Ok (u, x) → sees (fp s) x ≡ false → by_turns s m (suc turns) w ≡ Ok ([], x)
  last_sign s m turns u w x y e h = by_true (sees (hits c) w) _ _ y ∙ rw e (by_false (sees (fp s) x) _ _ h)

  turn : (s : S) (m turns : ℕ) (u : C) (a : A) (w x mid : List T) (r : Outcome T (List A)) → sees (hits c) w ≡ true → read_one c w ≡ Ok (u, x) → sees (fp s) x ≡ true → f s m x ≡ Ok (a, mid)
      → by_turns (step s a) m turns mid ≡ r → by_turns s m (suc turns) w ≡ and_then r (λ more. pure (a ∷ more))
  turn s m turns u a w x mid r y e z d q = by_true (sees (hits c) w) _ _ y ∙ rw e (by_true (sees (fp s) x) _ _ z ∙ rw (d, q) refl)

  bad_turn : (s : S) (m turns : ℕ) (u : C) (w x k : List T) → sees (hits c) w ≡ true → read_one c w ≡ Ok (u, x) → sees (fp s) x ≡ true → f s m x ≡ Err (Refused k) → by_turns s m (suc turns) w ≡ Err (Refused k)
  bad_turn s m turns u w x k y e z d = by_true (sees (hits c) w) _ _ y ∙ rw e (by_true (sees (fp s) x) _ _ z ∙ rw d refl)

  -- the sign, wherever it was read
  abbrev Sign : C → List T → List T → Type 0
  Sign u ts x = Found n (λ _. one c) (λ _. read_one c) u ts x

  sign_found : (u : C) (ts x : List T) → read_one c ts ≡ Ok (u, x) → Sign u ts x
  sign_found u ts x e = (one_lawful n c sign is_sign is).found u ts x e

  item_short : (s : S) (a : A) (used : List T) → P s n a (used ++ []) [] → 0 < length used
  item_short s a used h = omega (arith, (lp s).shrinks a (used ++ []) [] h, length-append used [])

  next : (turns : ℕ) (s : S) (xs more : List A) (ts x mid rest : List T) (u : C) (a : A) → Sign u ts x → Found n (P s) (f s) a x mid → TailFound n (T' (step s a) n) (by_turns (step s a)) more mid rest → a ∷ more ≡ xs → TailFound n (T' s n) (by_turns s) xs ts rest
  next turns s xs more ts x mid rest u a g p q w =
      subst (λ xs. TailFound n (T' s n) (by_turns s) xs ts rest) w (record {
        used = g.used ++ (p.used ++ q.used);
        parts = g.parts ∙ ap (λ (r : List T). g.used ++ r) (p.parts ∙ ap (λ (r : List T). p.used ++ r) q.parts) ∙ simp append_assoc;
        anywhere = λ k. (u, p.used ++ (q.used ++ k), rw (append_assoc, append_assoc) (g.anywhere (p.used ++ (q.used ++ k))), q.used ++ k, p.anywhere (q.used ++ k), q.anywhere k);
        steady = λ m turns k le e lt.
            let here : SameHead x (p.used ++ (q.used ++ k)) = ap head p.parts ∙ head_append p.used mid (q.used ++ k) (ap head q.parts ∙ head_append q.used rest k e) in
            let long : 0 < length p.used = item_short s a p.used (p.anywhere []) in
            from_suc (λ turns. by_turns s m turns ((g.used ++ (p.used ++ q.used)) ++ k) ≡ Ok (a ∷ more, k)) (length (g.used ++ (p.used ++ q.used)))
            (λ turns below_. rw (append_assoc, append_assoc) (turn s m turns u a (g.used ++ (p.used ++ (q.used ++ k))) (p.used ++ (q.used ++ k)) (q.used ++ k) (Ok (more, k))
            (one_sees u _ _ (g.anywhere (p.used ++ (q.used ++ k)))) (g.steady m (p.used ++ (q.used ++ k)) le here)
            (begins n (P s) (f s) (fp s) mp (lp s) a _ _ (p.anywhere (q.used ++ k))) (p.steady m (q.used ++ k) le (ap head q.parts ∙ head_append q.used rest k e))
            (q.steady m turns k le e (omega (arith, length-append g.used (p.used ++ q.used), length-append p.used q.used)))))
            turns lt;
      })

  tail_found_by : (turns : ℕ) (s : S) (xs : List A) (ts rest : List T) → by_turns s n turns ts ≡ Ok (xs, rest) → TailFound n (T' s n) (by_turns s) xs ts rest
  tail_found_by zero s xs ts rest e = absurd (let no : stopped {T = T} {A = List A} ts ≡ stopped ts = refl in cc)
  tail_found_by (suc turns) s xs ts rest e =
      elim (way (sees (hits c) ts)) [
        | inl y ↦
            let d = bind_ok (read_one c ts) (λ u. λ x. cond (sees (fp s) x) ((f s n >>= λ a. read_tail_by c fp (λ s. f s n) step turns (step s a) >>= λ more. pure (a ∷ more)) x) (Ok ([], x))) xs rest (sym (by_true (sees (hits c) ts) _ _ y) ∙ e) in
            elim (way (sees (fp s) d.1)) [
              | inl z ↦
                  let i = bind_ok (f s n d.1) (λ a. read_tail_by c fp (λ s. f s n) step turns (step s a) >>= λ more. pure (a ∷ more)) xs rest (sym (by_true (sees (fp s) d.1) _ _ z) ∙ d.3) in
                  let b = bind_ok (by_turns (step s i.0) n turns i.1) (λ more. pure (i.0 ∷ more)) xs rest i.3 in
                  next turns s xs b.0 ts d.1 i.1 rest d.0 i.0 (sign_found d.0 ts d.1 d.2) ((lp s).found i.0 d.1 i.1 i.2)
                  (tail_found_by turns (step s i.0) b.0 i.1 rest (b.2 ∙ ap (λ (r : List T). Ok (b.0, r)) (got_rest (i.0 ∷ b.0) xs b.1 rest b.3))) (got_value (i.0 ∷ b.0) xs b.1 rest b.3)
              | inr z ↦ last d.0 d.1 (sign_found d.0 ts d.1 d.2) z (sym (by_false (sees (fp s) d.1) _ _ z) ∙ d.3)
            ]
        | inr y ↦ none y (sym (by_false (sees (hits c) ts) _ _ y) ∙ e)
      ]
    where
      none : sees (hits c) ts ≡ false → got {T = T} {A = List A} [] ts ≡ Ok (xs, rest) → TailFound n (T' s n) (by_turns s) xs ts rest
      none t e =
          let w : [] ≡ xs = got_value [] xs ts rest e in
          let same : ts ≡ rest = got_rest [] xs ts rest e in
          subst (λ xs. TailFound n (T' s n) (by_turns s) xs ts rest) w (record {
            used = [];
            parts = same;
            anywhere = λ k. inl refl;
            steady = λ m turns k le h lt.
                from_suc (λ turns. by_turns s m turns k ≡ Ok ([], k)) 0 (λ turns _. no_sign s m turns k (sym (same_sees (hits c) rest k h) ∙ ap (sees (hits c)) (sym same) ∙ t)) turns lt;
          })

      last : (u : C) (x : List T) → Sign u ts x → sees (fp s) x ≡ false → got {T = T} {A = List A} [] x ≡ Ok (xs, rest) → TailFound n (T' s n) (by_turns s) xs ts rest
      last u x g z e =
          let w : [] ≡ xs = got_value [] xs x rest e in
          let same : x ≡ rest = got_rest [] xs x rest e in
          subst (λ xs. TailFound n (T' s n) (by_turns s) xs ts rest) w (record {
            used = g.used;
            parts = g.parts ∙ ap (λ (r : List T). g.used ++ r) same;
            anywhere = λ k. inr (u, g.anywhere k);
            steady = λ m turns k le h lt.
                from_suc (λ turns. by_turns s m turns (g.used ++ k) ≡ Ok ([], k)) (length g.used)
                (λ turns _. last_sign s m turns u (g.used ++ k) k (one_sees u _ _ (g.anywhere k)) (g.steady m k le (ap head same ∙ h)) (sym (same_sees (fp s) rest k h) ∙ ap (sees (fp s)) (sym same) ∙ z)) turns lt;
          })

  bad : (turns : ℕ) (s : S) (ts x rest : List T) (u : C) → Sign u ts x → sees (fp s) x ≡ true → Stops n (P s) (f s) x rest → TailStops n (T' s) (by_turns s) ts rest
  bad turns s ts x rest u g z q = record {
    used = g.used ++ q.used;
    parts = g.parts ∙ ap (λ (r : List T). g.used ++ r) q.parts ∙ sym (append_assoc g.used q.used rest);
    completes = record {
      depth = q.completes.depth;
      by_ = q.completes.by_;
      value = q.completes.value ∷ [];
      gives = λ k. (u, q.used ++ (q.completes.by_ ++ k), rw append_assoc (g.anywhere (q.used ++ (q.completes.by_ ++ k))), k, q.completes.gives k, inl refl);
    };
    steady = λ m turns k le e lt.
        let here : SameHead x (q.used ++ k) = ap head q.parts ∙ head_append q.used rest k e in
        from_suc (λ turns. by_turns s m turns ((g.used ++ q.used) ++ k) ≡ Err (Refused k)) (length (g.used ++ q.used))
        (λ turns below_. rw append_assoc (bad_turn s m turns u (g.used ++ (q.used ++ k)) (q.used ++ k) k (one_sees u _ _ (g.anywhere (q.used ++ k))) (g.steady m (q.used ++ k) le here)
        (sym (ap (holds (fp s)) here) ∙ z) (q.steady m k le e)))
        turns lt;
  }

  later : (turns : ℕ) (s : S) (ts x mid rest : List T) (u : C) (a : A) → Sign u ts x → Found n (P s) (f s) a x mid → TailStops n (T' (step s a)) (by_turns (step s a)) mid rest → TailStops n (T' s) (by_turns s) ts rest
  later turns s ts x mid rest u a g p q = record {
    used = g.used ++ (p.used ++ q.used);
    parts = g.parts ∙ ap (λ (r : List T). g.used ++ r) (p.parts ∙ ap (λ (r : List T). p.used ++ r) q.parts) ∙ simp append_assoc;
    completes = record {
      depth = n + q.completes.depth;
      by_ = q.completes.by_;
      value = a ∷ q.completes.value;
      gives = λ k.
          let end : List T = q.completes.by_ ++ k in (
            u,
            p.used ++ (q.used ++ end),
            rw (append_assoc, append_assoc) (g.anywhere (p.used ++ (q.used ++ end))),
            q.used ++ end,
            raise (P s) (grows s) n _ a _ _ (omega arith) (p.anywhere (q.used ++ end)),
            raise (T' (step s a)) (tail_grows (step s a)) q.completes.depth _ q.completes.value _ _ (omega arith) (q.completes.gives k),
          );
    };
    steady = λ m turns k le e lt.
        let here : SameHead x (p.used ++ (q.used ++ k)) = ap head p.parts ∙ head_append p.used mid (q.used ++ k) (ap head q.parts ∙ head_append q.used rest k e) in
        let long : 0 < length p.used = item_short s a p.used (p.anywhere []) in
        from_suc (λ turns. by_turns s m turns ((g.used ++ (p.used ++ q.used)) ++ k) ≡ Err (Refused k)) (length (g.used ++ (p.used ++ q.used)))
        (λ turns below_. rw (append_assoc, append_assoc) (turn s m turns u a (g.used ++ (p.used ++ (q.used ++ k))) (p.used ++ (q.used ++ k)) (q.used ++ k) (Err (Refused k))
        (one_sees u _ _ (g.anywhere (p.used ++ (q.used ++ k)))) (g.steady m (p.used ++ (q.used ++ k)) le here)
        (begins n (P s) (f s) (fp s) mp (lp s) a _ _ (p.anywhere (q.used ++ k))) (p.steady m (q.used ++ k) le (ap head q.parts ∙ head_append q.used rest k e))
        (q.steady m turns k le e (omega (arith, length-append g.used (p.used ++ q.used), length-append p.used q.used)))))
        turns lt;
  }

  tail_refused_by : (turns : ℕ) (s : S) (ts rest : List T) → by_turns s n turns ts ≡ Err (Refused rest) → TailStops n (T' s) (by_turns s) ts rest
  tail_refused_by zero s ts rest e = absurd cc
  tail_refused_by (suc turns) s ts rest e =
      elim (way (sees (hits c) ts)) [
        | inl y ↦
            elim (bind_err (read_one c ts) (λ u. λ x. cond (sees (fp s) x) ((f s n >>= λ a. read_tail_by c fp (λ s. f s n) step turns (step s a) >>= λ more. pure (a ∷ more)) x) (Ok ([], x))) rest (sym (by_true (sees (hits c) ts) _ _ y) ∙ e)) [
              | inl d ↦ absurd (let no : sees (hits c) ts ≡ false = (one_stops c ts rest d).0 in cc)
              | inr d ↦ elim (way (sees (fp s) d.1)) [
                | inl z ↦ elim (bind_err (f s n d.1) (λ a. read_tail_by c fp (λ s. f s n) step turns (step s a) >>= λ more. pure (a ∷ more)) rest (sym (by_true (sees (fp s) d.1) _ _ z) ∙ d.3)) [
                  | inl i ↦ bad turns s ts d.1 rest d.0 (sign_found d.0 ts d.1 d.2) z ((lp s).refused d.1 rest i)
                  | inr i ↦ elim (bind_err (by_turns (step s i.0) n turns i.1) (λ more. pure (i.0 ∷ more)) rest i.3) [
                    | inl b ↦ later turns s ts d.1 i.1 rest d.0 i.0 (sign_found d.0 ts d.1 d.2) ((lp s).found i.0 d.1 i.1 i.2) (tail_refused_by turns (step s i.0) i.1 rest b)
                    | inr b ↦ absurd (let no : got {T = T} (i.0 ∷ b.0) b.1 ≡ Err (Refused rest) = b.3 in cc)
                  ]
                ]
                | inr z ↦ absurd (let no : got {T = T} {A = List A} [] d.1 ≡ Err (Refused rest) = sym (by_false (sees (fp s) d.1) _ _ z) ∙ d.3 in cc)
              ]
            ]
        | inr y ↦ absurd (let no : got {T = T} {A = List A} [] ts ≡ Err (Refused rest) = sym (by_false (sees (hits c) ts) _ _ y) ∙ e in cc)
      ]

  pub tail_lawful : (s : S) → Lawful n (λ m. tail c (λ s. P s m) step s) (λ m. read_tail c fp (λ s. f s m) step s) (hits c) (join true (hits c) (join true all mp)) true
  tail_lawful s = record {
    starts = tail_starts s;
    shrinks = λ xs ts rest h. omega (arith, tail_shrinks s xs ts rest h);
    only = λ xs ts rest h m. tail_only_by (suc (length ts)) s xs ts rest (omega (arith, tail_shrinks s xs ts rest h)) h m;
    found = λ xs ts rest e.
        let q = tail_found_by (suc (length ts)) s xs ts rest e in
        record { used = q.used; parts = q.parts; anywhere = q.anywhere; steady = λ m k le h. q.steady m (suc (length (q.used ++ k))) k le h (omega (arith, length-append q.used k)) };
    refused = λ ts rest e.
        let q = tail_refused_by (suc (length ts)) s ts rest e in
        record { used = q.used; parts = q.parts; completes = q.completes; steady = λ m k le h. q.steady m (suc (length (q.used ++ k))) k le h (omega (arith, length-append q.used k)) };
    some = record { depth = 0; by_ = []; value = []; gives = λ k. inl refl };
  }
