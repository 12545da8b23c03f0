-- One after the other, where the first one's value decides.
use Rattle.std.proofs.Common.{◌≡◌, ℕ, ◌+◌, ◌≤◌, Bool, true, false, ◌&&◌, List, [], ◌++◌, length, Ok, Err, refl, sym, ap, subst, ◌∙◌, append_assoc, arith, inl, inr, ◌⊎◌}
use Rattle.rd_parse.specs.Form.{Form, yields, bound}
use Rattle.rd_parse.specs.Reader.{Refused, Outcome, Reader, head, sees, ◌>>=◌, pure}
use Rattle.rd_parse.proofs.Laws.{Grows, Completes, Found, Stops, least, Lawful, got, got_value, got_rest, bind_ok, bind_err, head_append, raise, join, Apart, sees_left, sees_right, none_left, none_right, apart_sees, least_both}

-- ---- no token

pub yields_lawful : {T A : Type 0} (n : ℕ) (a : A) → Lawful {T = T} n (λ _. yields a) (λ _. pure a) (λ _. false) (λ _. false) true
yields_lawful {T} {A} n a = record {
  starts = λ b ts rest h. inr (refl, h.1);
  shrinks = λ b ts rest h. rw h.1 (omega arith);
  only = λ b ts rest h m. rw (h.0, h.1) refl;
  found = λ b ts rest e. record {
    used = [];
    parts = got_rest a b ts rest e;
    anywhere = λ k. (got_value a b ts rest e, refl);
    steady = λ m k le s. ap (λ (x : A). got x k) (got_value a b ts rest e);
  };
  refused = λ ts rest e. absurd (let no : got {T = T} a ts ≡ Err (Refused rest) = e in cc);
  some = record { depth = 0; by_ = []; value = a; gives = λ k. (refl, refl) };
}

-- ---- one after the other

module _ {T A B : Type 0} (n : ℕ) (P : ℕ → Form T A) (Q : A → ℕ → Form T B) (f : ℕ → Reader T A) (g : A → ℕ → Reader T B)
    (fp mp fq mq : T → Bool) (np nq : Bool) (grows_p : Grows P) (grows_q : (a : A) → Grows (Q a)) (apart : Apart fq mp)
    (lp : Lawful n P f fp mp np) (lq : (a : A) → Lawful n (Q a) (g a) fq mq nq) where
  abbrev W : ℕ → Form T B
  W m = bound (P m) (λ a. Q a m)

  abbrev R : ℕ → Reader T B
  R m = f m >>= λ a. g a m

  bound_starts : (b : B) (ts rest : List T) → W n b ts rest → (sees (join np fp fq) ts ≡ true) ⊎ (((np && nq) ≡ true) × (ts ≡ rest))
  bound_starts b ts rest h =
      elim (lp.starts h.0 ts h.1 h.2) [
        | inl s ↦ inl (sees_left np fp fq ts s)
        | inr e ↦ elim ((lq h.0).starts b h.1 rest h.3) [
          | inl s ↦ inl (subst (λ b. sees (join b fp fq) ts ≡ true) (sym e.0) (sees_right fp fq ts (ap (sees fq) e.1 ∙ s)))
          | inr d ↦ inr (rw (e.0, d.0) refl, e.1 ∙ d.1)
        ]
      ]

  bound_shrinks : (b : B) (ts rest : List T) → W n b ts rest → length rest + least (np && nq) ≤ length ts
  bound_shrinks b ts rest h = omega (arith, least_both np nq, lp.shrinks h.0 ts h.1 h.2, (lq h.0).shrinks b h.1 rest h.3)

  bound_mid : (a : A) (b : B) (mid rest : List T) → Q a n b mid rest → sees (join nq mq mp) rest ≡ false → sees mp mid ≡ false
  bound_mid a b mid rest q m =
      elim ((lq a).starts b mid rest q) [
        | inl s ↦ apart_sees fq mp apart mid s
        | inr e ↦ ap (sees mp) e.1 ∙ none_right mq mp rest (subst (λ b. sees (join b mq mp) rest ≡ false) e.0 m)
      ]

  bound_only : (b : B) (ts rest : List T) → W n b ts rest → sees (join nq mq mp) rest ≡ false → R n ts ≡ Ok (b, rest)
  bound_only b ts rest h m =
      let p : f n ts ≡ Ok (h.0, h.1) = lp.only h.0 ts h.1 h.2 (bound_mid h.0 b h.1 rest h.3 m) in
      let q : g h.0 n h.1 ≡ Ok (b, rest) = (lq h.0).only b h.1 rest h.3 (none_left nq mq mp rest m) in
      rw p q

  bound_run : (m : ℕ) (u1 u2 k : List T) (a : A) (r : Outcome T B) → f m (u1 ++ (u2 ++ k)) ≡ Ok (a, u2 ++ k) → g a m (u2 ++ k) ≡ r → R m ((u1 ++ u2) ++ k) ≡ r
  bound_run m u1 u2 k a r p q = rw (append_assoc, p) q

  bound_found : (b : B) (ts rest : List T) → R n ts ≡ Ok (b, rest) → Found n W R b ts rest
  bound_found b ts rest h =
      let d = bind_ok (f n ts) (λ a. g a n) b rest h in
      let p = lp.found d.0 ts d.1 d.2 in
      let q = (lq d.0).found b d.1 rest d.3 in
      record {
        used = p.used ++ q.used;
        parts = p.parts ∙ ap (λ (r : List T). p.used ++ r) q.parts ∙ sym (append_assoc p.used q.used rest);
        anywhere = λ k. (d.0, q.used ++ k, rw append_assoc (p.anywhere (q.used ++ k)), q.anywhere k);
        steady = λ m k le s.
            bound_run m p.used q.used k d.0 (Ok (b, k)) (p.steady m (q.used ++ k) le (ap head q.parts ∙ head_append q.used rest k s)) (q.steady m k le s);
      }

  bound_some : Completes W []
  bound_some =
      let v = lp.some.value in
      let q = (lq v).some in
      record {
        depth = lp.some.depth + q.depth;
        by_ = lp.some.by_ ++ q.by_;
        value = q.value;
        gives = λ k. (v, q.by_ ++ k, rw append_assoc (raise P grows_p lp.some.depth _ v _ _ (omega arith) (lp.some.gives (q.by_ ++ k))), raise (Q v) (grows_q v) q.depth _ q.value _ _ (omega arith) (q.gives k));
      }

  bound_refused : (ts rest : List T) → R n ts ≡ Err (Refused rest) → Stops n W R ts rest
  bound_refused ts rest h =
      elim (bind_err (f n ts) (λ a. g a n) rest h) [
        | inl e ↦ first (lp.refused ts rest e)
        | inr d ↦ second d.0 d.1 (lp.found d.0 ts d.1 d.2) ((lq d.0).refused d.1 rest d.3)
      ]
    where
      first : Stops n P f ts rest → Stops n W R ts rest
      first s =
          let v = s.completes.value in
          let q = (lq v).some in
          record {
            used = s.used;
            parts = s.parts;
            completes = record {
              depth = s.completes.depth + q.depth;
              by_ = s.completes.by_ ++ q.by_;
              value = q.value;
              gives = λ k. (v, q.by_ ++ k, rw append_assoc (raise P grows_p s.completes.depth _ v _ _ (omega arith) (s.completes.gives (q.by_ ++ k))), raise (Q v) (grows_q v) q.depth _ q.value _ _ (omega arith) (q.gives k));
            };
            steady = λ m k le e. rw (s.steady m k le e) refl;
          }

      second : (a : A) (mid : List T) → Found n P f a ts mid → Stops n (Q a) (g a) mid rest → Stops n W R ts rest
      second a mid p s = record {
        used = p.used ++ s.used;
        parts = p.parts ∙ ap (λ (r : List T). p.used ++ r) s.parts ∙ sym (append_assoc p.used s.used rest);
        completes = record {
          depth = n + s.completes.depth;
          by_ = s.completes.by_;
          value = s.completes.value;
          gives = λ k.
              (a, s.used ++ (s.completes.by_ ++ k), rw append_assoc (raise P grows_p n _ a _ _ (omega arith) (p.anywhere (s.used ++ (s.completes.by_ ++ k)))), raise (Q a) (grows_q a) s.completes.depth _ s.completes.value _ _ (omega arith) (s.completes.gives k));
        };
        steady = λ m k le e.
            bound_run m p.used s.used k a (Err (Refused k)) (p.steady m (s.used ++ k) le (ap head s.parts ∙ head_append s.used rest k e)) (s.steady m k le e);
      }

  pub bound_lawful : Lawful n (λ m. bound (P m) (λ a. Q a m)) (λ m. f m >>= λ a. g a m) (join np fp fq) (join nq mq mp) (np && nq)
  bound_lawful = record { starts = bound_starts; shrinks = bound_shrinks; only = bound_only; found = bound_found; refused = bound_refused; some = bound_some }
