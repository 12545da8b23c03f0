-- Values that pass a test are lawful, where each text whose value doesn't can be made longer to one that does.
use Rattle.std.proofs.Common.{◌≡◌, ℕ, Bool, true, false, List, [], ◌++◌, Ok, Err, refl, sym, ap, ◌∙◌, inl, inr}
use Rattle.rd_parse.specs.Form.{Form}
use Rattle.rd_parse.specs.Reader.{Refused, Reader, sees}
use Rattle.rd_parse.specs.Such.{such, passed, read_such}
use Rattle.rd_parse.proofs.Laws.{Completes, Found, Stops, Lawful, got, got_value, got_rest, stopped_rest, bind_ok, bind_err}

passed_ok : {T A : Type 0} (b : Bool) (a x : A) (mid rest : List T) → passed b a mid ≡ Ok (x, rest) → (b ≡ true) × (a ≡ x) × (mid ≡ rest)
passed_ok true a x mid rest e = (refl, got_value a x mid rest e, got_rest a x mid rest e)
passed_ok false a x mid rest e = absurd cc

passed_err : {T A : Type 0} (b : Bool) (a : A) (mid rest : List T) → passed b a mid ≡ Err (Refused rest) → (b ≡ false) × (mid ≡ rest)
passed_err true a mid rest e = absurd cc
passed_err {T} {A} false a mid rest e = (refl, stopped_rest A mid rest e)

module _ {T A : Type 0} (n : ℕ) (ok : A → Bool) (P : ℕ → Form T A) (f : ℕ → Reader T A) (fp mp : T → Bool) (np : Bool) (lp : Lawful n P f fp mp np)
    (longer : (used : List T) (a : A) → ((k : List T) → P n a (used ++ k) k) → Completes (λ m. such ok (P m)) used)
    (some : Completes (λ m. such ok (P m)) [])
    (completes : (used : List T) → Completes P used → Completes (λ m. such ok (P m)) used) where
  abbrev S : ℕ → Form T A
  S m = such ok (P m)

  abbrev R : ℕ → Reader T A
  R m = read_such ok (f m)

  such_only : (a : A) (ts rest : List T) → S n a ts rest → sees mp rest ≡ false → R n ts ≡ Ok (a, rest)
  such_only a ts rest h m = rw (lp.only a ts rest h.0 m, h.1) refl

  such_found : (a : A) (ts rest : List T) → R n ts ≡ Ok (a, rest) → Found n S R a ts rest
  such_found a ts rest e =
      let d = bind_ok (f n ts) (λ a rest. passed (ok a) a rest) a rest e in
      let b = passed_ok (ok d.0) d.0 a d.1 rest d.3 in
      let pass : ok a ≡ true = sym (ap ok b.1) ∙ b.0 in
      let s = lp.found a ts rest (d.2 ∙ ap (λ (x : A). got x d.1) b.1 ∙ ap (λ (r : List T). got a r) b.2) in
      record { used = s.used; parts = s.parts; anywhere = λ k. (s.anywhere k, pass); steady = λ m k le h. rw (s.steady m k le h, pass) refl }

  such_refused : (ts rest : List T) → R n ts ≡ Err (Refused rest) → Stops n S R ts rest
  such_refused ts rest e =
      elim (bind_err (f n ts) (λ a rest. passed (ok a) a rest) rest e) [
        | inl d ↦ stops (lp.refused ts rest d)
        | inr d ↦ let b = passed_err (ok d.0) d.0 d.1 rest d.3 in stale d.0 b.0 (lp.found d.0 ts rest (d.2 ∙ ap (λ (r : List T). got d.0 r) b.1))
      ]
    where
      stops : Stops n P f ts rest → Stops n S R ts rest
      stops t = record { used = t.used; parts = t.parts; completes = completes t.used t.completes; steady = λ m k le h. rw (t.steady m k le h) refl }

      stale : (a : A) → ok a ≡ false → Found n P f a ts rest → Stops n S R ts rest
      stale a fails s = record { used = s.used; parts = s.parts; completes = longer s.used a s.anywhere; steady = λ m k le h. rw (s.steady m k le h, fails) refl }

  pub such_lawful : Lawful n (λ m. such ok (P m)) (λ m. read_such ok (f m)) fp mp np
  such_lawful = record {
    starts = λ a ts rest h. lp.starts a ts rest h.0;
    shrinks = λ a ts rest h. lp.shrinks a ts rest h.0;
    only = such_only;
    found = such_found;
    refused = such_refused;
    some = some;
  }
