-- What is told of the tokens of a text is lawful.
use Rattle.std.proofs.Common.{◌≡◌, ℕ, ◌-◌, Bool, false, List, [], ◌∷◌, ◌++◌, length, Ok, Err, refl, sym, ap, ◌∙◌, arith, inl, inr, length-append, append_assoc, subst}
use Rattle.std.specs.Prelude.{take}
use Rattle.rd_parse.specs.Form.{Form}
use Rattle.rd_parse.specs.Reader.{Refused, Reader, sees}
use Rattle.rd_parse.specs.Noting.{every, noting, before, read_noting}
use Rattle.rd_parse.proofs.Laws.{Completes, Found, Stops, Lawful, got, got_value, got_rest, bind_ok, bind_err}

take_all : {T : Type 0} (used rest : List T) → take (length used) (used ++ rest) ≡ used
take_all [] rest = refl
take_all (t ∷ used) rest = ap (λ ts. t ∷ ts) (take_all used rest)

pub before_append : {T : Type 0} (used rest : List T) → before (used ++ rest) rest ≡ used
before_append used rest =
    let n : length (used ++ rest) - length rest ≡ length used = omega (arith, length-append used rest) in
    ap (λ n. take n (used ++ rest)) n ∙ take_all used rest

module _ {T A : Type 0} (n : ℕ) (s : T → Bool) (P : ℕ → Form T A) (f : ℕ → Reader T A) (fp mp : T → Bool) (np : Bool) (lp : Lawful n P f fp mp np) where
  abbrev N : ℕ → Form T (Bool × A)
  N m = noting s (P m)

  abbrev R : ℕ → Reader T (Bool × A)
  R m = read_noting s (f m)

  run : (m : ℕ) (used k : List T) (a : A) → f m (used ++ k) ≡ Ok (a, k) → R m (used ++ k) ≡ Ok ((every s used, a), k)
  run m used k a e = rw e (ap (λ (b : List T). got (every s b, a) k) (before_append used k))

  noting_only : (x : Bool × A) (ts rest : List T) → N n x ts rest → sees mp rest ≡ false → R n ts ≡ Ok (x, rest)
  noting_only x ts rest h m =
      let e : f n (h.0 ++ rest) ≡ Ok (x.1, rest) = ap (f n) (sym h.1) ∙ lp.only x.1 ts rest h.3 m in
      ap (R n) h.1 ∙ run n h.0 rest x.1 e ∙ ap (λ b. got (b, x.1) rest) h.2

  noting_found : (x : Bool × A) (ts rest : List T) → R n ts ≡ Ok (x, rest) → Found n N R x ts rest
  noting_found x ts rest e =
      let d = bind_ok (f n ts) (λ a rest. Ok ((every s (before ts rest), a), rest)) x rest e in
      let same : d.1 ≡ rest = got_rest (every s (before ts d.1), d.0) x d.1 rest d.3 in
      let value : (every s (before ts d.1), d.0) ≡ x = got_value (every s (before ts d.1), d.0) x d.1 rest d.3 in
      let a = lp.found d.0 ts rest (d.2 ∙ ap (λ (r : List T). got d.0 r) same) in
      let all : every s a.used ≡ every s (before ts d.1) = ap (every s) (sym (before_append a.used rest) ∙ ap (λ (ts : List T). before ts rest) (sym a.parts) ∙ ap (before ts) (sym same)) in
      let whole : (every s a.used, d.0) ≡ x = ap (λ (b : Bool). (b, d.0)) all ∙ value in
      subst (λ (x : Bool × A). Found n N R x ts rest) whole (record { used = a.used; parts = a.parts; anywhere = λ k. (a.used, refl, refl, a.anywhere k); steady = λ m k le h. run m a.used k d.0 (a.steady m k le h) })

  noting_completes : (used : List T) → Completes P used → Completes N used
  noting_completes used c = record {
    depth = c.depth;
    by_ = c.by_;
    value = (every s (used ++ c.by_), c.value);
    gives = λ k. (used ++ c.by_, sym (append_assoc used c.by_ k), refl, c.gives k);
  }

  noting_refused : (ts rest : List T) → R n ts ≡ Err (Refused rest) → Stops n N R ts rest
  noting_refused ts rest e =
      elim (bind_err (f n ts) (λ a rest. Ok ((every s (before ts rest), a), rest)) rest e) [
        | inl d ↦ stops (lp.refused ts rest d)
        | inr d ↦ absurd (let no : got {T = T} (every s (before ts d.1), d.0) d.1 ≡ Err (Refused rest) = d.3 in cc)
      ]
    where
      stops : Stops n P f ts rest → Stops n N R ts rest
      stops t = record {
        used = t.used;
        parts = t.parts;
        completes = noting_completes t.used t.completes;
        steady = λ m k le h. rw (t.steady m k le h) refl;
      }

  pub noting_lawful : Lawful n (λ m. noting s (P m)) (λ m. read_noting s (f m)) fp mp np
  noting_lawful = record {
    starts = λ x ts rest h. lp.starts x.1 ts rest h.3;
    shrinks = λ x ts rest h. lp.shrinks x.1 ts rest h.3;
    only = noting_only;
    found = noting_found;
    refused = noting_refused;
    some = noting_completes [] lp.some;
  }
