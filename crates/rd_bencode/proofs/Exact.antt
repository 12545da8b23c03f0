-- Readers that read exactly the bytes of what they give.
use Rattle.std.proofs.Common.{◌≡◌, ℕ, zero, suc, ◌+◌, ◌≤◌, Bool, true, false, cond, List, [], ◌∷◌, ◌++◌, length, map, Option, Some, Ok, refl, sym, ap, subst, ◌∙◌, append_assoc, append-nil, arith}
use Rattle.std.proofs.lemmas.List.{length-append}
use Rattle.rd_value.specs.Canon.{joined}
use Rattle.rd_bencode.specs.Lists.{read_each_by, read_each, EachFits}
use Rattle.rd_bencode.specs.Reader.{Place, Outcome, Reader, and_then, pure, mean, check, begins_item, read_open, read_close}
use Rattle.rd_bencode.proofs.Steps.{got, along, bind_ok, read_open_found, read_close_found, mean_found, check_found}
use Rattle.rd_bencode.proofs.ValuesOnly.{Reads, most}

pub record Exact {A : Type 0} (p : Reader A) (spell : A → List ℕ) (Fine : A → Type 0) : Type 0 where
  pub found : (s : Place) (y : A × Place) → p s ≡ Ok y → (s.0 ≡ spell y.0 ++ y.1.0) × Fine y.0
  pub only : (a : A) (k : List ℕ) → Fine a → length (spell a) ≤ most → Reads p (spell a ++ k) a k

-- the same with the bytes and the condition in other words
pub exact_as : {A : Type 0} {p : Reader A} {sp tp : A → List ℕ} {F G : A → Type 0} → Exact p sp F → ((a : A) → F a → sp a ≡ tp a) → ((a : A) → F a → G a) → ((a : A) → G a → F a) → Exact p tp G
exact_as {A} {p} {sp} {tp} {F} {G} e same to from = record {
  found = λ s y h. let f = e.found s y h in (f.0 ∙ ap (λ b. b ++ y.1.0) (same y.0 f.1), to y.0 f.1);
  only = λ a k fine le. let is : sp a ≡ tp a = same a (from a fine) in subst (λ b. Reads p (b ++ k) a k) is (e.only a k (from a fine) (subst (λ b. length b ≤ most) (sym is) le));
}

-- ---- steps of a reader, each of which gives a part of what is read in the end

module _ {A D : Type 0} {p : Reader A} {f : A → Reader D} {sp : A → List ℕ} {F : A → Type 0} (get : D → A) {tail : D → List ℕ} {Known Rest : D → Type 0} where
  then_found : Exact p sp F → ((a : A) → F a → Exact (f a) tail (λ d. (Known d × (get d ≡ a)) × Rest d)) → (s : Place) (y : D × Place) → and_then (p s) f ≡ Ok y →
      (s.0 ≡ (sp (get y.0) ++ tail y.0) ++ y.1.0) × (Known y.0 × (F (get y.0) × Rest y.0))
  then_found one others s y h =
      let a = bind_ok (p s) f y h in
      let o = one.found s (a.0, a.1) a.2 in
      let r = (others a.0 o.1).found a.1 y a.3 in
      let bytes : s.0 ≡ (sp (get y.0) ++ tail y.0) ++ y.1.0 = o.0 ∙ (ap (λ x. sp a.0 ++ x) r.0 ∙ (ap (λ x. sp x ++ (tail y.0 ++ y.1.0)) (sym r.1.0.1) ∙ sym (append_assoc (sp (get y.0)) (tail y.0) y.1.0))) in
      (bytes, (r.1.0.0, (subst F (sym r.1.0.1) o.1, r.1.1)))

  then_only : Exact p sp F → ((a : A) → F a → Exact (f a) tail (λ d. (Known d × (get d ≡ a)) × Rest d)) → (d : D) (k : List ℕ) → Known d × (F (get d) × Rest d) → length (sp (get d) ++ tail d) ≤ most →
      Reads (λ s. and_then (p s) f) ((sp (get d) ++ tail d) ++ k) d k
  then_only one others d k fine le last =
      let size : length (sp (get d) ++ tail d) ≡ length (sp (get d)) + length (tail d) = length-append (sp (get d)) (tail d) in
      let o = one.only (get d) (tail d ++ k) fine.1.0 (omega (arith, le, size)) last in
      let r = (others (get d) fine.1.0).only d k ((fine.0, refl), fine.1.1) (omega (arith, le, size)) o.0 in
      let assoc : (sp (get d) ++ tail d) ++ k ≡ sp (get d) ++ (tail d ++ k) = append_assoc (sp (get d)) (tail d) k in
      (r.0, rw (assoc, o.1, r.1) refl)

  pub exact_given : Exact p sp F → ((a : A) → F a → Exact (f a) tail (λ d. (Known d × (get d ≡ a)) × Rest d)) → Exact (λ s. and_then (p s) f) (λ d. sp (get d) ++ tail d) (λ d. Known d × (F (get d) × Rest d))
  exact_given one others = record { found = then_found one others; only = then_only one others }

  pub exact_then : Exact p sp F → ((a : A) → Exact (f a) tail (λ d. (Known d × (get d ≡ a)) × Rest d)) → Exact (λ s. and_then (p s) f) (λ d. sp (get d) ++ tail d) (λ d. Known d × (F (get d) × Rest d))
  exact_then one others = exact_given one (λ a fine. others a)

module _ {D : Type 0} (b : Bool) (f : Unit {0} → Reader D) (tail : D → List ℕ) (Known Rest : D → Type 0) (test : D → Bool) (same : (d : D) → Known d → test d ≡ b) where
  test_found : ((u : Unit {0}) → Exact (f u) tail (λ d. Known d × Rest d)) → (s : Place) (y : D × Place) → and_then (check b s) f ≡ Ok y → (s.0 ≡ tail y.0 ++ y.1.0) × (Known y.0 × ((test y.0 ≡ true) × Rest y.0))
  test_found others s y h =
      let a = bind_ok (check b s) f y h in
      let c = check_found b s (a.0, a.1) a.2 in
      let r = (others a.0).found a.1 y a.3 in
      (ap (λ (p : Place). p.0) c.1 ∙ r.0, (r.1.0, (same y.0 r.1.0 ∙ c.0, r.1.1)))

  test_only : ((u : Unit {0}) → Exact (f u) tail (λ d. Known d × Rest d)) → (d : D) (k : List ℕ) → Known d × ((test d ≡ true) × Rest d) → length (tail d) ≤ most → Reads (λ s. and_then (check b s) f) (tail d ++ k) d k
  test_only others d k fine le last =
      let yes : b ≡ true = sym (same d fine.0) ∙ fine.1.0 in
      let r = (others tt).only d k (fine.0, fine.1.1) le last in
      (r.0, rw (yes, r.1) refl)

  pub exact_test : ((u : Unit {0}) → Exact (f u) tail (λ d. Known d × Rest d)) → Exact (λ s. and_then (check b s) f) tail (λ d. Known d × ((test d ≡ true) × Rest d))
  exact_test others = record { found = test_found others; only = test_only others }

pub exact_end : {D : Type 0} (x : D) (Known : D → Type 0) → Known x → ((d : D) → Known d → d ≡ x) → Exact (pure x) (λ d. []) (λ d. Known d × Unit {0})
exact_end {D} x Known known is = record {
  found = λ s y h. along (λ (y : D × Place). (s.0 ≡ [] ++ y.1.0) × (Known y.0 × Unit {0})) (x, s) y h (refl, (known, tt));
  only = λ d k fine le last. (last, ap (λ (z : D). got (z, (k, last))) (sym (is d fine.0)));
}

-- ---- what an item means

module _ {A D : Type 0} (p : Reader A) (o : A → Option D) (sp : A → List ℕ) (F : A → Type 0) (back : D → A) (Fine : D → Type 0) where
  mean_read : Exact p sp F → ((a : A) (d : D) → F a → o a ≡ Some d → (a ≡ back d) × Fine d) → (s : Place) (y : D × Place) → and_then (p s) (λ a. mean (o a)) ≡ Ok y → (s.0 ≡ sp (back y.0) ++ y.1.0) × Fine y.0
  mean_read one means s y h =
      let a = bind_ok (p s) (λ a. mean (o a)) y h in
      let r = one.found s (a.0, a.1) a.2 in
      let m = mean_found (o a.0) a.1 y a.3 in
      let w = means a.0 y.0 r.1 m.0 in
      (r.0 ∙ (ap (λ x. sp x ++ a.1.0) w.0 ∙ ap (λ (p : Place). sp (back y.0) ++ p.0) m.1), w.1)

  mean_only : Exact p sp F → ((d : D) → Fine d → F (back d) × (o (back d) ≡ Some d)) → (d : D) (k : List ℕ) → Fine d → length (sp (back d)) ≤ most → Reads (λ s. and_then (p s) (λ a. mean (o a))) (sp (back d) ++ k) d k
  mean_only one meant d k fine le last =
      let w = meant d fine in
      let r = one.only (back d) k w.0 le last in
      (r.0, rw (r.1, w.1) refl)

  pub exact_mean : Exact p sp F → ((a : A) (d : D) → F a → o a ≡ Some d → (a ≡ back d) × Fine d) → ((d : D) → Fine d → F (back d) × (o (back d) ≡ Some d)) → Exact (λ s. and_then (p s) (λ a. mean (o a))) (λ d. sp (back d)) Fine
  exact_mean one means meant = record { found = mean_read one means; only = mean_only one meant }

-- ---- the begin and the end of a list

pub exact_open : Exact read_open (λ u. 108 ∷ []) (λ u. Unit {0})
exact_open = record { found = λ s y h. (read_open_found s y h, tt); only = λ a k fine le last. (108 ∷ k, refl) }

pub exact_close : Exact read_close (λ u. 101 ∷ []) (λ u. Unit {0})
exact_close = record { found = λ s y h. (read_close_found s y h, tt); only = λ a k fine le last. (last, refl) }

-- ---- lists

module _ {S A : Type 0} (p : S → Reader A) (after : S → A → S) (sp : A → List ℕ) (Fits : S → A → Type 0) where
  each_found : ((st : S) → Exact (p st) sp (Fits st)) → (m : ℕ) (st : S) (s : Place) (y : List A × Place) → read_each_by p after m st s ≡ Ok y → (s.0 ≡ joined (map sp y.0) ++ y.1.0) × EachFits Fits after st y.0
  each_found one zero st s y h = along (λ (y : List A × Place). (s.0 ≡ joined (map sp y.0) ++ y.1.0) × EachFits Fits after st y.0) ([], s) y h (refl, tt)
  each_found one (suc m) st s y h = by_test (λ st. each_found one m st) (begins_item s.0) h
    where
      by_test : ((st : S) (s : Place) (y : List A × Place) → read_each_by p after m st s ≡ Ok y → (s.0 ≡ joined (map sp y.0) ++ y.1.0) × EachFits Fits after st y.0) → (b : Bool) →
          cond b (and_then (p st s) (λ a. λ s. and_then (read_each_by p after m (after st a) s) (λ more. pure (a ∷ more)))) (let r : Outcome (List A) = Ok ([], s) in r) ≡ Ok y → (s.0 ≡ joined (map sp y.0) ++ y.1.0) × EachFits Fits after st y.0
      by_test others false h = along (λ (y : List A × Place). (s.0 ≡ joined (map sp y.0) ++ y.1.0) × EachFits Fits after st y.0) ([], s) y h (refl, tt)
      by_test others true h =
          let a = bind_ok (p st s) (λ a. λ s. and_then (read_each_by p after m (after st a) s) (λ more. pure (a ∷ more))) y h in
          let b = bind_ok (read_each_by p after m (after st a.0) a.1) (λ more. pure (a.0 ∷ more)) y a.3 in
          let first = (one st).found s (a.0, a.1) a.2 in
          let rest = others (after st a.0) a.1 (b.0, b.1) b.2 in
          along (λ (y : List A × Place). (s.0 ≡ joined (map sp y.0) ++ y.1.0) × EachFits Fits after st y.0) (a.0 ∷ b.0, b.1) y b.3
          (first.0 ∙ (ap (λ r. sp a.0 ++ r) rest.0 ∙ sym (append_assoc (sp a.0) (joined (map sp b.0)) b.1.0)), (first.1, rest.1))

  -- each item begins as items do
  abbrev pub Begin : Type 0
  Begin = (st : S) (a : A) (k : List ℕ) → Fits st a → length (sp a) ≤ most → begins_item (sp a ++ k) ≡ true

  no_empty : Begin → (st : S) (a : A) → Fits st a → length (sp a) ≤ most → 1 ≤ length (sp a)
  no_empty begin st a fits le = by_list (sp a) (begin st a [] fits le)
    where
      by_list : (bs : List ℕ) → begins_item (bs ++ []) ≡ true → 1 ≤ length bs
      by_list [] h = absurd (let bad : false ≡ true = h in cc)
      by_list (b ∷ bs) h = omega arith

  more_bytes : Begin → (st : S) (xs : List A) → EachFits Fits after st xs → length (joined (map sp xs)) ≤ most → length xs ≤ length (joined (map sp xs))
  more_bytes begin st [] hs le = omega arith
  more_bytes begin st (x ∷ xs) hs le =
      let whole : length (joined (map sp (x ∷ xs))) ≡ length (sp x) + length (joined (map sp xs)) = length-append (sp x) (joined (map sp xs)) in
      omega (arith, whole, le, no_empty begin st x hs.0 (omega (arith, le, whole)), more_bytes begin (after st x) xs hs.1 (omega (arith, le, whole)))

  each_only : ((st : S) → Exact (p st) sp (Fits st)) → Begin → (m : ℕ) (st : S) (xs : List A) (k : List ℕ) → EachFits Fits after st xs → length xs ≤ m → length (joined (map sp xs)) ≤ most →
      Reads (read_each_by p after m st) (joined (map sp xs) ++ (101 ∷ k)) xs (101 ∷ k)
  each_only one begin zero st [] k hs fuel le last = (last, refl)
  each_only one begin zero st (x ∷ xs) k hs fuel le last = absurd (omega arith)
  each_only one begin (suc m) st [] k hs fuel le last = (last, refl)
  each_only one begin (suc m) st (x ∷ xs) k hs fuel le last =
      let whole : length (joined (map sp (x ∷ xs))) ≡ length (sp x) + length (joined (map sp xs)) = length-append (sp x) (joined (map sp xs)) in
      let behind : List ℕ = joined (map sp xs) ++ (101 ∷ k) in
      let first = (one st).only x behind hs.0 (omega (arith, le, whole)) last in
      let rest = each_only one begin m (after st x) xs k hs.1 (omega (arith, fuel)) (omega (arith, le, whole)) first.0 in
      let assoc : (sp x ++ joined (map sp xs)) ++ (101 ∷ k) ≡ sp x ++ behind = append_assoc (sp x) (joined (map sp xs)) (101 ∷ k) in
      let begins : begins_item (sp x ++ behind) ≡ true = begin st x behind hs.0 (omega (arith, le, whole)) in
      (rest.0, rw (assoc, begins, first.1, rest.1) refl)

  -- a list between its begin and its end
  abbrev pub read_listed : S → Reader (List A)
  read_listed st = λ s. and_then (read_open s) (λ a. λ s. and_then (read_each p after st s) (λ xs. λ s. and_then (read_close s) (λ b. pure xs)))

  abbrev pub spelled_list : List A → List ℕ
  spelled_list xs = 108 ∷ (joined (map sp xs) ++ (101 ∷ []))

  listed_found : ((st : S) → Exact (p st) sp (Fits st)) → (st : S) (s : Place) (y : List A × Place) → read_listed st s ≡ Ok y → (s.0 ≡ spelled_list y.0 ++ y.1.0) × EachFits Fits after st y.0
  listed_found one st s y h =
      let a = bind_ok (read_open s) (λ a. λ s. and_then (read_each p after st s) (λ xs. λ s. and_then (read_close s) (λ b. pure xs))) y h in
      let b = bind_ok (read_each p after st a.1) (λ xs. λ s. and_then (read_close s) (λ b. pure xs)) y a.3 in
      let d = bind_ok (read_close b.1) (λ u. pure b.0) y b.3 in
      let o = read_open_found s (a.0, a.1) a.2 in
      let m = each_found one (length a.1.0) st a.1 (b.0, b.1) b.2 in
      let c = read_close_found b.1 (d.0, d.1) d.2 in
      along (λ (y : List A × Place). (s.0 ≡ spelled_list y.0 ++ y.1.0) × EachFits Fits after st y.0) (b.0, d.1) y d.3
      (o ∙ ap (λ r. 108 ∷ r) (m.0 ∙ (ap (λ r. joined (map sp b.0) ++ r) c ∙ sym (append_assoc (joined (map sp b.0)) (101 ∷ []) d.1.0))), m.1)

  listed_only : ((st : S) → Exact (p st) sp (Fits st)) → Begin → (st : S) (xs : List A) (k : List ℕ) → EachFits Fits after st xs → length (spelled_list xs) ≤ most → Reads (read_listed st) (spelled_list xs ++ k) xs k
  listed_only one begin st xs k hs le last =
      let bytes : List ℕ = joined (map sp xs) in
      let size : length (bytes ++ (101 ∷ [])) ≡ length bytes + 1 = length-append bytes (101 ∷ []) in
      let more : length (bytes ++ (101 ∷ k)) ≡ length bytes + length (101 ∷ k) = length-append bytes (101 ∷ k) in
      let small : length bytes ≤ most = omega (arith, le, size) in
      let m = each_only one begin (length (bytes ++ (101 ∷ k))) st xs k hs (omega (arith, more, more_bytes begin st xs hs small)) small (108 ∷ (bytes ++ (101 ∷ k))) in
      let assoc : (bytes ++ (101 ∷ [])) ++ k ≡ bytes ++ (101 ∷ k) = append_assoc bytes (101 ∷ []) k in
      (m.0, rw (assoc, m.1) refl)

  pub exact_list : ((st : S) → Exact (p st) sp (Fits st)) → Begin → (st : S) → Exact (read_listed st) spelled_list (EachFits Fits after st)
  exact_list one begin st = record { found = listed_found one st; only = listed_only one begin st }

-- ---- whole inputs, and the laws of canonical bytes

module _ {A : Type 0} (p : Reader A) (sp : A → List ℕ) (F : A → Type 0) (e : Exact p sp F) where
  read_twice : (a b : A) (k j l m : List ℕ) (r : Outcome A) → r ≡ Ok (a, (k, l)) → r ≡ Ok (b, (j, m)) → a ≡ b
  read_twice a b k j l m r x y = let is : (let z : A × Place = (a, (k, l)) in z) ≡ (b, (j, m)) = cc in ap (λ (z : A × Place). z.0) is

  pub begins_one : (a b : A) (more : List ℕ) → F a → F b → length (sp b) ≤ most → sp a ++ more ≡ sp b → a ≡ b
  begins_one a b more fa fb small is =
      let size : length (sp a) + length more ≡ length (sp b) = sym (length-append (sp a) more) ∙ ap length is in
      let x = e.only a more fa (omega (arith, small, size)) [] in
      let y = e.only b [] fb small [] in
      read_twice a b more [] x.0 y.0 (p (sp a ++ more, [])) x.1 (ap (λ z. p (z, [])) (is ∙ sym (append-nil (sp b))) ∙ y.1)

  pub apart : (a b : A) → F a → F b → length (sp a) ≤ most → sp a ≡ sp b → a ≡ b
  apart a b fa fb small is = begins_one a b [] fa fb (subst (λ x. length x ≤ most) is small) (append-nil (sp a) ∙ is)

-- ---- often used shapes

-- what is read, where it passes a test
module _ {A : Type 0} (p : Reader A) (sp : A → List ℕ) (F : A → Type 0) (test : A → Bool) where
  pub exact_tested : Exact p sp F → Exact (λ s. and_then (p s) (λ a. λ s. and_then (check (test a) s) (λ u. pure a))) sp (λ a. F a × (test a ≡ true))
  exact_tested one =
      exact_as
      (exact_then (λ d. d) one
      (λ a. exact_test (test a) (λ u. pure a) (λ d. []) (λ d. Unit {0} × (d ≡ a)) (λ d. Unit {0}) test (λ d k. ap test k.1)
      (λ u. exact_end a (λ d. Unit {0} × (d ≡ a)) (tt, refl) (λ d k. k.1))))
      (λ a f. append-nil (sp a))
      (λ a f. (f.1.0, f.1.1.0))
      (λ a f. (tt, (f.0, (f.1, tt))))

-- what stands between the begin and the end of a list
module _ {A : Type 0} (p : Reader A) (sp : A → List ℕ) (F : A → Type 0) where
  abbrev pub read_enclosed : Reader A
  read_enclosed = λ s. and_then (read_open s) (λ u. λ s. and_then (p s) (λ a. λ s. and_then (read_close s) (λ v. pure a)))

  pub exact_enclosed : Exact p sp F → Exact read_enclosed (λ a. 108 ∷ (sp a ++ (101 ∷ []))) F
  exact_enclosed one =
      exact_as
      (exact_then (λ d. tt) exact_open
      (λ u. exact_then (λ d. d) one
      (λ a. exact_then (λ d. tt) exact_close
      (λ v. exact_end a (λ d. ((Unit {0} × (tt ≡ u)) × (d ≡ a)) × (tt ≡ v)) (((tt, refl), refl), refl) (λ d k. k.0.1)))))
      (λ d f. refl)
      (λ d f. f.1.1.0)
      (λ d f. (tt, (tt, (f, (tt, tt)))))

-- two parts of a list of two
module _ {A B : Type 0} (p : Reader A) (q : Reader B) (sp : A → List ℕ) (sq : B → List ℕ) (F : A → Type 0) (G : B → Type 0) where
  abbrev pub read_two : Reader (A × B)
  read_two = λ s. and_then (read_open s) (λ u. λ s. and_then (p s) (λ a. λ s. and_then (q s) (λ b. λ s. and_then (read_close s) (λ v. pure (a, b)))))

  two_bytes : (x y : List ℕ) → (108 ∷ []) ++ (x ++ (y ++ ((101 ∷ []) ++ []))) ≡ 108 ∷ ((x ++ y) ++ (101 ∷ []))
  two_bytes x y = simp append_assoc

  pub exact_two : Exact p sp F → Exact q sq G → Exact read_two (λ x. 108 ∷ ((sp x.0 ++ sq x.1) ++ (101 ∷ []))) (λ x. F x.0 × G x.1)
  exact_two one other =
      exact_as
      (exact_then (λ d. tt) exact_open
      (λ u. exact_then (λ d. d.0) one
      (λ a. exact_then (λ d. d.1) other
      (λ b. exact_then (λ d. tt) exact_close
      (λ v. exact_end (a, b) (λ d. (((Unit {0} × (tt ≡ u)) × (d.0 ≡ a)) × (d.1 ≡ b)) × (tt ≡ v)) ((((tt, refl), refl), refl), refl) (λ d k. λ i. (k.0.0.1 i, k.0.1 i)))))))
      (λ d f. two_bytes (sp d.0) (sq d.1))
      (λ d f. (f.1.1.0, f.1.1.1.0))
      (λ d f. (tt, (tt, (f.0, (f.1, (tt, tt))))))
