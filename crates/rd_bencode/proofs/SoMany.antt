-- Lists of so many digests are read exactly.
use Rattle.std.proofs.Common.{◌≡◌, ℕ, zero, suc, ◌+◌, ◌≤◌, List, [], ◌∷◌, ◌++◌, length, map, Ok, Err, refl, sym, ap, ◌∙◌, append_assoc, append-nil, arith}
use Rattle.std.proofs.lemmas.List.{length-append}
use Rattle.rd_base.specs.declared.digest.Digest.{Digest}
use Rattle.rd_value.specs.Canon.{joined}
use Rattle.rd_bencode.specs.declared.read.spot.Halt.{Halt}
use Rattle.rd_bencode.specs.declared.read.spot.Halt.TheVariants.{Memory, Refused}
use Rattle.rd_bencode.specs.ProperRecords.{AreDigests}
use Rattle.rd_bencode.specs.Reader.{Fails, Place, Outcome, and_then, pure, onto}
use Rattle.rd_bencode.specs.RecordReaders.{read_digest, read_so_many, read_digests}
use Rattle.rd_bencode.specs.Records.{digest_string, canon_digests}
use Rattle.rd_bencode.proofs.Exact.{Exact, exact_enclosed}
use Rattle.rd_bencode.proofs.ExactParts.{exact_digest}
use Rattle.rd_bencode.proofs.Steps.{along, bind_ok}
use Rattle.rd_bencode.proofs.Turns.{behind_one}
use Rattle.rd_bencode.proofs.ValuesOnly.{Reads, most}

-- ---- one turn of the loop

turn_by : (all : List Digest) (d : Digest) (n : ℕ) (s t : Place) → read_digest s ≡ Ok (d, t) → onto all (read_so_many (suc n)) s ≡ onto (all ++ d ∷ []) (read_so_many n) t
unfolding read_so_many
turn_by all d n s t e = rw e (behind_one all d (read_so_many n t))

pub many_turn : (all more : List Digest) (d : Digest) (m n : ℕ) (s t : Place) (target : Outcome (List Digest)) → read_digest s ≡ Ok (d, t) → more ≡ all ++ d ∷ [] → m ≡ suc n →
    onto all (read_so_many m) s ≡ target → onto more (read_so_many n) t ≡ target
many_turn all more d m n s t target e is fuel i = rw is (sym (turn_by all d n s t e) ∙ rw fuel at i)

halt_by : (all : List Digest) (n : ℕ) (s : Place) (e : List ℕ) → read_digest s ≡ Err e → onto all (read_so_many (suc n)) s ≡ Err e
unfolding read_so_many
halt_by all n s e h = rw h refl

pub many_fails : (all : List Digest) (m n : ℕ) (s : Place) (h : Halt) (target : Outcome (List Digest)) → Fails h (read_digest s) → m ≡ suc n → onto all (read_so_many m) s ≡ target → Fails h target
many_fails all m n s Memory target e fuel i = tt
many_fails all m n s (Refused r) target e fuel i = sym (rw fuel at i) ∙ halt_by all n s r.now e

end_by : (all : List Digest) (s : Place) → onto all (read_so_many 0) s ≡ Ok (all, s)
unfolding read_so_many
end_by all s = rw append-nil refl

pub many_ends : (all : List Digest) (m : ℕ) (s : Place) (target : Outcome (List Digest)) → m ≡ 0 → onto all (read_so_many m) s ≡ target → target ≡ Ok (all, s)
many_ends all m s target none i = sym (rw none at i) ∙ end_by all s

-- ---- all of them

abbrev spelled_digests : List Digest → List ℕ
spelled_digests ds = joined (map digest_string ds)

abbrev Found : ℕ → Place → List Digest × Place → Type 0
Found n s y = (s.0 ≡ spelled_digests y.0 ++ y.1.0) × AreDigests n y.0

many_found : (n : ℕ) (s : Place) (y : List Digest × Place) → read_so_many n s ≡ Ok y → Found n s y
unfolding read_so_many
many_found zero s y h = along (Found 0 s) ([], s) y h (refl, (refl, tt))
many_found (suc n) s y h =
    let a = bind_ok (read_digest s) (λ d. λ s. and_then (read_so_many n s) (λ more. pure (d ∷ more))) y h in
    let b = bind_ok (read_so_many n a.1) (λ more. pure (a.0 ∷ more)) y a.3 in
    let first = exact_digest.found s (a.0, a.1) a.2 in
    let rest = many_found n a.1 (b.0, b.1) b.2 in
    along (Found (suc n) s) (a.0 ∷ b.0, b.1) y b.3
    (first.0 ∙ (ap (λ r. digest_string a.0 ++ r) rest.0 ∙ sym (append_assoc (digest_string a.0) (spelled_digests b.0) b.1.0)), (ap suc rest.1.0, (first.1, rest.1.1)))

many_only : (n : ℕ) (ds : List Digest) (k : List ℕ) → AreDigests n ds → length (spelled_digests ds) ≤ most → Reads (read_so_many n) (spelled_digests ds ++ k) ds k
unfolding read_so_many
many_only zero [] k fine le last = (last, refl)
many_only zero (d ∷ ds) k fine le last = absurd (let bad : suc (length ds) ≡ 0 = fine.0 in omega (arith, bad))
many_only (suc n) [] k fine le last = absurd (let bad : 0 ≡ suc n = fine.0 in omega (arith, bad))
many_only (suc n) (d ∷ ds) k fine le last =
    let count : suc (length ds) ≡ suc n = fine.0 in
    let whole : length (spelled_digests (d ∷ ds)) ≡ length (digest_string d) + length (spelled_digests ds) = length-append (digest_string d) (spelled_digests ds) in
    let first = exact_digest.only d (spelled_digests ds ++ k) fine.1.0 (omega (arith, le, whole)) last in
    let rest = many_only n ds k (omega (arith, count), fine.1.1) (omega (arith, le, whole)) first.0 in
    let assoc : (digest_string d ++ spelled_digests ds) ++ k ≡ digest_string d ++ (spelled_digests ds ++ k) = append_assoc (digest_string d) (spelled_digests ds) k in
    (rest.0, rw (assoc, first.1, rest.1) refl)

exact_so_many : (n : ℕ) → Exact (read_so_many n) spelled_digests (AreDigests n)
exact_so_many n = record { found = many_found n; only = many_only n }

pub exact_digests : (n : ℕ) → Exact (read_digests n) canon_digests (AreDigests n)
unfolding read_digests
exact_digests n = exact_enclosed (read_so_many n) spelled_digests (AreDigests n) (exact_so_many n)
