-- Footprints are read exactly.
use Rattle.std.proofs.Common.{◌≡◌, ℕ, ◌^◌, ◌<◌, ◌≤◌, ◌==◌, Bool, true, false, cond, List, [], ◌∷◌, ◌++◌, length, map, codes, Option, Some, None, Ok, refl, subst, append_assoc, arith}
use Rattle.std.specs.Str.{IsUtf8}
use Rattle.rd_base.specs.declared.seen.Seen.{Seen}
use Rattle.rd_base.specs.declared.seen.Seen.TheVariants.{Absent, Long, Held}
use Rattle.rd_value.specs.Canon.{string}
use Rattle.rd_bencode.specs.declared.record.Footprint.{Footprint}
use Rattle.rd_bencode.specs.ProperRecords.{IsDigest, IsPathText, IsTask, AreTasks, IsSeen, IsInput, AreInputs, IsProperFootprint}
use Rattle.rd_bencode.specs.Reader.{Place, pure}
use Rattle.rd_bencode.specs.RecordReaders.{is_above, key_of, mark_of, read_natural, read_mark, read_held, read_seen, read_digest, read_name_above, read_path_above, read_task, read_tasks, read_input_seen, read_inputs, read_footprint}
use Rattle.rd_bencode.specs.Records.{number, digest_string, under_digest, seen, seen_path, listed, canon_writes, canon_footprint}
use Rattle.rd_bencode.specs.Values.{begins_with}
use Rattle.rd_bencode.proofs.Exact.{Exact, exact_as, exact_then, exact_end, exact_mean, exact_open, exact_close, exact_list, exact_two}
use Rattle.rd_bencode.proofs.ExactLists.{exact_writes}
use Rattle.rd_bencode.proofs.ExactParts.{exact_digest, exact_name_above, exact_path_above}
use Rattle.rd_bencode.proofs.Naturals.{exact_natural}
use Rattle.rd_bencode.proofs.Steps.{along, bind_ok, same_number}
use Rattle.rd_bencode.proofs.ValuesOnly.{Reads, most, string_longer, string_begins, digit_is_not}

-- ---- what stood at a path

mark_number : Seen → ℕ
mark_number Absent = 0
mark_number Long = 1
mark_number (Held d) = 2

abbrev IsMark : Seen → Type 0
IsMark (Held d) = ⊥
IsMark _ = Unit {0}

abbrev IsHeld : Seen → Type 0
IsHeld (Held d) = IsDigest d
IsHeld _ = ⊥

mark_one : (n : ℕ) (d : Seen) (b : Bool) → (n == 1) ≡ b → cond b (Some Long) None ≡ Some d → (n ≡ mark_number d) × IsMark d
unfolding mark_number
mark_one n d true e h = let p : Long ≡ d = cc in subst (λ d. (n ≡ mark_number d) × IsMark d) p (same_number n 1 e, tt)
mark_one n d false e h = absurd cc

mark_zero : (n : ℕ) (d : Seen) (b : Bool) → (n == 0) ≡ b → cond b (Some Absent) (cond (n == 1) (Some Long) None) ≡ Some d → (n ≡ mark_number d) × IsMark d
unfolding mark_number
mark_zero n d true e h = let p : Absent ≡ d = cc in subst (λ d. (n ≡ mark_number d) × IsMark d) p (same_number n 0 e, tt)
mark_zero n d false e h = mark_one n d (n == 1) refl h

mark_is : (d : Seen) → IsMark d → (mark_number d < 2 ^ 64) × (mark_of (mark_number d) ≡ Some d)
unfolding mark_number
mark_is Absent fine = (omega arith, refl)
mark_is Long fine = (omega arith, refl)
mark_is (Held d) fine = absurd fine

mark_spelled : (d : Seen) → IsMark d → number (mark_number d) ≡ seen d
unfolding mark_number
mark_spelled Absent fine = refl
mark_spelled Long fine = refl
mark_spelled (Held d) fine = absurd fine

exact_mark : Exact read_mark seen IsMark
unfolding read_mark
exact_mark =
    exact_as (exact_mean read_natural mark_of number (λ n. n < 2 ^ 64) mark_number IsMark exact_natural (λ n d fine h. mark_zero n d (n == 0) refl h) mark_is)
    mark_spelled (λ d f. f) (λ d f. f)

held_only : (d : Seen) (k : List ℕ) → IsHeld d → length (seen d) ≤ most → Reads read_held (seen d ++ k) d k
unfolding read_held
held_only Absent k fine le last = absurd fine
held_only Long k fine le last = absurd fine
held_only (Held d) k fine le last = let g = exact_digest.only d k fine le last in (g.0, rw g.1 refl)

exact_held : Exact read_held seen IsHeld
unfolding read_held
exact_held = record {
  found = λ s y h.
      let a = bind_ok (read_digest s) (λ digest. pure (Held digest)) y h in
      let r = exact_digest.found s (a.0, a.1) a.2 in
      along (λ (y : Seen × Place). (s.0 ≡ seen y.0 ++ y.1.0) × IsHeld y.0) (Held a.0, a.1) y a.3 (r.0, r.1);
  only = held_only;
}

mark_seen : (d : Seen) → IsMark d → IsSeen d
mark_seen Absent fine = tt
mark_seen Long fine = tt
mark_seen (Held d) fine = absurd fine

held_seen : (d : Seen) → IsHeld d → IsSeen d
held_seen Absent fine = tt
held_seen Long fine = tt
held_seen (Held d) fine = fine

seen_found : (s : Place) (y : Seen × Place) → read_seen s ≡ Ok y → (s.0 ≡ seen y.0 ++ y.1.0) × IsSeen y.0
unfolding read_seen
seen_found s y h = by_test (begins_with 105 s.0) h
  where
    by_test : (b : Bool) → cond b (read_mark s) (read_held s) ≡ Ok y → (s.0 ≡ seen y.0 ++ y.1.0) × IsSeen y.0
    by_test true h = let r = exact_mark.found s y h in (r.0, mark_seen y.0 r.1)
    by_test false h = let r = exact_held.found s y h in (r.0, held_seen y.0 r.1)

seen_only : (d : Seen) (k : List ℕ) → IsSeen d → length (seen d) ≤ most → Reads read_seen (seen d ++ k) d k
unfolding read_seen
seen_only Absent k fine le last = exact_mark.only Absent k tt le last
seen_only Long k fine le last = exact_mark.only Long k tt le last
seen_only (Held d) k fine le last =
    let b = string_begins d.0 k (omega (arith, le, string_longer d.0)) in
    let no_integer : begins_with 105 (string d.0 ++ k) ≡ false = rw b.2 (digit_is_not b.0 105 refl b.3) in
    let g = exact_held.only (Held d) k fine le last in
    (g.0, rw (no_integer, g.1) refl)

pub exact_seen : Exact read_seen seen IsSeen
exact_seen = record { found = seen_found; only = seen_only }

-- ---- the three lists

exact_task : (before : Option (List ℕ)) → Exact (read_task before) under_digest (IsTask before)
unfolding read_task
exact_task before =
    exact_as (exact_two (read_name_above before) read_digest string digest_string (λ t. IsUtf8 t × (is_above before t ≡ true)) IsDigest (exact_name_above before) exact_digest)
    (λ t f. refl)
    (λ t f. (f.0.0, f.0.1, f.1))
    (λ t f. ((f.0, f.1), f.2))

exact_tasks : Exact read_tasks (λ ts. listed (map under_digest ts)) AreTasks
unfolding read_tasks
exact_tasks = exact_list read_task key_of under_digest IsTask exact_task (λ before t k fine le. refl) None

exact_input : (before : Option (List ℕ)) → Exact (read_input_seen before) seen_path (IsInput before)
unfolding read_input_seen
exact_input before =
    exact_as (exact_two (read_path_above before) read_seen string seen (λ p. IsPathText p × (is_above before p ≡ true)) IsSeen (exact_path_above before) exact_seen)
    (λ p f. refl)
    (λ p f. (f.0.0, f.0.1, f.1))
    (λ p f. ((f.0, f.1), f.2))

exact_inputs : Exact read_inputs (λ is. listed (map seen_path is)) AreInputs
unfolding read_inputs
exact_inputs = exact_list read_input_seen key_of seen_path IsInput exact_input (λ before i k fine le. refl) None

abbrev tasks_bytes : Footprint → List ℕ
tasks_bytes f = listed (map under_digest f.tasks)

abbrev inputs_bytes : Footprint → List ℕ
inputs_bytes f = listed (map seen_path f.inputs)

footprint_bytes : (t i w : List ℕ) → (108 ∷ []) ++ (t ++ (i ++ (w ++ ((101 ∷ []) ++ [])))) ≡ codes "l" ++ t ++ i ++ w ++ codes "e"
footprint_bytes t i w = simp append_assoc

pub exact_footprint : Exact read_footprint canon_footprint IsProperFootprint
unfolding read_footprint
exact_footprint =
    exact_as
    (exact_then (λ f. tt) exact_open
    (λ u. exact_then (λ f. f.tasks) exact_tasks
    (λ tasks. exact_then (λ f. f.inputs) exact_inputs
    (λ inputs. exact_then (λ f. f.writes) exact_writes
    (λ writes. exact_then (λ f. tt) exact_close
    (λ v. exact_end (record { tasks = tasks; inputs = inputs; writes = writes }) (λ f. ((((Unit {0} × (tt ≡ u)) × (f.tasks ≡ tasks)) × (f.inputs ≡ inputs)) × (f.writes ≡ writes)) × (tt ≡ v)) (((((tt, refl), refl), refl), refl), refl)
    (λ f k. λ i. record { tasks = k.0.0.0.1 i; inputs = k.0.0.1 i; writes = k.0.1 i })))))))
    (λ f fine. footprint_bytes (tasks_bytes f) (inputs_bytes f) (canon_writes f.writes))
    (λ f fine. (fine.1.1.0, fine.1.1.1.0, fine.1.1.1.1.0))
    (λ f fine. (tt, (tt, (fine.0, (fine.1, (fine.2, (tt, tt)))))))
