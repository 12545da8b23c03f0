-- Executions are read exactly.
use Rattle.std.proofs.Common.{◌≡◌, ℕ, ◌^◌, ◌<◌, ◌≤◌, ◌==◌, Bool, true, false, cond, List, [], ◌∷◌, ◌++◌, length, map, codes, Some, None, Ok, refl, sym, ap, subst, ◌∙◌, append_assoc, append-nil, arith, nat_le}
use Rattle.rd_value.specs.Canon.{string}
use Rattle.rd_value.specs.Class.{name}
use Rattle.rd_bencode.specs.Exprs.{Expr}
use Rattle.rd_bencode.specs.declared.record.JobState.{JobState}
use Rattle.rd_bencode.specs.declared.record.JobState.TheVariants.{Run, Reused, Skipped}
use Rattle.rd_bencode.specs.declared.record.Job.{Job}
use Rattle.rd_bencode.specs.declared.record.Ending.{Ending}
use Rattle.rd_bencode.specs.declared.record.Ending.TheVariants as ending
use Rattle.rd_bencode.specs.declared.record.Execution.{Execution}
use Rattle.rd_bencode.specs.ProperRecords.{IsFailure, IsEnding, IsJob, AreJobs, IsProperExecution}
use Rattle.rd_bencode.specs.Reader.{Place, pure, refuse_last}
use Rattle.rd_bencode.specs.RecordReaders.{plain, parent_of, state_of, read_natural, read_digest, read_failure, read_value_ending, read_failed_ending, read_ending_kind, read_ending, read_parent, read_state, read_job, read_jobs, read_execution}
use Rattle.rd_bencode.specs.Records.{number, digest_string, state_number, job, failure, listed, canon_ending, canon_execution}
use Rattle.rd_bencode.proofs.Exact.{Exact, exact_as, exact_given, exact_then, exact_end, exact_mean, exact_open, exact_close, exact_list}
use Rattle.rd_bencode.proofs.ExactLists.{exact_call_key}
use Rattle.rd_bencode.proofs.ExactParts.{exact_class, exact_text, exact_digest, exact_root}
use Rattle.rd_bencode.proofs.ExprsFound.{spelled_expr}
use Rattle.rd_bencode.proofs.Naturals.{exact_natural}
use Rattle.rd_bencode.proofs.Steps.{along, bind_ok, same_number}
use Rattle.rd_bencode.proofs.Strings.{le_of, le_to}
use Rattle.rd_bencode.proofs.ValuesOnly.{Reads, most}

-- ---- failures and endings

failure_bytes : (c t o : List ℕ) → c ++ (t ++ (o ++ [])) ≡ c ++ t ++ o
failure_bytes c t o = rw append-nil (sym (append_assoc c t o))

exact_failure : Exact read_failure failure IsFailure
unfolding read_failure
exact_failure =
    exact_as
    (exact_then (λ f. f.class) exact_class
    (λ class. exact_then (λ f. f.text) exact_text
    (λ text. exact_then (λ f. f.origin) exact_text
    (λ origin. exact_end (record { class = class; text = text; origin = origin }) (λ f. ((Unit {0} × (f.class ≡ class)) × (f.text ≡ text)) × (f.origin ≡ origin)) (((tt, refl), refl), refl)
    (λ f k. λ i. record { class = k.0.0.1 i; text = k.0.1 i; origin = k.1 i })))))
    (λ f fine. failure_bytes (string (name f.class)) (string f.text) (string f.origin))
    (λ f fine. (fine.1.1.0, fine.1.1.1.0))
    (λ f fine. (tt, (tt, (fine.0, (fine.1, tt)))))

ending_number : Ending → ℕ
ending_number (ending.Value d) = 0
ending_number (ending.Failed f) = 1

abbrev ending_body : Ending → List ℕ
ending_body (ending.Value d) = digest_string d
ending_body (ending.Failed f) = failure f

ending_small : (e : Ending) → ending_number e < 2 ^ 64
unfolding ending_number
ending_small (ending.Value d) = omega arith
ending_small (ending.Failed f) = omega arith

abbrev KindFound : ℕ → Place → Ending × Place → Type 0
KindFound n s y = (s.0 ≡ ending_body y.0 ++ y.1.0) × (IsEnding y.0 × (ending_number y.0 ≡ n))

value_found : (s : Place) (y : Ending × Place) → read_value_ending s ≡ Ok y → KindFound 0 s y
unfolding read_value_ending ending_number
value_found s y h =
    let a = bind_ok (read_digest s) (λ d. pure (ending.Value d)) y h in
    let r = exact_digest.found s (a.0, a.1) a.2 in
    along (KindFound 0 s) (ending.Value a.0, a.1) y a.3 (r.0, (r.1, refl))

failed_found : (s : Place) (y : Ending × Place) → read_failed_ending s ≡ Ok y → KindFound 1 s y
unfolding read_failed_ending ending_number
failed_found s y h =
    let a = bind_ok (read_failure s) (λ f. pure (ending.Failed f)) y h in
    let r = exact_failure.found s (a.0, a.1) a.2 in
    along (KindFound 1 s) (ending.Failed a.0, a.1) y a.3 (r.0, (r.1, refl))

kind_one : (n : ℕ) (s : Place) (y : Ending × Place) (b : Bool) → (n == 1) ≡ b → (cond b read_failed_ending refuse_last) s ≡ Ok y → KindFound n s y
kind_one n s y true e h = subst (λ k. KindFound k s y) (sym (same_number n 1 e)) (failed_found s y h)
kind_one n s y false e h = absurd cc

kind_zero : (n : ℕ) (s : Place) (y : Ending × Place) (b : Bool) → (n == 0) ≡ b → (cond b read_value_ending (cond (n == 1) read_failed_ending refuse_last)) s ≡ Ok y → KindFound n s y
kind_zero n s y true e h = subst (λ k. KindFound k s y) (sym (same_number n 0 e)) (value_found s y h)
kind_zero n s y false e h = kind_one n s y (n == 1) refl h

kind_found : (n : ℕ) (s : Place) (y : Ending × Place) → read_ending_kind n s ≡ Ok y → KindFound n s y
unfolding read_ending_kind
kind_found n s y h = kind_zero n s y (n == 0) refl h

kind_reads : (e : Ending) (k : List ℕ) → IsEnding e → length (ending_body e) ≤ most → Reads (read_ending_kind (ending_number e)) (ending_body e ++ k) e k
unfolding read_ending_kind read_value_ending read_failed_ending ending_number
kind_reads (ending.Value d) k fine le last = let g = exact_digest.only d k fine le last in (g.0, rw g.1 refl)
kind_reads (ending.Failed f) k fine le last = let g = exact_failure.only f k fine le last in (g.0, rw g.1 refl)

exact_kind : (n : ℕ) → Exact (read_ending_kind n) ending_body (λ e. IsEnding e × (ending_number e ≡ n))
exact_kind n = record {
  found = kind_found n;
  only = λ e k fine le. subst (λ n. Reads (read_ending_kind n) (ending_body e ++ k) e k) fine.1 (kind_reads e k fine.0 le);
}

numbered_bytes : (n b : List ℕ) → (108 ∷ []) ++ (n ++ (b ++ ((101 ∷ []) ++ []))) ≡ codes "l" ++ n ++ b ++ codes "e"
numbered_bytes n b = simp append_assoc

ending_bytes : (e : Ending) → (108 ∷ []) ++ (number (ending_number e) ++ (ending_body e ++ ((101 ∷ []) ++ []))) ≡ canon_ending e
unfolding ending_number
ending_bytes (ending.Value d) = numbered_bytes (number 0) (digest_string d)
ending_bytes (ending.Failed f) = numbered_bytes (number 1) (failure f)

pub exact_ending : Exact read_ending canon_ending IsEnding
unfolding read_ending
exact_ending =
    exact_as
    (exact_then (λ e. tt) exact_open
    (λ u. exact_then ending_number {Rest = λ e. IsEnding e × (Unit {0} × Unit {0})} exact_natural
    (λ n. exact_as
    (exact_given (λ e. e) (exact_kind n)
    (λ e fine. exact_then (λ d. tt) exact_close
    (λ v. exact_end e (λ d. (((Unit {0} × (tt ≡ u)) × (ending_number d ≡ n)) × (d ≡ e)) × (tt ≡ v)) ((((tt, refl), fine.1), refl), refl) (λ d k. k.0.1))))
    (λ e f. refl)
    (λ e f. (f.0, (f.1.0.0, f.1.1)))
    (λ e f. (f.0, ((f.1.0, f.0.1), f.1.1))))))
    (λ e f. ending_bytes e)
    (λ e f. f.1.1.1.0)
    (λ e f. (tt, (tt, (ending_small e, (f, (tt, tt))))))

-- ---- jobs

parent_by : (n d : ℕ) (b : Bool) → nat_le n 4294967295 ≡ b → cond b (Some n) None ≡ Some d → (n ≡ d) × (d < 2 ^ 32)
parent_by n d true e h = let p : n ≡ d = cc in (p, omega (arith, le_of n 4294967295 e, p))
parent_by n d false e h = absurd cc

parent_fits : (d : ℕ) → d < 2 ^ 32 → (d < 2 ^ 64) × (parent_of d ≡ Some d)
parent_fits d h = (omega (arith, h), rw (le_to d 4294967295 (omega (arith, h))) refl)

exact_parent : Exact read_parent number (λ n. n < 2 ^ 32)
unfolding read_parent
exact_parent = exact_mean read_natural parent_of number (λ n. n < 2 ^ 64) (λ n. n) (λ n. n < 2 ^ 32) exact_natural (λ n d fine h. parent_by n d (nat_le n 4294967295) refl h) parent_fits

state_two : (n : ℕ) (d : JobState) (b : Bool) → (n == 2) ≡ b → cond b (Some Skipped) None ≡ Some d → n ≡ state_number d
state_two n d true e h = let p : Skipped ≡ d = cc in same_number n 2 e ∙ ap state_number p
state_two n d false e h = absurd cc

state_one : (n : ℕ) (d : JobState) (b : Bool) → (n == 1) ≡ b → cond b (Some Reused) (cond (n == 2) (Some Skipped) None) ≡ Some d → n ≡ state_number d
state_one n d true e h = let p : Reused ≡ d = cc in same_number n 1 e ∙ ap state_number p
state_one n d false e h = state_two n d (n == 2) refl h

state_zero : (n : ℕ) (d : JobState) (b : Bool) → (n == 0) ≡ b → cond b (Some Run) (cond (n == 1) (Some Reused) (cond (n == 2) (Some Skipped) None)) ≡ Some d → n ≡ state_number d
state_zero n d true e h = let p : Run ≡ d = cc in same_number n 0 e ∙ ap state_number p
state_zero n d false e h = state_one n d (n == 1) refl h

state_is : (d : JobState) → Unit {0} → (state_number d < 2 ^ 64) × (state_of (state_number d) ≡ Some d)
state_is Run u = (omega arith, refl)
state_is Reused u = (omega arith, refl)
state_is Skipped u = (omega arith, refl)

abbrev spelled_state : JobState → List ℕ
spelled_state d = number (state_number d)

exact_state : Exact read_state spelled_state (λ d. Unit {0})
unfolding read_state
exact_state = exact_mean read_natural state_of number (λ n. n < 2 ^ 64) state_number (λ d. Unit {0}) exact_natural (λ n d fine h. (state_zero n d (n == 0) refl h, tt)) state_is

job_bytes : (p t a s : List ℕ) → (108 ∷ []) ++ (p ++ ((t ++ a) ++ (s ++ ((101 ∷ []) ++ [])))) ≡ codes "l" ++ p ++ t ++ a ++ s ++ codes "e"
job_bytes p t a s = simp append_assoc

exact_job : (w : Unit {0}) → Exact (read_job w) job (IsJob w)
unfolding read_job
exact_job w =
    exact_as
    (exact_then (λ j. tt) exact_open
    (λ u. exact_then (λ j. j.parent) exact_parent
    (λ parent. exact_then (λ j. j.key) exact_call_key
    (λ key. exact_then (λ j. j.state) exact_state
    (λ state. exact_then (λ j. tt) exact_close
    (λ v. exact_end (record { parent = parent; key = key; state = state }) (λ j. ((((Unit {0} × (tt ≡ u)) × (j.parent ≡ parent)) × (j.key ≡ key)) × (j.state ≡ state)) × (tt ≡ v)) (((((tt, refl), refl), refl), refl), refl)
    (λ j k. λ i. record { parent = k.0.0.0.1 i; key = k.0.0.1 i; state = k.0.1 i })))))))
    (λ j f. job_bytes (number j.parent) (digest_string j.key.task) (digest_string j.key.args) (spelled_state j.state))
    (λ j f. (f.1.1.0, f.1.1.1.0))
    (λ j f. (tt, (tt, (f.0, (f.1, (tt, (tt, tt)))))))

abbrev jobs_bytes : List Job → List ℕ
jobs_bytes js = listed (map job js)

exact_jobs : Exact read_jobs jobs_bytes AreJobs
unfolding read_jobs
exact_jobs = exact_list read_job plain job IsJob exact_job (λ u j k fine le. refl) tt

-- ---- executions

execution_bytes : (s m r e j : List ℕ) → (108 ∷ []) ++ (s ++ (m ++ (r ++ (e ++ (j ++ ((101 ∷ []) ++ [])))))) ≡ codes "l" ++ s ++ m ++ r ++ e ++ j ++ codes "e"
execution_bytes s m r e j = simp append_assoc

abbrev made : ℕ → ℕ → Expr → Ending → List Job → Execution
made serial moment root ending jobs = record { serial = serial; moment = moment; root = root; ending = ending; jobs = jobs }

pub exact_execution : Exact read_execution canon_execution IsProperExecution
unfolding read_execution
exact_execution =
    exact_as
    (exact_then (λ x. tt) exact_open
    (λ u. exact_then (λ x. x.serial) exact_natural
    (λ serial. exact_then (λ x. x.moment) exact_natural
    (λ moment. exact_then (λ x. x.root) exact_root
    (λ root. exact_then (λ x. x.ending) exact_ending
    (λ ending. exact_then (λ x. x.jobs) exact_jobs
    (λ jobs. exact_then (λ x. tt) exact_close
    (λ v. exact_end (made serial moment root ending jobs) (λ x. ((((((Unit {0} × (tt ≡ u)) × (x.serial ≡ serial)) × (x.moment ≡ moment)) × (x.root ≡ root)) × (x.ending ≡ ending)) × (x.jobs ≡ jobs)) × (tt ≡ v))
    (((((((tt, refl), refl), refl), refl), refl), refl), refl)
    (λ x k. λ i. made (k.0.0.0.0.0.1 i) (k.0.0.0.0.1 i) (k.0.0.0.1 i) (k.0.0.1 i) (k.0.1 i))))))))))
    (λ x f. execution_bytes (number x.serial) (number x.moment) (spelled_expr x.root) (canon_ending x.ending) (jobs_bytes x.jobs))
    (λ x f. (f.1.1.0, f.1.1.1.0, f.1.1.1.1.0.0, f.1.1.1.1.0.1, f.1.1.1.1.1.0, f.1.1.1.1.1.1.0))
    (λ x f. (tt, (tt, (f.0, (f.1, ((f.2, f.3), (f.4, (f.5, (tt, tt)))))))))
