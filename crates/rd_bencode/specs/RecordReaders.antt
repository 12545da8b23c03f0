-- How records are read.
use Rattle.std.specs.Prelude.{ℕ, zero, suc, ◌-◌, ◌==◌, ◌&&◌, Bool, true, not, if◌then◌else◌, nat_le, List, [], ◌∷◌, ◌++◌, length, decimal, slice_get, Option, Some, None}
use Rattle.std.specs.Cmp.Lexicographic.{slice_cmp}
use Rattle.std.specs.List.{list_any}
use Rattle.std.specs.Option.{option_map}
use Rattle.std.specs.Ordering.{nat_cmp, is_lt}
use Rattle.std.specs.Str.{bytes_eq}
use Rattle.rd_base.specs.declared.digest.Digest.{Digest}
use Rattle.rd_base.specs.declared.seen.Seen.{Seen}
use Rattle.rd_base.specs.declared.seen.Seen.TheVariants.{Absent, Long, Held}
use Rattle.rd_value.specs.Limits.{max_size, max_depth, size, size_expr}
use Rattle.rd_value.specs.declared.class.Class.{Class}
use Rattle.rd_value.specs.declared.failure.Failure.{Failure}
use Rattle.rd_bencode.specs.declared.record.CallKey.{CallKey}
use Rattle.rd_bencode.specs.declared.record.Footprint.{Footprint}
use Rattle.rd_bencode.specs.declared.record.JobState.{JobState}
use Rattle.rd_bencode.specs.declared.record.JobState.TheVariants.{Run, Reused, Skipped}
use Rattle.rd_bencode.specs.declared.record.Job.{Job}
use Rattle.rd_bencode.specs.declared.record.Ending.{Ending}
use Rattle.rd_bencode.specs.declared.record.Ending.TheVariants as ending
use Rattle.rd_bencode.specs.declared.record.Execution.{Execution}
use Rattle.rd_bencode.specs.Reader.{Reader, ◌>>=◌, pure, refuse_last, mean, check, taken, opt_then, leading, behind, read_string, read_open, read_close}
use Rattle.rd_bencode.specs.Meaning.{path_of, digest_of, class_of}
use Rattle.rd_bencode.specs.Values.{Value, begins_with, read_text, read_value}
use Rattle.rd_bencode.specs.Exprs.{Expr, read_expr}
use Rattle.rd_bencode.specs.Lists.{read_each}

-- ---- numbers of 64 bits

-- a number behind its `i`, in its one spelling
abbrev pub natural_at : List ℕ → Option (ℕ × List ℕ)
natural_at bs = opt_then (leading 0 bs) (λ n. opt_then (behind (decimal n) bs) (λ r. opt_then (behind (101 ∷ []) r) (λ t. Some (n, t))))

abbrev pub natural : List ℕ → Option (ℕ × List ℕ)
natural [] = None
natural (b ∷ bs) = if b == 105 then natural_at bs else None

unfoldable pub read_natural : Reader ℕ
read_natural = λ s. taken s.0 (natural s.0)

-- ---- paths, digests and classes

unfoldable pub read_path : Reader (List ℕ)
read_path = do bs ← read_string; mean (path_of bs)

unfoldable pub read_digest : Reader Digest
read_digest = do bs ← read_string; mean (digest_of bs)

unfoldable pub read_class : Reader Class
read_class = do bs ← read_string; mean (class_of bs)

-- ---- arguments: values within the limits

-- no state
abbrev pub plain : {A : Type 0} → Unit {0} → A → Unit {0}
plain u a = u

unfoldable pub read_argument : Unit {0} → Reader Value
read_argument u = do v ← read_value max_depth; c ← check (nat_le (size (λ f. f) v) max_size); pure v

unfoldable pub read_args : Reader (List Value)
read_args = do a ← read_open; vs ← read_each read_argument plain tt; b ← read_close; pure vs

-- ---- names and paths, each greater than the one before it in the order of bytes

abbrev pub is_above : Option (List ℕ) → List ℕ → Bool
is_above None key = true
is_above (Some before) key = is_lt (slice_cmp nat_cmp before key)

-- the key that the next one has to be above
abbrev pub key_of : {A : Type 0} → Option (List ℕ) → List ℕ × A → Option (List ℕ)
key_of before entry = Some entry.0

-- the key of the last of these
abbrev pub last_key : {A : Type 0} → List (List ℕ × A) → Option (List ℕ)
last_key all = option_map (λ entry. entry.0) (slice_get all (length all - 1))

unfoldable pub read_path_above : Option (List ℕ) → Reader (List ℕ)
read_path_above before = do path ← read_path; c ← check (is_above before path); pure path

unfoldable pub read_name_above : Option (List ℕ) → Reader (List ℕ)
read_name_above before = do name ← read_text; c ← check (is_above before name); pure name

-- ---- written files

unfoldable pub read_write : Option (List ℕ) → Reader (List ℕ × Digest)
read_write before = do a ← read_open; path ← read_path_above before; digest ← read_digest; b ← read_close; pure (path, digest)

unfoldable pub read_writes : Reader (List (List ℕ × Digest))
read_writes = do a ← read_open; ws ← read_each read_write key_of None; b ← read_close; pure ws

-- ---- calls, of which none is there twice

abbrev pub same_call : CallKey → CallKey → Bool
same_call j k = bytes_eq j.task.0 k.task.0 && bytes_eq j.args.0 k.args.0

abbrev pub is_new_call : List CallKey → CallKey → Bool
is_new_call calls k = not (list_any (same_call k) calls)

-- the calls with one more
abbrev pub with_call : List CallKey → CallKey → List CallKey
with_call calls k = calls ++ k ∷ []

-- the digests of a call's task and of its arguments
unfoldable pub read_call_key : Reader CallKey
read_call_key = do task ← read_digest; args ← read_digest; pure (record { task = task; args = args })

unfoldable pub read_new_call : List CallKey → Reader CallKey
read_new_call calls = do key ← read_call_key; c ← check (is_new_call calls key); pure key

unfoldable pub read_child : List CallKey → Reader CallKey
read_child calls = do a ← read_open; key ← read_new_call calls; b ← read_close; pure key

unfoldable pub read_children : Reader (List CallKey)
read_children = do a ← read_open; ks ← read_each read_child with_call []; b ← read_close; pure ks

-- ---- footprints

-- 0 where nothing stood, 1 for a long file
abbrev pub mark_of : ℕ → Option Seen
mark_of n = if n == 0 then Some Absent else if n == 1 then Some Long else None

unfoldable pub read_mark : Reader Seen
read_mark = do n ← read_natural; mean (mark_of n)

unfoldable pub read_held : Reader Seen
read_held = do digest ← read_digest; pure (Held digest)

unfoldable pub read_seen : Reader Seen
read_seen = λ s. if begins_with 105 s.0 then read_mark s else read_held s

unfoldable pub read_task : Option (List ℕ) → Reader (List ℕ × Digest)
read_task before = do a ← read_open; name ← read_name_above before; digest ← read_digest; b ← read_close; pure (name, digest)

unfoldable pub read_tasks : Reader (List (List ℕ × Digest))
read_tasks = do a ← read_open; ts ← read_each read_task key_of None; b ← read_close; pure ts

unfoldable pub read_input_seen : Option (List ℕ) → Reader (List ℕ × Seen)
read_input_seen before = do a ← read_open; path ← read_path_above before; seen ← read_seen; b ← read_close; pure (path, seen)

unfoldable pub read_inputs : Reader (List (List ℕ × Seen))
read_inputs = do a ← read_open; is ← read_each read_input_seen key_of None; b ← read_close; pure is

unfoldable pub read_footprint : Reader Footprint
read_footprint = do a ← read_open; tasks ← read_tasks; inputs ← read_inputs; writes ← read_writes; b ← read_close; pure (record { tasks = tasks; inputs = inputs; writes = writes })

-- ---- executions

-- a root expression within the limits
unfoldable pub read_root : Reader Expr
read_root = do e ← read_expr max_depth; c ← check (nat_le (size_expr (λ f. f) e) max_size); pure e

unfoldable pub read_failure : Reader Failure
read_failure = do class ← read_class; text ← read_text; origin ← read_text; pure (record { class = class; text = text; origin = origin })

unfoldable pub read_value_ending : Reader Ending
read_value_ending = do digest ← read_digest; pure (ending.Value digest)

unfoldable pub read_failed_ending : Reader Ending
read_failed_ending = do failure ← read_failure; pure (ending.Failed failure)

-- what stands behind the number of an ending
unfoldable pub read_ending_kind : ℕ → Reader Ending
read_ending_kind n = if n == 0 then read_value_ending else if n == 1 then read_failed_ending else refuse_last

unfoldable pub read_ending : Reader Ending
read_ending = do a ← read_open; n ← read_natural; e ← read_ending_kind n; b ← read_close; pure e

-- a number of 32 bits
abbrev pub parent_of : ℕ → Option ℕ
parent_of n = if nat_le n 4294967295 then Some n else None

unfoldable pub read_parent : Reader ℕ
read_parent = do n ← read_natural; mean (parent_of n)

abbrev pub state_of : ℕ → Option JobState
state_of n = if n == 0 then Some Run else if n == 1 then Some Reused else if n == 2 then Some Skipped else None

unfoldable pub read_state : Reader JobState
read_state = do n ← read_natural; mean (state_of n)

unfoldable pub read_job : Unit {0} → Reader Job
read_job u = do a ← read_open; parent ← read_parent; key ← read_call_key; state ← read_state; b ← read_close; pure (record { parent = parent; key = key; state = state })

unfoldable pub read_jobs : Reader (List Job)
read_jobs = do a ← read_open; js ← read_each read_job plain tt; b ← read_close; pure js

unfoldable pub read_execution : Reader Execution
read_execution = do a ← read_open; serial ← read_natural; moment ← read_natural; root ← read_root; ending ← read_ending; jobs ← read_jobs; b ← read_close; pure (record { serial = serial; moment = moment; root = root; ending = ending; jobs = jobs })

-- ---- rows: lists of so many digests

unfoldable pub read_so_many : ℕ → Reader (List Digest)
read_so_many zero = pure []
read_so_many (suc n) = do digest ← read_digest; more ← read_so_many n; pure (digest ∷ more)

unfoldable pub read_digests : ℕ → Reader (List Digest)
read_digests n = do a ← read_open; ds ← read_so_many n; b ← read_close; pure ds
