-- The canonical bytes of records.
use Rattle.std.specs.Prelude.{ℕ, List, ◌++◌, map, codes, decimal}
use Rattle.rd_base.specs.declared.digest.Digest.{Digest}
use Rattle.rd_base.specs.declared.seen.Seen.{Seen}
use Rattle.rd_base.specs.declared.seen.Seen.TheVariants.{Absent, Long, Held}
use Rattle.rd_value.specs.Canon.{string, joined, canon, canon_expr}
use Rattle.rd_value.specs.Class.{name}
use Rattle.rd_value.specs.declared.failure.Failure.{Failure}
use Rattle.rd_value.specs.declared.value.FileValue.{FileValue}
use Rattle.rd_value.specs.declared.value.Datum.{Datum}
use Rattle.rd_bencode.specs.declared.record.CallKey.{CallKey}
use Rattle.rd_bencode.specs.declared.record.Footprint.{Footprint}
use Rattle.rd_bencode.specs.declared.record.JobState.{JobState}
use Rattle.rd_bencode.specs.declared.record.JobState.TheVariants.{Run, Reused, Skipped}
use Rattle.rd_bencode.specs.declared.record.Job.{Job}
use Rattle.rd_bencode.specs.declared.record.Ending.{Ending}
use Rattle.rd_bencode.specs.declared.record.Ending.TheVariants as ending
use Rattle.rd_bencode.specs.declared.record.Execution.{Execution}

-- a number
abbrev pub number : ℕ → List ℕ
number n = codes "i" ++ decimal n ++ codes "e"

-- a digest, as a string of its bytes
abbrev pub digest_string : Digest → List ℕ
digest_string d = string d.0

-- a list of items that are spelled already
abbrev pub listed : List (List ℕ) → List ℕ
listed items = codes "l" ++ joined items ++ codes "e"

-- bound arguments: the list of their values
abbrev pub canon_args : {F : Type 0} → (F → FileValue) → List (Datum F) → List ℕ
canon_args file values = listed (map (canon file) values)

-- a name or a path, and a digest
abbrev pub under_digest : List ℕ × Digest → List ℕ
under_digest p = codes "l" ++ string p.0 ++ digest_string p.1 ++ codes "e"

-- written files: a list of paths, each with a digest
abbrev pub canon_writes : List (List ℕ × Digest) → List ℕ
canon_writes writes = listed (map under_digest writes)

-- a call: the digests of its task and of its arguments
abbrev pub call_key : CallKey → List ℕ
call_key k = codes "l" ++ digest_string k.task ++ digest_string k.args ++ codes "e"

-- a list of calls
abbrev pub canon_children : List CallKey → List ℕ
canon_children keys = listed (map call_key keys)

-- what stood at a path: nothing, a long file, or a file with this digest
abbrev pub seen : Seen → List ℕ
seen Absent = number 0
seen Long = number 1
seen (Held d) = digest_string d

-- a path, and what stood there
abbrev pub seen_path : List ℕ × Seen → List ℕ
seen_path p = codes "l" ++ string p.0 ++ seen p.1 ++ codes "e"

-- the tasks, the paths that were looked at, and the files that were written
abbrev pub canon_footprint : Footprint → List ℕ
canon_footprint f = codes "l" ++ listed (map under_digest f.tasks) ++ listed (map seen_path f.inputs) ++ canon_writes f.writes ++ codes "e"

-- how a job came to its outcome
abbrev pub state_number : JobState → ℕ
state_number Run = 0
state_number Reused = 1
state_number Skipped = 2

-- the parent, the digests of task and arguments, and the state
abbrev pub job : Job → List ℕ
job j = codes "l" ++ number j.parent ++ digest_string j.key.task ++ digest_string j.key.args ++ number (state_number j.state) ++ codes "e"

-- a failure's class, its text and its origin
abbrev pub failure : Failure → List ℕ
failure f = string (name f.class) ++ string f.text ++ string f.origin

-- 0 and a value's digest, or 1 and a failure
abbrev pub canon_ending : Ending → List ℕ
canon_ending (ending.Value d) = codes "l" ++ number 0 ++ digest_string d ++ codes "e"
canon_ending (ending.Failed f) = codes "l" ++ number 1 ++ failure f ++ codes "e"

-- the serial, the moment, the root expression, the ending and the jobs
abbrev pub canon_execution : Execution → List ℕ
canon_execution x = codes "l" ++ number x.serial ++ number x.moment ++ canon_expr (λ f. f) x.root ++ canon_ending x.ending ++ listed (map job x.jobs) ++ codes "e"

-- a list of digests
abbrev pub canon_digests : List Digest → List ℕ
canon_digests ds = listed (map digest_string ds)
