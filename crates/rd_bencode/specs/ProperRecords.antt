-- Records that a program can hold and that keep the rules of their kinds.
use Rattle.std.specs.Prelude.{◌≡◌, ℕ, ◌^◌, ◌<◌, true, List, [], length, Option, None}
use Rattle.std.specs.Str.{IsUtf8}
use Rattle.rd_base.specs.Path.{is_path}
use Rattle.rd_base.specs.declared.digest.Digest.{Digest}
use Rattle.rd_base.specs.declared.seen.Seen.{Seen}
use Rattle.rd_base.specs.declared.seen.Seen.TheVariants.{Held}
use Rattle.rd_value.specs.Limits.{is_within, is_within_expr}
use Rattle.rd_value.specs.declared.failure.Failure.{Failure}
use Rattle.rd_bencode.specs.declared.record.CallKey.{CallKey}
use Rattle.rd_bencode.specs.declared.record.Footprint.{Footprint}
use Rattle.rd_bencode.specs.declared.record.Job.{Job}
use Rattle.rd_bencode.specs.declared.record.Ending.{Ending}
use Rattle.rd_bencode.specs.declared.record.Ending.TheVariants as ending
use Rattle.rd_bencode.specs.declared.record.Execution.{Execution}
use Rattle.rd_bencode.specs.Lists.{EachFits}
use Rattle.rd_bencode.specs.Proper.{IsProper, IsProperExpr}
use Rattle.rd_bencode.specs.RecordReaders.{plain, is_above, key_of, is_new_call, with_call}
use Rattle.rd_bencode.specs.Values.{Value}

-- 32 bytes
abbrev pub IsDigest : Digest → Type 0
IsDigest d = length d.0 ≡ 32

-- a lawful path in UTF-8
abbrev pub IsPathText : List ℕ → Type 0
IsPathText p = (is_path p ≡ true) × IsUtf8 p

-- proper values, each within the limits
abbrev pub IsArgument : Unit {0} → Value → Type 0
IsArgument u v = IsProper v × (is_within (λ f. f) v ≡ true)

abbrev pub AreProperArgs : List Value → Type 0
AreProperArgs = EachFits IsArgument plain tt

-- paths in ascending order, each once
abbrev pub IsWrite : Option (List ℕ) → List ℕ × Digest → Type 0
IsWrite before w = IsPathText w.0 × (is_above before w.0 ≡ true) × IsDigest w.1

abbrev pub AreProperWrites : List (List ℕ × Digest) → Type 0
AreProperWrites = EachFits IsWrite key_of None

abbrev pub IsCallKey : CallKey → Type 0
IsCallKey k = IsDigest k.task × IsDigest k.args

-- calls, each once
abbrev pub IsChild : List CallKey → CallKey → Type 0
IsChild calls k = IsCallKey k × (is_new_call calls k ≡ true)

abbrev pub AreProperChildren : List CallKey → Type 0
AreProperChildren = EachFits IsChild with_call []

-- names in ascending order, each once
abbrev pub IsTask : Option (List ℕ) → List ℕ × Digest → Type 0
IsTask before t = IsUtf8 t.0 × (is_above before t.0 ≡ true) × IsDigest t.1

abbrev pub AreTasks : List (List ℕ × Digest) → Type 0
AreTasks = EachFits IsTask key_of None

abbrev pub IsSeen : Seen → Type 0
IsSeen (Held d) = IsDigest d
IsSeen _ = Unit {0}

abbrev pub IsInput : Option (List ℕ) → List ℕ × Seen → Type 0
IsInput before i = IsPathText i.0 × (is_above before i.0 ≡ true) × IsSeen i.1

abbrev pub AreInputs : List (List ℕ × Seen) → Type 0
AreInputs = EachFits IsInput key_of None

abbrev pub IsProperFootprint : Footprint → Type 0
IsProperFootprint f = AreTasks f.tasks × AreInputs f.inputs × AreProperWrites f.writes

abbrev pub IsFailure : Failure → Type 0
IsFailure f = IsUtf8 f.text × IsUtf8 f.origin

abbrev pub IsEnding : Ending → Type 0
IsEnding (ending.Value d) = IsDigest d
IsEnding (ending.Failed f) = IsFailure f

abbrev pub IsJob : Unit {0} → Job → Type 0
IsJob u j = (j.parent < 2 ^ 32) × IsCallKey j.key

abbrev pub AreJobs : List Job → Type 0
AreJobs = EachFits IsJob plain tt

-- numbers of their types, and a proper root expression within the limits
abbrev pub IsProperExecution : Execution → Type 0
IsProperExecution x = (x.serial < 2 ^ 64) × (x.moment < 2 ^ 64) × IsProperExpr x.root × (is_within_expr (λ f. f) x.root ≡ true) × IsEnding x.ending × AreJobs x.jobs

-- so many digests
abbrev pub AreDigests : ℕ → List Digest → Type 0
AreDigests n ds = (length ds ≡ n) × EachFits (λ u d. IsDigest d) plain tt ds
