-- Arguments, written files and calls are read exactly.
use Rattle.std.proofs.Common.{◌≡◌, ℕ, true, List, [], ◌++◌, Option, None, refl, ap, append-nil}
use Rattle.rd_value.specs.Canon.{string}
use Rattle.rd_bencode.specs.declared.record.CallKey.{CallKey}
use Rattle.rd_bencode.specs.ProperRecords.{IsDigest, IsPathText, IsArgument, AreProperArgs, IsWrite, AreProperWrites, IsCallKey, IsChild, AreProperChildren}
use Rattle.rd_bencode.specs.RecordReaders.{plain, is_above, key_of, is_new_call, with_call, read_argument, read_args, read_path_above, read_digest, read_write, read_writes, read_call_key, read_child, read_new_call, read_children}
use Rattle.rd_bencode.specs.Records.{digest_string, canon_args, under_digest, canon_writes, call_key, canon_children}
use Rattle.rd_bencode.proofs.Exact.{Exact, exact_as, exact_then, exact_end, exact_tested, exact_enclosed, exact_list, exact_two}
use Rattle.rd_bencode.proofs.ExactParts.{exact_argument, exact_path_above, exact_digest}
use Rattle.rd_bencode.proofs.ValuesFound.{spelled}
use Rattle.rd_bencode.proofs.ValuesOnly.{value_begins}

pub exact_args : Exact read_args (canon_args (λ f. f)) AreProperArgs
unfolding read_args
exact_args = exact_list read_argument plain spelled IsArgument exact_argument (λ u v k fine le. value_begins v k le) tt

pub exact_write : (before : Option (List ℕ)) → Exact (read_write before) under_digest (IsWrite before)
unfolding read_write
exact_write before =
    exact_as (exact_two (read_path_above before) read_digest string digest_string (λ p. IsPathText p × (is_above before p ≡ true)) IsDigest (exact_path_above before) exact_digest)
    (λ w f. refl)
    (λ w f. (f.0.0, f.0.1, f.1))
    (λ w f. ((f.0, f.1), f.2))

pub exact_writes : Exact read_writes canon_writes AreProperWrites
unfolding read_writes
exact_writes = exact_list read_write key_of under_digest IsWrite exact_write (λ before w k fine le. refl) None

-- ---- calls

abbrev pub two_digests : CallKey → List ℕ
two_digests k = digest_string k.task ++ digest_string k.args

pub exact_call_key : Exact read_call_key two_digests IsCallKey
unfolding read_call_key
exact_call_key =
    exact_as
    (exact_then (λ k. k.task) exact_digest
    (λ task. exact_then (λ k. k.args) exact_digest
    (λ args. exact_end (record { task = task; args = args }) (λ k. (Unit {0} × (k.task ≡ task)) × (k.args ≡ args)) ((tt, refl), refl) (λ k is. λ i. record { task = is.0.1 i; args = is.1 i }))))
    (λ k f. ap (λ b. digest_string k.task ++ b) (append-nil (digest_string k.args)))
    (λ k f. (f.1.0, f.1.1.0))
    (λ k f. (tt, (f.0, (f.1, tt))))

exact_new_call : (calls : List CallKey) → Exact (read_new_call calls) two_digests (IsChild calls)
unfolding read_new_call
exact_new_call calls = exact_tested read_call_key two_digests IsCallKey (is_new_call calls) exact_call_key

exact_child : (calls : List CallKey) → Exact (read_child calls) call_key (IsChild calls)
unfolding read_child
exact_child calls = exact_enclosed (read_new_call calls) two_digests (IsChild calls) (exact_new_call calls)

pub exact_children : Exact read_children canon_children AreProperChildren
unfolding read_children
exact_children = exact_list read_child with_call call_key IsChild exact_child (λ calls c k fine le. refl) []
