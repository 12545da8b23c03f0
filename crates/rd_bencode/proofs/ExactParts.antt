-- Strings, texts, paths, digests, values and expressions are read exactly.
use Rattle.std.proofs.Common.{◌≡◌, ℕ, ◌≤◌, Bool, true, ◌&&◌, List, Option, refl, arith, nat_le}
use Rattle.std.specs.Str.{IsUtf8}
use Rattle.rd_value.specs.Canon.{string}
use Rattle.rd_value.specs.Class.{name}
use Rattle.rd_value.specs.Depth.{depth, depth_expr}
use Rattle.rd_value.specs.Limits.{max_size, max_depth, size, size_expr, is_within_expr}
use Rattle.rd_bencode.specs.Exprs.{read_expr}
use Rattle.rd_bencode.specs.Meaning.{path_of, digest_of, class_of}
use Rattle.rd_bencode.specs.Proper.{IsProper, IsProperExpr}
use Rattle.rd_bencode.specs.ProperRecords.{IsDigest, IsPathText, IsArgument}
use Rattle.rd_bencode.specs.Reader.{read_string}
use Rattle.rd_bencode.specs.RecordReaders.{read_path, read_class, read_digest, read_argument, is_above, read_path_above, read_name_above, read_root}
use Rattle.rd_bencode.specs.Records.{digest_string}
use Rattle.rd_bencode.specs.Values.{read_text, read_value}
use Rattle.rd_bencode.proofs.Exact.{Exact, exact_as, exact_mean, exact_tested}
use Rattle.rd_bencode.proofs.ExprsFound.{spelled_expr, expr_read}
use Rattle.rd_bencode.proofs.ExprsOnly.{only_expr}
use Rattle.rd_bencode.proofs.Meaning.{is_path_text}
use Rattle.rd_bencode.proofs.Steps.{read_string_found, path_found, digest_found, class_found}
use Rattle.rd_bencode.proofs.Strings.{le_of, le_to}
use Rattle.rd_bencode.proofs.ValuesFound.{spelled, value_read, read_text_found}
use Rattle.rd_bencode.proofs.ValuesOnly.{string_longer, string_reads, text_reads, digest_is, class_is, only_value}
use Rattle.rd_bencode.proofs.Whole.{both_true}

pub exact_string : Exact read_string string (λ t. Unit {0})
exact_string = record {
  found = λ s y h. (read_string_found s y h, tt);
  only = λ t k fine le. string_reads t k (omega (arith, le, string_longer t));
}

pub exact_text : Exact read_text string IsUtf8
exact_text = record {
  found = read_text_found;
  only = λ t k utf8 le. text_reads t k utf8 (omega (arith, le, string_longer t));
}

pub exact_path : Exact read_path string IsPathText
unfolding read_path
exact_path = exact_mean read_string path_of string (λ t. Unit {0}) (λ p. p) IsPathText exact_string
    (λ bs p fine h. let f = path_found bs p h in (f.0, (f.1, f.2)))
    (λ p fine. (tt, is_path_text p fine.1 fine.0))

pub exact_digest : Exact read_digest digest_string IsDigest
unfolding read_digest
exact_digest = exact_mean read_string digest_of string (λ t. Unit {0}) (λ d. d.0) IsDigest exact_string
    (λ bs d fine h. digest_found bs d h)
    (λ d fine. (tt, digest_is d fine))

pub exact_class : Exact read_class (λ c. string (name c)) (λ c. Unit {0})
unfolding read_class
exact_class = exact_mean read_string class_of string (λ t. Unit {0}) name (λ c. Unit {0}) exact_string
    (λ bs c fine h. (class_found bs c h, tt))
    (λ c fine. (tt, class_is c))

-- ---- names and paths in order

pub exact_path_above : (before : Option (List ℕ)) → Exact (read_path_above before) string (λ p. IsPathText p × (is_above before p ≡ true))
unfolding read_path_above
exact_path_above before = exact_tested read_path string IsPathText (is_above before) exact_path

pub exact_name_above : (before : Option (List ℕ)) → Exact (read_name_above before) string (λ t. IsUtf8 t × (is_above before t ≡ true))
unfolding read_name_above
exact_name_above before = exact_tested read_text string IsUtf8 (is_above before) exact_text

-- ---- values and expressions within the limits

deep_value : (n : ℕ) → Exact (read_value n) spelled (λ v. IsProper v × (depth v ≤ n))
deep_value n = record {
  found = λ s y h. let r = value_read n s y h in (r.bytes, (r.proper, r.shallow));
  only = λ v k fine le. only_value v n k fine.0 fine.1 le;
}

deep_expr : (n : ℕ) → Exact (read_expr n) spelled_expr (λ e. IsProperExpr e × (depth_expr e ≤ n))
deep_expr n = record {
  found = λ s y h. let r = expr_read n s y h in (r.bytes, (r.proper, r.shallow));
  only = λ e k fine le. only_expr e n k fine.0 fine.1 le;
}

both_are : (a b : Bool) → a ≡ true → b ≡ true → (a && b) ≡ true
both_are a b p q = rw (p, q) refl

pub exact_argument : (u : Unit {0}) → Exact (read_argument u) spelled (IsArgument u)
unfolding read_argument
exact_argument u =
    exact_as (exact_tested (read_value max_depth) spelled (λ v. IsProper v × (depth v ≤ max_depth)) (λ v. nat_le (size (λ f. f) v) max_size) (deep_value max_depth))
    (λ v f. refl)
    (λ v f. (f.0.0, both_are (nat_le (size (λ f. f) v) max_size) (nat_le (depth v) max_depth) f.1 (le_to (depth v) max_depth f.0.1)))
    (λ v f. let b = both_true (nat_le (size (λ f. f) v) max_size) (nat_le (depth v) max_depth) f.1 in ((f.0, le_of (depth v) max_depth b.1), b.0))

pub exact_root : Exact read_root spelled_expr (λ e. IsProperExpr e × (is_within_expr (λ f. f) e ≡ true))
unfolding read_root
exact_root =
    exact_as (exact_tested (read_expr max_depth) spelled_expr (λ e. IsProperExpr e × (depth_expr e ≤ max_depth)) (λ e. nat_le (size_expr (λ f. f) e) max_size) (deep_expr max_depth))
    (λ e f. refl)
    (λ e f. (f.0.0, both_are (nat_le (size_expr (λ f. f) e) max_size) (nat_le (depth_expr e) max_depth) f.1 (le_to (depth_expr e) max_depth f.0.1)))
    (λ e f. let b = both_true (nat_le (size_expr (λ f. f) e) max_size) (nat_le (depth_expr e) max_depth) f.1 in ((f.0, le_of (depth_expr e) max_depth b.1), b.0))
