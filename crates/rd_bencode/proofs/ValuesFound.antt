-- What is read as a value is its canonical bytes.
use Rattle.std.proofs.Common.{◌≡◌, ℕ, zero, suc, ◌≤◌, ◌==◌, max, pos, Bool, true, false, cond, List, [], ◌∷◌, ◌++◌, length, map, decimal, Ok, refl, sym, ap, subst, ◌∙◌, append_assoc, arith}
use Rattle.std.specs.Fmt.{signed_decimal}
use Rattle.std.specs.Str.{IsUtf8}
use Rattle.std.proofs.lemmas.Fmt.{decimal_digit}
use Rattle.rd_value.specs.declared.value.FileValue.{FileValue}
use Rattle.rd_value.specs.declared.value.ErrorValue.{ErrorValue}
use Rattle.rd_value.specs.declared.value.Datum.TheVariants as value
use Rattle.rd_value.specs.Canon.{canon, string, joined, keyed}
use Rattle.rd_value.specs.Class.{name}
use Rattle.rd_value.specs.Depth.{depth, greatest, greater}
use Rattle.rd_value.proofs.Ind.{Each, EachPair}
use Rattle.rd_value.proofs.Layers.{depth_list, depth_dict}
use Rattle.rd_bencode.specs.Reader.{Place, Outcome, Reader, and_then, pure, mean, check, begins_item, read_string, read_integer, read_letter, read_open, read_close, read_many_by, read_many}
use Rattle.rd_bencode.specs.Meaning.{text_of, path_of, digest_of, class_of, flag_of}
use Rattle.rd_bencode.specs.Values.{Value, Pair, begins_with, new_number, new_text, read_text, read_file, read_error, read_flag, read_number, read_text_value, read_plain, read_number_key, read_text_key, read_key, read_pair, read_pairs_by, read_pairs, read_list, read_dict, read_kind, read_tagged, read_any, read_value}
use Rattle.rd_bencode.specs.Proper.{IsProper, AreNew, is_new}
use Rattle.rd_bencode.proofs.Layers.{canon_nothing, canon_bool, canon_int, canon_text, canon_list, canon_dict, canon_file, canon_error, depth_nothing, depth_bool, depth_int, depth_text, depth_file, depth_error}
use Rattle.rd_bencode.proofs.Proper.{proper_nothing, proper_bool, proper_int, proper_text, proper_list, proper_dict, proper_file, proper_error}
use Rattle.rd_bencode.proofs.Steps.{got, along, bind_ok, same_number, read_string_found, read_integer_found, read_letter_found, read_open_found, read_close_found, mean_found, check_found, text_found, path_found, digest_found, class_found, flag_found}

abbrev pub spelled : Value → List ℕ
spelled = canon (λ f. f)

pub record IsRead (n : ℕ) (s : Place) (y : Value × Place) : Type 0 where
  pub bytes : s.0 ≡ spelled y.0 ++ y.1.0
  pub proper : IsProper y.0
  pub shallow : depth y.0 ≤ n

-- a kind's bytes stand between its letter and its end
pub record IsKind (n c : ℕ) (s : Place) (y : Value × Place) : Type 0 where
  pub body : List ℕ
  pub bytes : s.0 ≡ body ++ y.1.0
  pub whole : spelled y.0 ≡ 108 ∷ 49 ∷ 58 ∷ c ∷ (body ++ (101 ∷ []))
  pub proper : IsProper y.0
  pub shallow : depth y.0 ≤ suc n

pub read_text_found : (s : Place) (y : List ℕ × Place) → read_text s ≡ Ok y → (s.0 ≡ string y.0 ++ y.1.0) × IsUtf8 y.0
unfolding read_text
read_text_found s y h =
    let a = bind_ok (read_string s) (λ bs. mean (text_of bs)) y h in
    let b = mean_found (text_of a.0) a.1 y a.3 in
    let t = text_found a.0 y.0 b.0 in
    (read_string_found s (a.0, a.1) a.2 ∙ (ap (λ x. string x ++ a.1.0) t.0 ∙ ap (λ (p : Place). string y.0 ++ p.0) b.1), t.1)

module _ (n : ℕ) where
  file_read : (s : Place) (y : Value × Place) → read_file s ≡ Ok y → IsKind n 102 s y
  unfolding read_file
  file_read s y h =
      let a = bind_ok (read_string s) (λ p. λ s. and_then (mean (path_of p) s) (λ path. λ s. and_then (read_string s) (λ d. λ s. and_then (mean (digest_of d) s) (λ digest. pure (value.File (record { path = path; digest = digest })))))) y h in
      let b = bind_ok (mean (path_of a.0) a.1) (λ path. λ s. and_then (read_string s) (λ d. λ s. and_then (mean (digest_of d) s) (λ digest. pure (value.File (record { path = path; digest = digest }))))) y a.3 in
      let d = bind_ok (read_string b.1) (λ d. λ s. and_then (mean (digest_of d) s) (λ digest. pure (value.File (record { path = b.0; digest = digest })))) y b.3 in
      let e = bind_ok (mean (digest_of d.0) d.1) (λ digest. pure (value.File (record { path = b.0; digest = digest }))) y d.3 in
      let m = mean_found (path_of a.0) a.1 (b.0, b.1) b.2 in
      let p = path_found a.0 b.0 m.0 in
      let k = mean_found (digest_of d.0) d.1 (e.0, e.1) e.2 in
      let q = digest_found d.0 e.0 k.0 in
      let f : FileValue = record { path = b.0; digest = e.0 } in
      let first : s.0 ≡ string b.0 ++ b.1.0 = read_string_found s (a.0, a.1) a.2 ∙ (ap (λ x. string x ++ a.1.0) p.0 ∙ ap (λ (p : Place). string b.0 ++ p.0) m.1) in
      let second : b.1.0 ≡ string e.0.0 ++ e.1.0 = read_string_found b.1 (d.0, d.1) d.2 ∙ (ap (λ x. string x ++ d.1.0) q.0 ∙ ap (λ (p : Place). string e.0.0 ++ p.0) k.1) in
      along (IsKind n 102 s) (value.File f, e.1) y e.3 (record {
        body = string b.0 ++ string e.0.0;
        bytes = first ∙ (ap (λ r. string b.0 ++ r) second ∙ sym (append_assoc (string b.0) (string e.0.0) e.1.0));
        whole = canon_file (λ f. f) f;
        proper = proper_file f p.1 p.2 q.1;
        shallow = let flat = depth_file f in omega (arith, flat);
      })

  error_read : (s : Place) (y : Value × Place) → read_error s ≡ Ok y → IsKind n 101 s y
  unfolding read_error
  error_read s y h =
      let a = bind_ok (read_string s) (λ c. λ s. and_then (mean (class_of c) s) (λ class. λ s. and_then (read_text s) (λ text. pure (value.Error (record { class = class; text = text }))))) y h in
      let b = bind_ok (mean (class_of a.0) a.1) (λ class. λ s. and_then (read_text s) (λ text. pure (value.Error (record { class = class; text = text })))) y a.3 in
      let d = bind_ok (read_text b.1) (λ text. pure (value.Error (record { class = b.0; text = text }))) y b.3 in
      let m = mean_found (class_of a.0) a.1 (b.0, b.1) b.2 in
      let k = class_found a.0 b.0 m.0 in
      let t = read_text_found b.1 (d.0, d.1) d.2 in
      let e : ErrorValue = record { class = b.0; text = d.0 } in
      let first : s.0 ≡ string (name b.0) ++ b.1.0 = read_string_found s (a.0, a.1) a.2 ∙ (ap (λ x. string x ++ a.1.0) k ∙ ap (λ (p : Place). string (name b.0) ++ p.0) m.1) in
      along (IsKind n 101 s) (value.Error e, d.1) y d.3 (record {
        body = string (name b.0) ++ string d.0;
        bytes = first ∙ (ap (λ r. string (name b.0) ++ r) t.0 ∙ sym (append_assoc (string (name b.0)) (string d.0) d.1.0));
        whole = canon_error (λ f. f) e;
        proper = proper_error e t.1;
        shallow = let flat = depth_error e in omega (arith, flat);
      })

  flag_spelled : (b : Bool) → spelled (value.Bool b) ≡ 108 ∷ 49 ∷ 58 ∷ 98 ∷ ((105 ∷ (signed_decimal (cond b (pos 1) (pos 0)) ++ (101 ∷ []))) ++ (101 ∷ []))
  flag_spelled true = let e : decimal 1 ≡ 49 ∷ [] = decimal_digit 1 (omega arith) in canon_bool (λ f. f) true ∙ ap (λ ds. 108 ∷ 49 ∷ 58 ∷ 98 ∷ ((105 ∷ (ds ++ (101 ∷ []))) ++ (101 ∷ []))) (sym e)
  flag_spelled false = let e : decimal 0 ≡ 48 ∷ [] = decimal_digit 0 (omega arith) in canon_bool (λ f. f) false ∙ ap (λ ds. 108 ∷ 49 ∷ 58 ∷ 98 ∷ ((105 ∷ (ds ++ (101 ∷ []))) ++ (101 ∷ []))) (sym e)

  flag_read : (s : Place) (y : Value × Place) → read_flag s ≡ Ok y → IsKind n 98 s y
  unfolding read_flag
  flag_read s y h =
      let a = bind_ok (read_integer s) (λ z. λ s. and_then (mean (flag_of z) s) (λ b. pure (value.Bool b))) y h in
      let b = bind_ok (mean (flag_of a.0) a.1) (λ b. pure (value.Bool b)) y a.3 in
      let m = mean_found (flag_of a.0) a.1 (b.0, b.1) b.2 in
      let z = flag_found a.0 b.0 m.0 in
      let i = read_integer_found s (a.0, a.1) a.2 in
      let bytes : s.0 ≡ 105 ∷ (signed_decimal (cond b.0 (pos 1) (pos 0)) ++ (101 ∷ b.1.0)) = i.0 ∙ (ap (λ z. 105 ∷ (signed_decimal z ++ (101 ∷ a.1.0))) z ∙ ap (λ (p : Place). 105 ∷ (signed_decimal (cond b.0 (pos 1) (pos 0)) ++ (101 ∷ p.0))) m.1) in
      along (IsKind n 98 s) (value.Bool b.0, b.1) y b.3 (record {
        body = 105 ∷ (signed_decimal (cond b.0 (pos 1) (pos 0)) ++ (101 ∷ []));
        bytes = bytes ∙ ap (λ r. 105 ∷ r) (sym (append_assoc (signed_decimal (cond b.0 (pos 1) (pos 0))) (101 ∷ []) b.1.0));
        whole = flag_spelled b.0;
        proper = proper_bool b.0;
        shallow = let flat = depth_bool b.0 in omega (arith, flat);
      })

  number_read : (s : Place) (y : Value × Place) → read_number s ≡ Ok y → IsRead (suc n) s y
  unfolding read_number
  number_read s y h =
      let a = bind_ok (read_integer s) (λ z. pure (value.Int z)) y h in
      let i = read_integer_found s (a.0, a.1) a.2 in
      along (IsRead (suc n) s) (value.Int a.0, a.1) y a.3 (record {
        bytes = i.0 ∙ (ap (λ r. 105 ∷ r) (sym (append_assoc (signed_decimal a.0) (101 ∷ []) a.1.0)) ∙ ap (λ b. b ++ a.1.0) (sym (canon_int (λ f. f) a.0)));
        proper = proper_int a.0 i.1;
        shallow = let flat = depth_int a.0 in omega (arith, flat);
      })

  text_read : (s : Place) (y : Value × Place) → read_text_value s ≡ Ok y → IsRead (suc n) s y
  unfolding read_text_value
  text_read s y h =
      let a = bind_ok (read_text s) (λ t. pure (value.Text t)) y h in
      let t = read_text_found s (a.0, a.1) a.2 in
      along (IsRead (suc n) s) (value.Text a.0, a.1) y a.3 (record {
        bytes = t.0 ∙ ap (λ b. b ++ a.1.0) (sym (canon_text (λ f. f) a.0));
        proper = proper_text a.0 t.1;
        shallow = let flat = depth_text a.0 in omega (arith, flat);
      })

  plain_read : (s : Place) (y : Value × Place) → read_plain s ≡ Ok y → IsRead (suc n) s y
  unfolding read_plain
  plain_read s y h = by_test (begins_with 105 s.0) h
    where
      by_test : (b : Bool) → cond b (read_number s) (read_text_value s) ≡ Ok y → IsRead (suc n) s y
      by_test true h = number_read s y h
      by_test false h = text_read s y h

-- ---- keys

pub record IsKey (keys : List Value) (n : ℕ) (s : Place) (y : Value × Place) : Type 0 where
  pub bytes : s.0 ≡ spelled y.0 ++ y.1.0
  pub proper : IsProper y.0
  pub shallow : depth y.0 ≤ n
  pub new : is_new keys y.0 ≡ true

number_key_read : (keys : List Value) (n : ℕ) (s : Place) (y : Value × Place) → read_number_key keys s ≡ Ok y → IsKey keys (suc n) s y
unfolding read_number_key
number_key_read keys n s y h =
    let a = bind_ok (read_integer s) (λ z. λ s. and_then (check (new_number keys z) s) (λ u. pure (value.Int z))) y h in
    let b = bind_ok (check (new_number keys a.0) a.1) (λ u. pure (value.Int a.0)) y a.3 in
    let i = read_integer_found s (a.0, a.1) a.2 in
    let k = check_found (new_number keys a.0) a.1 (b.0, b.1) b.2 in
    along (IsKey keys (suc n) s) (value.Int a.0, b.1) y b.3 (record {
      bytes = i.0 ∙ (ap (λ r. 105 ∷ r) (sym (append_assoc (signed_decimal a.0) (101 ∷ []) a.1.0)) ∙ (ap (λ b. b ++ a.1.0) (sym (canon_int (λ f. f) a.0)) ∙ ap (λ (p : Place). spelled (value.Int a.0) ++ p.0) k.1));
      proper = proper_int a.0 i.1;
      shallow = let flat = depth_int a.0 in omega (arith, flat);
      new = k.0;
    })

text_key_read : (keys : List Value) (n : ℕ) (s : Place) (y : Value × Place) → read_text_key keys s ≡ Ok y → IsKey keys (suc n) s y
unfolding read_text_key
text_key_read keys n s y h =
    let a = bind_ok (read_text s) (λ t. λ s. and_then (check (new_text keys t) s) (λ u. pure (value.Text t))) y h in
    let b = bind_ok (check (new_text keys a.0) a.1) (λ u. pure (value.Text a.0)) y a.3 in
    let t = read_text_found s (a.0, a.1) a.2 in
    let k = check_found (new_text keys a.0) a.1 (b.0, b.1) b.2 in
    along (IsKey keys (suc n) s) (value.Text a.0, b.1) y b.3 (record {
      bytes = t.0 ∙ (ap (λ b. b ++ a.1.0) (sym (canon_text (λ f. f) a.0)) ∙ ap (λ (p : Place). spelled (value.Text a.0) ++ p.0) k.1);
      proper = proper_text a.0 t.1;
      shallow = let flat = depth_text a.0 in omega (arith, flat);
      new = k.0;
    })

pub key_read : (keys : List Value) (n : ℕ) (s : Place) (y : Value × Place) → read_key keys n s ≡ Ok y → IsKey keys n s y
unfolding read_key
key_read keys zero s y h = absurd cc
key_read keys (suc n) s y h = by_test (begins_with 105 s.0) h
  where
    by_test : (b : Bool) → cond b (read_number_key keys s) (read_text_key keys s) ≡ Ok y → IsKey keys (suc n) s y
    by_test true h = number_key_read keys n s y h
    by_test false h = text_key_read keys n s y h

-- ---- lists and dicts

module _ (n : ℕ) (inside : Reader Value) (inner : (s : Place) (y : Value × Place) → inside s ≡ Ok y → IsRead n s y) where
  record AreRead (s : Place) (y : List Value × Place) : Type 0 where
    bytes : s.0 ≡ joined (map spelled y.0) ++ y.1.0
    proper : Each IsProper y.0
    shallow : greatest (map depth y.0) ≤ n

  many_read : (m : ℕ) (s : Place) (y : List Value × Place) → read_many_by inside m s ≡ Ok y → AreRead s y
  many_read zero s y h = along (AreRead s) ([], s) y h (record { bytes = refl; proper = tt; shallow = omega arith })
  many_read (suc m) s y h = by_test (many_read m) (begins_item s.0) h
    where
      by_test : ((s : Place) (y : List Value × Place) → read_many_by inside m s ≡ Ok y → AreRead s y) → (b : Bool) → cond b (and_then (inside s) (λ a. λ s. and_then (read_many_by inside m s) (λ more. pure (a ∷ more)))) (let r : Outcome (List Value) = Ok ([], s) in r) ≡ Ok y → AreRead s y
      by_test others false h = along (AreRead s) ([], s) y h (record { bytes = refl; proper = tt; shallow = omega arith })
      by_test others true h =
          let a = bind_ok (inside s) (λ a. λ s. and_then (read_many_by inside m s) (λ more. pure (a ∷ more))) y h in
          let b = bind_ok (read_many_by inside m a.1) (λ more. pure (a.0 ∷ more)) y a.3 in
          let one = inner s (a.0, a.1) a.2 in
          let rest = others a.1 (b.0, b.1) b.2 in
          along (AreRead s) (a.0 ∷ b.0, b.1) y b.3 (record {
            bytes = one.bytes ∙ (ap (λ r. spelled a.0 ++ r) rest.bytes ∙ sym (append_assoc (spelled a.0) (joined (map spelled b.0)) b.1.0));
            proper = (one.proper, rest.proper);
            shallow = let p = one.shallow in let q = rest.shallow in omega (arith, p, q);
          })

  list_read : (s : Place) (y : Value × Place) → read_list n inside s ≡ Ok y → IsKind n 108 s y
  unfolding read_list
  list_read s y h =
      let a = bind_ok (read_many inside s) (λ xs. pure (value.List xs)) y h in
      let m = many_read (length s.0) s (a.0, a.1) a.2 in
      along (IsKind n 108 s) (value.List a.0, a.1) y a.3 (record {
        body = joined (map spelled a.0);
        bytes = m.bytes;
        whole = canon_list (λ f. f) a.0;
        proper = proper_list a.0 m.proper;
        shallow = let d = depth_list a.0 in let q = m.shallow in omega (arith, d, q);
      })

  abbrev both : Pair → List ℕ × List ℕ
  both p = (spelled p.0, spelled p.1)

  abbrev depths : Pair → ℕ × ℕ
  depths p = (depth p.0, depth p.1)

  record ArePairs (keys : List Value) (s : Place) (y : List Pair × Place) : Type 0 where
    bytes : s.0 ≡ joined (map keyed (map both y.0)) ++ y.1.0
    proper : EachPair IsProper y.0
    shallow : greatest (map greater (map depths y.0)) ≤ n
    new : AreNew keys y.0

  record IsPair (keys : List Value) (s : Place) (y : Pair × Place) : Type 0 where
    bytes : s.0 ≡ (spelled y.0.0 ++ spelled y.0.1) ++ y.1.0
    proper : IsProper y.0.0 × IsProper y.0.1
    shallow : max (depth y.0.0) (depth y.0.1) ≤ n
    new : is_new keys y.0.0 ≡ true

  pair_read : (keys : List Value) (s : Place) (y : Pair × Place) → read_pair n inside keys s ≡ Ok y → IsPair keys s y
  unfolding read_pair
  pair_read keys s y h =
      let a = bind_ok (read_key keys n s) (λ k. λ s. and_then (inside s) (λ v. pure (k, v))) y h in
      let b = bind_ok (inside a.1) (λ v. pure (a.0, v)) y a.3 in
      let k = key_read keys n s (a.0, a.1) a.2 in
      let v = inner a.1 (b.0, b.1) b.2 in
      along (IsPair keys s) ((a.0, b.0), b.1) y b.3 (record {
        bytes = k.bytes ∙ (ap (λ r. spelled a.0 ++ r) v.bytes ∙ sym (append_assoc (spelled a.0) (spelled b.0) b.1.0));
        proper = (k.proper, v.proper);
        shallow = let p = k.shallow in let q = v.shallow in omega (arith, p, q);
        new = k.new;
      })

  pairs_read : (m : ℕ) (keys : List Value) (s : Place) (y : List Pair × Place) → read_pairs_by n inside m keys s ≡ Ok y → ArePairs keys s y
  pairs_read zero keys s y h = along (ArePairs keys s) ([], s) y h (record { bytes = refl; proper = tt; shallow = omega arith; new = tt })
  pairs_read (suc m) keys s y h = by_test (λ keys. pairs_read m keys) (begins_item s.0) h
    where
      by_test : ((keys : List Value) (s : Place) (y : List Pair × Place) → read_pairs_by n inside m keys s ≡ Ok y → ArePairs keys s y) → (b : Bool) → cond b (and_then (read_pair n inside keys s) (λ p. λ s. and_then (read_pairs_by n inside m (keys ++ p.0 ∷ []) s) (λ more. pure (p ∷ more)))) (let r : Outcome (List Pair) = Ok ([], s) in r) ≡ Ok y → ArePairs keys s y
      by_test others false h = along (ArePairs keys s) ([], s) y h (record { bytes = refl; proper = tt; shallow = omega arith; new = tt })
      by_test others true h =
          let a = bind_ok (read_pair n inside keys s) (λ p. λ s. and_then (read_pairs_by n inside m (keys ++ p.0 ∷ []) s) (λ more. pure (p ∷ more))) y h in
          let b = bind_ok (read_pairs_by n inside m (keys ++ a.0.0 ∷ []) a.1) (λ more. pure (a.0 ∷ more)) y a.3 in
          let one = pair_read keys s (a.0, a.1) a.2 in
          let rest = others (keys ++ a.0.0 ∷ []) a.1 (b.0, b.1) b.2 in
          along (ArePairs keys s) (a.0 ∷ b.0, b.1) y b.3 (record {
            bytes = one.bytes ∙ (ap (λ r. (spelled a.0.0 ++ spelled a.0.1) ++ r) rest.bytes ∙ sym (append_assoc (spelled a.0.0 ++ spelled a.0.1) (joined (map keyed (map both b.0))) b.1.0));
            proper = (one.proper, rest.proper);
            shallow = let p = one.shallow in let q = rest.shallow in omega (arith, p, q);
            new = (one.new, rest.new);
          })

  dict_read : (s : Place) (y : Value × Place) → read_dict n inside s ≡ Ok y → IsKind n 100 s y
  unfolding read_dict
  dict_read s y h =
      let a = bind_ok (read_pairs n inside s) (λ ps. pure (value.Dict ps)) y h in
      let m = pairs_read (length s.0) [] s (a.0, a.1) a.2 in
      along (IsKind n 100 s) (value.Dict a.0, a.1) y a.3 (record {
        body = joined (map keyed (map both a.0));
        bytes = m.bytes;
        whole = canon_dict (λ f. f) a.0;
        proper = proper_dict a.0 m.proper m.new;
        shallow = let d = depth_dict a.0 in let q = m.shallow in omega (arith, d, q);
      })

  nothing_read : (s : Place) (y : Value × Place) → got (value.Nothing, s) ≡ Ok y → IsKind n 110 s y
  nothing_read s y h = along (IsKind n 110 s) (value.Nothing, s) y h (record { body = []; bytes = refl; whole = canon_nothing (λ f. f); proper = proper_nothing; shallow = omega (arith, depth_nothing) })

  -- one letter, or else another
  letter_by : (c k : ℕ) (s : Place) (y : Value × Place) (f g : Reader Value) → (f s ≡ Ok y → IsKind n k s y) → (g s ≡ Ok y → IsKind n c s y) → (b : Bool) → (c == k) ≡ b → (cond b f g) s ≡ Ok y → IsKind n c s y
  letter_by c k s y f g this other true e h = subst (λ k. IsKind n k s y) (sym (same_number c k e)) (this h)
  letter_by c k s y f g this other false e h = other h

  kind_read : (c : ℕ) (s : Place) (y : Value × Place) → read_kind n inside c s ≡ Ok y → IsKind n c s y
  unfolding read_kind
  kind_read c s y h =
      letter_by c 110 s y _ _ (nothing_read s y)
      (letter_by c 98 s y _ _ (flag_read n s y)
      (letter_by c 108 s y _ _ (list_read s y)
      (letter_by c 100 s y _ _ (dict_read s y)
      (letter_by c 102 s y _ _ (file_read n s y)
      (letter_by c 101 s y _ _ (error_read n s y) (λ bad. absurd cc) (c == 101) refl) (c == 102) refl) (c == 100) refl) (c == 108) refl) (c == 98) refl) (c == 110) refl h

  tagged_read : (s : Place) (y : Value × Place) → read_tagged n inside s ≡ Ok y → IsRead (suc n) s y
  unfolding read_tagged
  tagged_read s y h =
      let a = bind_ok (read_open s) (λ u. λ s. and_then (read_letter s) (λ c. λ s. and_then (read_kind n inside c s) (λ v. λ s. and_then (read_close s) (λ w. pure v)))) y h in
      let b = bind_ok (read_letter a.1) (λ c. λ s. and_then (read_kind n inside c s) (λ v. λ s. and_then (read_close s) (λ w. pure v))) y a.3 in
      let d = bind_ok (read_kind n inside b.0 b.1) (λ v. λ s. and_then (read_close s) (λ w. pure v)) y b.3 in
      let e = bind_ok (read_close d.1) (λ w. pure d.0) y d.3 in
      let k = kind_read b.0 b.1 (d.0, d.1) d.2 in
      let o = read_open_found s (a.0, a.1) a.2 in
      let l = read_letter_found a.1 (b.0, b.1) b.2 in
      let q = read_close_found d.1 (e.0, e.1) e.2 in
      along (IsRead (suc n) s) (d.0, e.1) y e.3 (record {
        bytes = o ∙ (ap (λ r. 108 ∷ r) l ∙ (ap (λ r. 108 ∷ 49 ∷ 58 ∷ b.0 ∷ r) (k.bytes ∙ (ap (λ r. k.body ++ r) q ∙ sym (append_assoc k.body (101 ∷ []) e.1.0))) ∙ ap (λ r. r ++ e.1.0) (sym k.whole)));
        proper = k.proper;
        shallow = k.shallow;
      })

  any_read : (s : Place) (y : Value × Place) → read_any n inside s ≡ Ok y → IsRead (suc n) s y
  unfolding read_any
  any_read s y h = by_test (begins_with 108 s.0) h
    where
      by_test : (b : Bool) → cond b (read_tagged n inside s) (read_plain s) ≡ Ok y → IsRead (suc n) s y
      by_test true h = tagged_read s y h
      by_test false h = plain_read n s y h

pub value_read : (n : ℕ) (s : Place) (y : Value × Place) → read_value n s ≡ Ok y → IsRead n s y
unfolding read_value
value_read zero s y h = absurd cc
value_read (suc n) s y h = any_read n (read_value n) (value_read n) s y h
