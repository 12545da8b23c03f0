-- What is read as an expression is its canonical bytes.
use Rattle.std.proofs.Common.{◌≡◌, ℕ, zero, suc, ◌≤◌, ◌==◌, max, Bool, true, false, not, cond, List, [], ◌∷◌, ◌++◌, length, map, codes, Some, Ok, refl, sym, ap, subst, ◌∙◌, append_assoc, arith}
use Rattle.std.specs.List.{list_all}
use Rattle.std.specs.Str.{IsUtf8, bytes_eq}
use Rattle.std.proofs.lemmas.Slice.Eq.{bytes_eq-Decides}
use Rattle.rd_value.specs.declared.expr.OpKind.{OpKind}
use Rattle.rd_value.specs.declared.expr.OpKind.TheVariants.{Add, Sub, Mul, FloorDiv, Mod, Neg, Eq, Ne, Lt, Le, Gt, Ge, Index}
use Rattle.rd_value.specs.declared.expr.Lazy.TheVariants as expr
use Rattle.rd_value.specs.Canon.{canon_expr, string, joined, named, under_key, op_text}
use Rattle.rd_value.specs.Class.{name}
use Rattle.rd_value.specs.Depth.{depth, depth_expr, greatest, named_depth, keyed_depth}
use Rattle.rd_value.proofs.Ind.{Each, EachSecond}
use Rattle.rd_value.proofs.ExprLayers.{depth_call, depth_dict_of}
use Rattle.rd_bencode.specs.Reader.{Place, Outcome, Reader, and_then, pure, mean, check, begins_item, read_string, read_letter, read_open, read_close, read_many_by, read_many}
use Rattle.rd_bencode.specs.Meaning.{path_of, class_of}
use Rattle.rd_bencode.specs.Values.{Value, read_text, read_value, read_key, read_pair, read_pairs_by, read_pairs}
use Rattle.rd_bencode.specs.Exprs.{Expr, op_in, operators, op_of, is_val, is_lazy_at, is_lazy, read_input, read_val, read_named, read_call, read_one, read_two, read_parts, read_op, read_list_of, read_dict_of, read_cond, read_map, read_catch, read_expr_kind, read_any_expr, read_expr}
use Rattle.rd_bencode.specs.Proper.{IsProper, IsProperExpr, AreNew, AreTexts, AreProperKeys, is_new, arity}
use Rattle.rd_bencode.proofs.Layers.{canon_val, canon_call, canon_input, canon_op, canon_list_of, canon_dict_of, canon_cond, canon_map, canon_catch, depth_val, depth_input, depth_op, depth_list_of, depth_cond, depth_map, depth_catch}
use Rattle.rd_bencode.proofs.ProperExprs.{proper_val, proper_call, proper_input, proper_op, proper_list_of, proper_dict_of, proper_cond, proper_map, proper_catch}
use Rattle.rd_bencode.proofs.Steps.{along, bind_ok, same_number, read_string_found, read_letter_found, read_open_found, read_close_found, mean_found, check_found, path_found, class_found}
use Rattle.rd_bencode.proofs.ValuesFound.{spelled, value_read, key_read, read_text_found}

abbrev pub spelled_expr : Expr → List ℕ
spelled_expr = canon_expr (λ f. f)

pub record IsReadExpr (n : ℕ) (s : Place) (y : Expr × Place) : Type 0 where
  pub bytes : s.0 ≡ spelled_expr y.0 ++ y.1.0
  pub proper : IsProperExpr y.0
  pub shallow : depth_expr y.0 ≤ n

-- a kind's bytes stand between its letter and its end, and lists and dicts of values alone are told at the end
record IsExprKind (n c : ℕ) (s : Place) (y : Expr × Place) : Type 0 where
  body : List ℕ
  bytes : s.0 ≡ body ++ y.1.0
  whole : spelled_expr y.0 ≡ 108 ∷ 49 ∷ 58 ∷ c ∷ (body ++ (101 ∷ []))
  proper : is_lazy y.0 ≡ true → IsProperExpr y.0
  shallow : depth_expr y.0 ≤ suc n

op_by : (o : OpKind) (os : List OpKind) (bs : List ℕ) (k : OpKind) → (op_in os bs ≡ Some k → bs ≡ op_text k) → (b : Bool) → bytes_eq bs (op_text o) ≡ b → cond b (Some o) (op_in os bs) ≡ Some k → bs ≡ op_text k
op_by o os bs k f true e h = let p : o ≡ k = cc in (bytes_eq-Decides bs (op_text o)).0 e ∙ ap op_text p
op_by o os bs k f false e h = f h

op_in_found : (os : List OpKind) (bs : List ℕ) (k : OpKind) → op_in os bs ≡ Some k → bs ≡ op_text k
op_in_found [] bs k h = absurd cc
op_in_found (o ∷ os) bs k h = op_by o os bs k (op_in_found os bs k) (bytes_eq bs (op_text o)) refl h

op_found : (bs : List ℕ) (k : OpKind) → op_of bs ≡ Some k → bs ≡ op_text k
unfolding op_of
op_found bs k h = op_in_found operators bs k h

input_read : (n : ℕ) (s : Place) (y : Expr × Place) → read_input s ≡ Ok y → IsExprKind n 105 s y
unfolding read_input
input_read n s y h =
    let a = bind_ok (read_string s) (λ p. λ s. and_then (mean (path_of p) s) (λ path. pure (expr.Input path))) y h in
    let b = bind_ok (mean (path_of a.0) a.1) (λ path. pure (expr.Input path)) y a.3 in
    let m = mean_found (path_of a.0) a.1 (b.0, b.1) b.2 in
    let p = path_found a.0 b.0 m.0 in
    along (IsExprKind n 105 s) (expr.Input b.0, b.1) y b.3 (record {
      body = string b.0;
      bytes = read_string_found s (a.0, a.1) a.2 ∙ (ap (λ x. string x ++ a.1.0) p.0 ∙ ap (λ (p : Place). string b.0 ++ p.0) m.1);
      whole = canon_input (λ f. f) b.0;
      proper = λ lazy. proper_input b.0 p.1 p.2;
      shallow = let flat = depth_input b.0 in omega (arith, flat);
    })

module _ (n : ℕ) (inside : Reader Expr) (inner : (s : Place) (y : Expr × Place) → inside s ≡ Ok y → IsReadExpr n s y) where
  val_read : (s : Place) (y : Expr × Place) → read_val n inside s ≡ Ok y → IsExprKind n 118 s y
  unfolding read_val
  val_read s y h =
      let a = bind_ok (read_value (suc n) s) (λ v. pure (expr.Val v)) y h in
      let v = value_read (suc n) s (a.0, a.1) a.2 in
      along (IsExprKind n 118 s) (expr.Val a.0, a.1) y a.3 (record {
        body = spelled a.0;
        bytes = v.bytes;
        whole = canon_val (λ f. f) a.0;
        proper = λ lazy. proper_val a.0 v.proper;
        shallow = let d = depth_val a.0 in let q = v.shallow in omega (arith, d, q);
      })

  -- ---- lists

  record AreRead (s : Place) (y : List Expr × Place) : Type 0 where
    bytes : s.0 ≡ joined (map spelled_expr y.0) ++ y.1.0
    proper : Each IsProperExpr y.0
    shallow : greatest (map depth_expr y.0) ≤ n

  many_read : (m : ℕ) (s : Place) (y : List Expr × Place) → read_many_by inside m s ≡ Ok y → AreRead s y
  many_read zero s y h = along (AreRead s) ([], s) y h (record { bytes = refl; proper = tt; shallow = omega arith })
  many_read (suc m) s y h = by_test (many_read m) (begins_item s.0) h
    where
      by_test : ((s : Place) (y : List Expr × Place) → read_many_by inside m s ≡ Ok y → AreRead s y) → (b : Bool) → cond b (and_then (inside s) (λ a. λ s. and_then (read_many_by inside m s) (λ more. pure (a ∷ more)))) (let r : Outcome (List Expr) = Ok ([], s) in r) ≡ Ok y → AreRead s y
      by_test others false h = along (AreRead s) ([], s) y h (record { bytes = refl; proper = tt; shallow = omega arith })
      by_test others true h =
          let a = bind_ok (inside s) (λ a. λ s. and_then (read_many_by inside m s) (λ more. pure (a ∷ more))) y h in
          let b = bind_ok (read_many_by inside m a.1) (λ more. pure (a.0 ∷ more)) y a.3 in
          let one = inner s (a.0, a.1) a.2 in
          let rest = others a.1 (b.0, b.1) b.2 in
          along (AreRead s) (a.0 ∷ b.0, b.1) y b.3 (record {
            bytes = one.bytes ∙ (ap (λ r. spelled_expr a.0 ++ r) rest.bytes ∙ sym (append_assoc (spelled_expr a.0) (joined (map spelled_expr b.0)) b.1.0));
            proper = (one.proper, rest.proper);
            shallow = let p = one.shallow in let q = rest.shallow in omega (arith, p, q);
          })

  list_lazy : (es : List Expr) → is_lazy (expr.ListOf es) ≡ true → not (list_all is_val es) ≡ true
  list_lazy es h = ap (is_lazy_at is_val) (sym (expr.outs-ListOf es)) ∙ h

  list_of_read : (s : Place) (y : Expr × Place) → read_list_of n inside s ≡ Ok y → IsExprKind n 108 s y
  unfolding read_list_of
  list_of_read s y h =
      let a = bind_ok (read_many inside s) (λ xs. pure (expr.ListOf xs)) y h in
      let m = many_read (length s.0) s (a.0, a.1) a.2 in
      along (IsExprKind n 108 s) (expr.ListOf a.0, a.1) y a.3 (record {
        body = joined (map spelled_expr a.0);
        bytes = m.bytes;
        whole = canon_list_of (λ f. f) a.0;
        proper = λ lazy. proper_list_of a.0 (list_lazy a.0 lazy) m.proper;
        shallow = let d = depth_list_of a.0 in let q = m.shallow in omega (arith, d, q);
      })

  -- ---- names

  abbrev spelled_second : {K : Type 0} → K × Expr → K × List ℕ
  spelled_second p = (p.0, spelled_expr p.1)

  abbrev depth_second : {K : Type 0} → K × Expr → K × ℕ
  depth_second p = (p.0, depth_expr p.1)

  record IsNamed (s : Place) (y : (List ℕ × Expr) × Place) : Type 0 where
    bytes : s.0 ≡ (string y.0.0 ++ spelled_expr y.0.1) ++ y.1.0
    text : IsUtf8 y.0.0
    proper : IsProperExpr y.0.1
    shallow : depth_expr y.0.1 ≤ n

  named_read : (s : Place) (y : (List ℕ × Expr) × Place) → read_named n inside s ≡ Ok y → IsNamed s y
  unfolding read_named
  named_read s y h =
      let a = bind_ok (read_text s) (λ t. λ s. and_then (inside s) (λ e. pure (t, e))) y h in
      let b = bind_ok (inside a.1) (λ e. pure (a.0, e)) y a.3 in
      let t = read_text_found s (a.0, a.1) a.2 in
      let e = inner a.1 (b.0, b.1) b.2 in
      along (IsNamed s) ((a.0, b.0), b.1) y b.3 (record {
        bytes = t.0 ∙ (ap (λ r. string a.0 ++ r) e.bytes ∙ sym (append_assoc (string a.0) (spelled_expr b.0) b.1.0));
        text = t.1;
        proper = e.proper;
        shallow = e.shallow;
      })

  record AreNamed (s : Place) (y : List (List ℕ × Expr) × Place) : Type 0 where
    bytes : s.0 ≡ joined (map named (map spelled_second y.0)) ++ y.1.0
    texts : AreTexts y.0
    proper : EachSecond IsProperExpr y.0
    shallow : greatest (map named_depth (map depth_second y.0)) ≤ n

  names_read : (m : ℕ) (s : Place) (y : List (List ℕ × Expr) × Place) → read_many_by (read_named n inside) m s ≡ Ok y → AreNamed s y
  names_read zero s y h = along (AreNamed s) ([], s) y h (record { bytes = refl; texts = tt; proper = tt; shallow = omega arith })
  names_read (suc m) s y h = by_test (names_read m) (begins_item s.0) h
    where
      by_test : ((s : Place) (y : List (List ℕ × Expr) × Place) → read_many_by (read_named n inside) m s ≡ Ok y → AreNamed s y) → (b : Bool) → cond b (and_then (read_named n inside s) (λ a. λ s. and_then (read_many_by (read_named n inside) m s) (λ more. pure (a ∷ more)))) (let r : Outcome (List (List ℕ × Expr)) = Ok ([], s) in r) ≡ Ok y → AreNamed s y
      by_test others false h = along (AreNamed s) ([], s) y h (record { bytes = refl; texts = tt; proper = tt; shallow = omega arith })
      by_test others true h =
          let a = bind_ok (read_named n inside s) (λ a. λ s. and_then (read_many_by (read_named n inside) m s) (λ more. pure (a ∷ more))) y h in
          let b = bind_ok (read_many_by (read_named n inside) m a.1) (λ more. pure (a.0 ∷ more)) y a.3 in
          let one = named_read s (a.0, a.1) a.2 in
          let rest = others a.1 (b.0, b.1) b.2 in
          along (AreNamed s) (a.0 ∷ b.0, b.1) y b.3 (record {
            bytes = one.bytes ∙ (ap (λ r. (string a.0.0 ++ spelled_expr a.0.1) ++ r) rest.bytes ∙ sym (append_assoc (string a.0.0 ++ spelled_expr a.0.1) (joined (map named (map spelled_second b.0))) b.1.0));
            texts = (one.text, rest.texts);
            proper = (one.proper, rest.proper);
            shallow = let p = one.shallow in let q = rest.shallow in omega (arith, p, q);
          })

  call_bytes : (t x k e r : List ℕ) → t ++ (108 ∷ (x ++ (101 ∷ (108 ∷ (k ++ (101 ∷ r)))))) ≡ ((((t ++ (108 ∷ [])) ++ x) ++ (101 ∷ 108 ∷ [])) ++ k ++ (101 ∷ [])) ++ r
  call_bytes t x k e r = simp append_assoc

  call_whole : (t x k : List ℕ) → codes "l1:c" ++ t ++ codes "l" ++ x ++ codes "el" ++ k ++ codes "ee" ≡ 108 ∷ 49 ∷ 58 ∷ 99 ∷ (((((t ++ (108 ∷ [])) ++ x) ++ (101 ∷ 108 ∷ [])) ++ k ++ (101 ∷ [])) ++ (101 ∷ []))
  call_whole t x k = simp append_assoc

  call_read : (s : Place) (y : Expr × Place) → read_call n inside s ≡ Ok y → IsExprKind n 99 s y
  unfolding read_call
  call_read s y h =
      let a = bind_ok (read_text s) (λ t. λ s. and_then (read_open s) (λ a. λ s. and_then (read_many inside s) (λ xs. λ s. and_then (read_close s) (λ b. λ s. and_then (read_open s) (λ c. λ s. and_then (read_many (read_named n inside) s) (λ ks. λ s. and_then (read_close s) (λ d. pure (expr.Call t xs ks)))))))) y h in
      let b = bind_ok (read_open a.1) (λ u. λ s. and_then (read_many inside s) (λ xs. λ s. and_then (read_close s) (λ b. λ s. and_then (read_open s) (λ c. λ s. and_then (read_many (read_named n inside) s) (λ ks. λ s. and_then (read_close s) (λ d. pure (expr.Call a.0 xs ks))))))) y a.3 in
      let d = bind_ok (read_many inside b.1) (λ xs. λ s. and_then (read_close s) (λ b. λ s. and_then (read_open s) (λ c. λ s. and_then (read_many (read_named n inside) s) (λ ks. λ s. and_then (read_close s) (λ d. pure (expr.Call a.0 xs ks)))))) y b.3 in
      let e = bind_ok (read_close d.1) (λ b. λ s. and_then (read_open s) (λ c. λ s. and_then (read_many (read_named n inside) s) (λ ks. λ s. and_then (read_close s) (λ v. pure (expr.Call a.0 d.0 ks))))) y d.3 in
      let f = bind_ok (read_open e.1) (λ c. λ s. and_then (read_many (read_named n inside) s) (λ ks. λ s. and_then (read_close s) (λ v. pure (expr.Call a.0 d.0 ks)))) y e.3 in
      let g = bind_ok (read_many (read_named n inside) f.1) (λ ks. λ s. and_then (read_close s) (λ v. pure (expr.Call a.0 d.0 ks))) y f.3 in
      let k = bind_ok (read_close g.1) (λ v. pure (expr.Call a.0 d.0 g.0)) y g.3 in
      let t = read_text_found s (a.0, a.1) a.2 in
      let p1 = read_open_found a.1 (b.0, b.1) b.2 in
      let xs = many_read (length b.1.0) b.1 (d.0, d.1) d.2 in
      let p2 = read_close_found d.1 (e.0, e.1) e.2 in
      let p3 = read_open_found e.1 (f.0, f.1) f.2 in
      let ks = names_read (length f.1.0) f.1 (g.0, g.1) g.2 in
      let p4 = read_close_found g.1 (k.0, k.1) k.2 in
      let x : List ℕ = joined (map spelled_expr d.0) in
      let w : List ℕ = joined (map named (map spelled_second g.0)) in
      let names : f.1.0 ≡ w ++ (101 ∷ k.1.0) = ks.bytes ∙ ap (λ r. w ++ r) p4 in
      let parts : b.1.0 ≡ x ++ (101 ∷ (108 ∷ (w ++ (101 ∷ k.1.0)))) = xs.bytes ∙ ap (λ r. x ++ r) (p2 ∙ ap (λ r. 101 ∷ r) (p3 ∙ ap (λ r. 108 ∷ r) names)) in
      along (IsExprKind n 99 s) (expr.Call a.0 d.0 g.0, k.1) y k.3 (record {
        body = (((string a.0 ++ (108 ∷ [])) ++ x) ++ (101 ∷ 108 ∷ [])) ++ w ++ (101 ∷ []);
        bytes = t.0 ∙ (ap (λ r. string a.0 ++ r) (p1 ∙ ap (λ r. 108 ∷ r) parts) ∙ call_bytes (string a.0) x w [] k.1.0);
        whole = canon_call (λ f. f) a.0 d.0 g.0 ∙ call_whole (string a.0) x w;
        proper = λ lazy. proper_call a.0 d.0 g.0 t.1 ks.texts xs.proper ks.proper;
        shallow = let q = depth_call a.0 d.0 g.0 in let u = xs.shallow in let v = ks.shallow in omega (arith, q, u, v);
      })

  -- ---- operators

  record AreParts (k : ℕ) (s : Place) (y : List Expr × Place) : Type 0 where
    bytes : s.0 ≡ joined (map spelled_expr y.0) ++ y.1.0
    proper : Each IsProperExpr y.0
    shallow : greatest (map depth_expr y.0) ≤ n
    count : length y.0 ≡ k

  one_read : (s : Place) (y : List Expr × Place) → read_one n inside s ≡ Ok y → AreParts 1 s y
  unfolding read_one
  one_read s y h =
      let a = bind_ok (inside s) (λ x. pure (x ∷ [])) y h in
      let e = inner s (a.0, a.1) a.2 in
      along (AreParts 1 s) (a.0 ∷ [], a.1) y a.3 (record {
        bytes = e.bytes ∙ sym (append_assoc (spelled_expr a.0) [] a.1.0);
        proper = (e.proper, tt);
        shallow = let q = e.shallow in omega (arith, q);
        count = omega arith;
      })

  two_read : (s : Place) (y : List Expr × Place) → read_two n inside s ≡ Ok y → AreParts 2 s y
  unfolding read_two
  two_read s y h =
      let a = bind_ok (inside s) (λ x. λ s. and_then (inside s) (λ z. pure (x ∷ z ∷ []))) y h in
      let b = bind_ok (inside a.1) (λ z. pure (a.0 ∷ z ∷ [])) y a.3 in
      let e = inner s (a.0, a.1) a.2 in
      let f = inner a.1 (b.0, b.1) b.2 in
      along (AreParts 2 s) (a.0 ∷ b.0 ∷ [], b.1) y b.3 (record {
        bytes = e.bytes ∙ (ap (λ r. spelled_expr a.0 ++ r) (f.bytes ∙ sym (append_assoc (spelled_expr b.0) [] b.1.0)) ∙ sym (append_assoc (spelled_expr a.0) (spelled_expr b.0 ++ []) b.1.0));
        proper = (e.proper, (f.proper, tt));
        shallow = let q = e.shallow in let r = f.shallow in omega (arith, q, r);
        count = omega arith;
      })

  parts_read : (o : OpKind) (s : Place) (y : List Expr × Place) → read_parts n inside o s ≡ Ok y → AreParts (arity o) s y
  parts_read Neg s y h = one_read s y h
  parts_read Add s y h = two_read s y h
  parts_read Sub s y h = two_read s y h
  parts_read Mul s y h = two_read s y h
  parts_read FloorDiv s y h = two_read s y h
  parts_read Mod s y h = two_read s y h
  parts_read Eq s y h = two_read s y h
  parts_read Ne s y h = two_read s y h
  parts_read Lt s y h = two_read s y h
  parts_read Le s y h = two_read s y h
  parts_read Gt s y h = two_read s y h
  parts_read Ge s y h = two_read s y h
  parts_read Index s y h = two_read s y h

  op_read : (s : Place) (y : Expr × Place) → read_op n inside s ≡ Ok y → IsExprKind n 111 s y
  unfolding read_op
  op_read s y h =
      let a = bind_ok (read_string s) (λ t. λ s. and_then (mean (op_of t) s) (λ o. λ s. and_then (read_parts n inside o s) (λ xs. pure (expr.Op o xs)))) y h in
      let b = bind_ok (mean (op_of a.0) a.1) (λ o. λ s. and_then (read_parts n inside o s) (λ xs. pure (expr.Op o xs))) y a.3 in
      let d = bind_ok (read_parts n inside b.0 b.1) (λ xs. pure (expr.Op b.0 xs)) y b.3 in
      let m = mean_found (op_of a.0) a.1 (b.0, b.1) b.2 in
      let o = op_found a.0 b.0 m.0 in
      let xs = parts_read b.0 b.1 (d.0, d.1) d.2 in
      let first : s.0 ≡ string (op_text b.0) ++ b.1.0 = read_string_found s (a.0, a.1) a.2 ∙ (ap (λ x. string x ++ a.1.0) o ∙ ap (λ (p : Place). string (op_text b.0) ++ p.0) m.1) in
      along (IsExprKind n 111 s) (expr.Op b.0 d.0, d.1) y d.3 (record {
        body = string (op_text b.0) ++ joined (map spelled_expr d.0);
        bytes = first ∙ (ap (λ r. string (op_text b.0) ++ r) xs.bytes ∙ sym (append_assoc (string (op_text b.0)) (joined (map spelled_expr d.0)) d.1.0));
        whole = canon_op (λ f. f) b.0 d.0;
        proper = λ lazy. proper_op b.0 d.0 xs.count xs.proper;
        shallow = let q = depth_op b.0 d.0 in let r = xs.shallow in omega (arith, q, r);
      })

  -- ---- dicts

  record IsPair (keys : List Value) (s : Place) (y : (Value × Expr) × Place) : Type 0 where
    bytes : s.0 ≡ (spelled y.0.0 ++ spelled_expr y.0.1) ++ y.1.0
    key : IsProper y.0.0
    proper : IsProperExpr y.0.1
    shallow : max (depth y.0.0) (depth_expr y.0.1) ≤ n
    new : is_new keys y.0.0 ≡ true

  pair_read : (keys : List Value) (s : Place) (y : (Value × Expr) × Place) → read_pair n inside keys s ≡ Ok y → IsPair keys s y
  unfolding read_pair
  pair_read keys s y h =
      let a = bind_ok (read_key keys n s) (λ k. λ s. and_then (inside s) (λ v. pure (k, v))) y h in
      let b = bind_ok (inside a.1) (λ v. pure (a.0, v)) y a.3 in
      let k = key_read keys n s (a.0, a.1) a.2 in
      let v = inner a.1 (b.0, b.1) b.2 in
      along (IsPair keys s) ((a.0, b.0), b.1) y b.3 (record {
        bytes = k.bytes ∙ (ap (λ r. spelled a.0 ++ r) v.bytes ∙ sym (append_assoc (spelled a.0) (spelled_expr b.0) b.1.0));
        key = k.proper;
        proper = v.proper;
        shallow = let p = k.shallow in let q = v.shallow in omega (arith, p, q);
        new = k.new;
      })

  record ArePairs (keys : List Value) (s : Place) (y : List (Value × Expr) × Place) : Type 0 where
    bytes : s.0 ≡ joined (map (under_key (λ f. f)) (map spelled_second y.0)) ++ y.1.0
    keys_proper : AreProperKeys y.0
    proper : EachSecond IsProperExpr y.0
    shallow : greatest (map keyed_depth (map depth_second y.0)) ≤ n
    new : AreNew keys y.0

  pairs_read : (m : ℕ) (keys : List Value) (s : Place) (y : List (Value × Expr) × Place) → read_pairs_by n inside m keys s ≡ Ok y → ArePairs keys s y
  pairs_read zero keys s y h = along (ArePairs keys s) ([], s) y h (record { bytes = refl; keys_proper = tt; proper = tt; shallow = omega arith; new = tt })
  pairs_read (suc m) keys s y h = by_test (λ keys. pairs_read m keys) (begins_item s.0) h
    where
      by_test : ((keys : List Value) (s : Place) (y : List (Value × Expr) × Place) → read_pairs_by n inside m keys s ≡ Ok y → ArePairs keys s y) → (b : Bool) → cond b (and_then (read_pair n inside keys s) (λ p. λ s. and_then (read_pairs_by n inside m (keys ++ p.0 ∷ []) s) (λ more. pure (p ∷ more)))) (let r : Outcome (List (Value × Expr)) = Ok ([], s) in r) ≡ Ok y → ArePairs keys s y
      by_test others false h = along (ArePairs keys s) ([], s) y h (record { bytes = refl; keys_proper = tt; proper = tt; shallow = omega arith; new = tt })
      by_test others true h =
          let a = bind_ok (read_pair n inside keys s) (λ p. λ s. and_then (read_pairs_by n inside m (keys ++ p.0 ∷ []) s) (λ more. pure (p ∷ more))) y h in
          let b = bind_ok (read_pairs_by n inside m (keys ++ a.0.0 ∷ []) a.1) (λ more. pure (a.0 ∷ more)) y a.3 in
          let one = pair_read keys s (a.0, a.1) a.2 in
          let rest = others (keys ++ a.0.0 ∷ []) a.1 (b.0, b.1) b.2 in
          along (ArePairs keys s) (a.0 ∷ b.0, b.1) y b.3 (record {
            bytes = one.bytes ∙ (ap (λ r. (spelled a.0.0 ++ spelled_expr a.0.1) ++ r) rest.bytes ∙ sym (append_assoc (spelled a.0.0 ++ spelled_expr a.0.1) (joined (map (under_key (λ f. f)) (map spelled_second b.0))) b.1.0));
            keys_proper = (one.key, rest.keys_proper);
            proper = (one.proper, rest.proper);
            shallow = let p = one.shallow in let q = rest.shallow in omega (arith, p, q);
            new = (one.new, rest.new);
          })

  dict_lazy : (ps : List (Value × Expr)) → is_lazy (expr.DictOf ps) ≡ true → not (list_all (λ p. is_val p.1) ps) ≡ true
  dict_lazy ps h = ap (is_lazy_at is_val) (sym (expr.outs-DictOf ps)) ∙ h

  dict_of_read : (s : Place) (y : Expr × Place) → read_dict_of n inside s ≡ Ok y → IsExprKind n 100 s y
  unfolding read_dict_of
  dict_of_read s y h =
      let a = bind_ok (read_pairs n inside s) (λ ps. pure (expr.DictOf ps)) y h in
      let m = pairs_read (length s.0) [] s (a.0, a.1) a.2 in
      along (IsExprKind n 100 s) (expr.DictOf a.0, a.1) y a.3 (record {
        body = joined (map (under_key (λ f. f)) (map spelled_second a.0));
        bytes = m.bytes;
        whole = canon_dict_of (λ f. f) a.0;
        proper = λ lazy. proper_dict_of a.0 m.keys_proper m.new (dict_lazy a.0 lazy) m.proper;
        shallow = let d = depth_dict_of a.0 in let q = m.shallow in omega (arith, d, q);
      })

  -- ---- conditionals, maps, catches

  cond_read : (s : Place) (y : Expr × Place) → read_cond n inside s ≡ Ok y → IsExprKind n 110 s y
  unfolding read_cond
  cond_read s y h =
      let a = bind_ok (inside s) (λ a. λ s. and_then (inside s) (λ b. λ s. and_then (inside s) (λ c. pure (expr.Cond a b c)))) y h in
      let b = bind_ok (inside a.1) (λ b. λ s. and_then (inside s) (λ c. pure (expr.Cond a.0 b c))) y a.3 in
      let d = bind_ok (inside b.1) (λ c. pure (expr.Cond a.0 b.0 c)) y b.3 in
      let e = inner s (a.0, a.1) a.2 in
      let f = inner a.1 (b.0, b.1) b.2 in
      let g = inner b.1 (d.0, d.1) d.2 in
      along (IsExprKind n 110 s) (expr.Cond a.0 b.0 d.0, d.1) y d.3 (record {
        body = (spelled_expr a.0 ++ spelled_expr b.0) ++ spelled_expr d.0;
        bytes = e.bytes ∙ (ap (λ r. spelled_expr a.0 ++ r) (f.bytes ∙ ap (λ r. spelled_expr b.0 ++ r) g.bytes) ∙ (sym (append_assoc (spelled_expr a.0) (spelled_expr b.0) (spelled_expr d.0 ++ d.1.0)) ∙ sym (append_assoc (spelled_expr a.0 ++ spelled_expr b.0) (spelled_expr d.0) d.1.0)));
        whole = canon_cond (λ f. f) a.0 b.0 d.0;
        proper = λ lazy. proper_cond a.0 b.0 d.0 e.proper f.proper g.proper;
        shallow = let q = depth_cond a.0 b.0 d.0 in let u = e.shallow in let v = f.shallow in let w = g.shallow in omega (arith, q, u, v, w);
      })

  map_read : (s : Place) (y : Expr × Place) → read_map n inside s ≡ Ok y → IsExprKind n 109 s y
  unfolding read_map
  map_read s y h =
      let a = bind_ok (read_text s) (λ t. λ s. and_then (inside s) (λ e. pure (expr.Map t e))) y h in
      let b = bind_ok (inside a.1) (λ e. pure (expr.Map a.0 e)) y a.3 in
      let t = read_text_found s (a.0, a.1) a.2 in
      let e = inner a.1 (b.0, b.1) b.2 in
      along (IsExprKind n 109 s) (expr.Map a.0 b.0, b.1) y b.3 (record {
        body = string a.0 ++ spelled_expr b.0;
        bytes = t.0 ∙ (ap (λ r. string a.0 ++ r) e.bytes ∙ sym (append_assoc (string a.0) (spelled_expr b.0) b.1.0));
        whole = canon_map (λ f. f) a.0 b.0;
        proper = λ lazy. proper_map a.0 b.0 t.1 e.proper;
        shallow = let q = depth_map a.0 b.0 in let u = e.shallow in omega (arith, q, u);
      })

  catch_read : (s : Place) (y : Expr × Place) → read_catch n inside s ≡ Ok y → IsExprKind n 116 s y
  unfolding read_catch
  catch_read s y h =
      let a = bind_ok (inside s) (λ e. λ s. and_then (read_string s) (λ c. λ s. and_then (mean (class_of c) s) (λ class. λ s. and_then (read_text s) (λ t. pure (expr.Catch e class t))))) y h in
      let b = bind_ok (read_string a.1) (λ c. λ s. and_then (mean (class_of c) s) (λ class. λ s. and_then (read_text s) (λ t. pure (expr.Catch a.0 class t)))) y a.3 in
      let d = bind_ok (mean (class_of b.0) b.1) (λ class. λ s. and_then (read_text s) (λ t. pure (expr.Catch a.0 class t))) y b.3 in
      let f = bind_ok (read_text d.1) (λ t. pure (expr.Catch a.0 d.0 t)) y d.3 in
      let e = inner s (a.0, a.1) a.2 in
      let m = mean_found (class_of b.0) b.1 (d.0, d.1) d.2 in
      let k = class_found b.0 d.0 m.0 in
      let t = read_text_found d.1 (f.0, f.1) f.2 in
      let second : a.1.0 ≡ string (name d.0) ++ d.1.0 = read_string_found a.1 (b.0, b.1) b.2 ∙ (ap (λ x. string x ++ b.1.0) k ∙ ap (λ (p : Place). string (name d.0) ++ p.0) m.1) in
      along (IsExprKind n 116 s) (expr.Catch a.0 d.0 f.0, f.1) y f.3 (record {
        body = (spelled_expr a.0 ++ string (name d.0)) ++ string f.0;
        bytes = e.bytes ∙ (ap (λ r. spelled_expr a.0 ++ r) (second ∙ ap (λ r. string (name d.0) ++ r) t.0) ∙ (sym (append_assoc (spelled_expr a.0) (string (name d.0)) (string f.0 ++ f.1.0)) ∙ sym (append_assoc (spelled_expr a.0 ++ string (name d.0)) (string f.0) f.1.0)));
        whole = canon_catch (λ f. f) a.0 d.0 f.0;
        proper = λ lazy. proper_catch a.0 d.0 f.0 t.1 e.proper;
        shallow = let q = depth_catch a.0 d.0 f.0 in let u = e.shallow in omega (arith, q, u);
      })

  -- ---- all kinds

  letter_by : (c k : ℕ) (s : Place) (y : Expr × Place) (f g : Reader Expr) → (f s ≡ Ok y → IsExprKind n k s y) → (g s ≡ Ok y → IsExprKind n c s y) → (b : Bool) → (c == k) ≡ b → (cond b f g) s ≡ Ok y → IsExprKind n c s y
  letter_by c k s y f g this other true e h = subst (λ k. IsExprKind n k s y) (sym (same_number c k e)) (this h)
  letter_by c k s y f g this other false e h = other h

  kind_read : (c : ℕ) (s : Place) (y : Expr × Place) → read_expr_kind n inside c s ≡ Ok y → IsExprKind n c s y
  unfolding read_expr_kind
  kind_read c s y h =
      letter_by c 118 s y _ _ (val_read s y)
      (letter_by c 99 s y _ _ (call_read s y)
      (letter_by c 105 s y _ _ (input_read n s y)
      (letter_by c 111 s y _ _ (op_read s y)
      (letter_by c 108 s y _ _ (list_of_read s y)
      (letter_by c 100 s y _ _ (dict_of_read s y)
      (letter_by c 110 s y _ _ (cond_read s y)
      (letter_by c 109 s y _ _ (map_read s y)
      (letter_by c 116 s y _ _ (catch_read s y) (λ bad. absurd cc) (c == 116) refl) (c == 109) refl) (c == 110) refl) (c == 100) refl) (c == 108) refl) (c == 111) refl) (c == 105) refl) (c == 99) refl) (c == 118) refl h

  any_read : (s : Place) (y : Expr × Place) → read_any_expr n inside s ≡ Ok y → IsReadExpr (suc n) s y
  unfolding read_any_expr
  any_read s y h =
      let a = bind_ok (read_open s) (λ u. λ s. and_then (read_letter s) (λ c. λ s. and_then (read_expr_kind n inside c s) (λ e. λ s. and_then (read_close s) (λ b. λ s. and_then (check (is_lazy e) s) (λ u. pure e))))) y h in
      let b = bind_ok (read_letter a.1) (λ c. λ s. and_then (read_expr_kind n inside c s) (λ e. λ s. and_then (read_close s) (λ b. λ s. and_then (check (is_lazy e) s) (λ u. pure e)))) y a.3 in
      let d = bind_ok (read_expr_kind n inside b.0 b.1) (λ e. λ s. and_then (read_close s) (λ b. λ s. and_then (check (is_lazy e) s) (λ u. pure e))) y b.3 in
      let e = bind_ok (read_close d.1) (λ b. λ s. and_then (check (is_lazy d.0) s) (λ u. pure d.0)) y d.3 in
      let f = bind_ok (check (is_lazy d.0) e.1) (λ u. pure d.0) y e.3 in
      let k = kind_read b.0 b.1 (d.0, d.1) d.2 in
      let o = read_open_found s (a.0, a.1) a.2 in
      let l = read_letter_found a.1 (b.0, b.1) b.2 in
      let q = read_close_found d.1 (e.0, e.1) e.2 in
      let u = check_found (is_lazy d.0) e.1 (f.0, f.1) f.2 in
      along (IsReadExpr (suc n) s) (d.0, f.1) y f.3 (record {
        bytes = o ∙ (ap (λ r. 108 ∷ r) l ∙ (ap (λ r. 108 ∷ 49 ∷ 58 ∷ b.0 ∷ r) (k.bytes ∙ (ap (λ r. k.body ++ r) (q ∙ ap (λ (p : Place). 101 ∷ p.0) u.1) ∙ sym (append_assoc k.body (101 ∷ []) f.1.0))) ∙ ap (λ r. r ++ f.1.0) (sym k.whole)));
        proper = k.proper u.0;
        shallow = k.shallow;
      })

pub expr_read : (n : ℕ) (s : Place) (y : Expr × Place) → read_expr n s ≡ Ok y → IsReadExpr n s y
unfolding read_expr
expr_read zero s y h = absurd cc
expr_read (suc n) s y h = any_read n (read_expr n) (expr_read n) s y h
