-- No canonical bytes begin other ones.
use Rattle.std.proofs.Common.{◌≡◌, ℕ, ◌+◌, ◌^◌, ◌<◌, max, List, [], ◌++◌, length, Ok, sym, ap, ◌∙◌, append-nil, arith}
use Rattle.std.proofs.lemmas.List.{length-append}
use Rattle.rd_value.specs.Depth.{depth, depth_expr}
use Rattle.rd_bencode.specs.Reader.{Outcome}
use Rattle.rd_bencode.specs.Proper.{IsProper, IsProperExpr}
use Rattle.rd_bencode.specs.Values.{Value, read_value}
use Rattle.rd_bencode.specs.Exprs.{Expr, read_expr}
use Rattle.rd_bencode.proofs.ExprsFound.{spelled_expr}
use Rattle.rd_bencode.proofs.ExprsOnly.{only_expr}
use Rattle.rd_bencode.proofs.ValuesFound.{spelled}
use Rattle.rd_bencode.proofs.ValuesOnly.{only_value}

same_read : {A : Type 0} (r : Outcome A) (a b : A) (k j l m : List ℕ) → r ≡ Ok (a, (k, l)) → r ≡ Ok (b, (j, m)) → a ≡ b
same_read {A} r a b k j l m p q = let e : (let x : A × (List ℕ × List ℕ) = (a, (k, l)) in x) ≡ (b, (j, m)) = cc in ap (λ (x : A × (List ℕ × List ℕ)). x.0) e

pub value_begins_one : (v w : Value) (more : List ℕ) → IsProper v → IsProper w → length (spelled w) < 2 ^ 64 → spelled v ++ more ≡ spelled w → v ≡ w
value_begins_one v w more pv pw small is =
    let n : ℕ = max (depth v) (depth w) in
    let size : length (spelled v) + length more ≡ length (spelled w) = sym (length-append (spelled v) more) ∙ ap length is in
    let a = only_value v n more pv (omega arith) (omega (arith, small, size)) [] in
    let b = only_value w n [] pw (omega arith) (omega (arith, small)) [] in
    same_read (read_value n (spelled v ++ more, [])) v w more [] a.0 b.0 a.1 (ap (λ x. read_value n (x, [])) (is ∙ sym (append-nil (spelled w))) ∙ b.1)

pub values_apart : (v w : Value) → IsProper v → IsProper w → length (spelled v) < 2 ^ 64 → spelled v ≡ spelled w → v ≡ w
values_apart v w pv pw small is =
    let same : length (spelled v) ≡ length (spelled w) = ap length is in
    value_begins_one v w [] pv pw (omega (arith, small, same)) (append-nil (spelled v) ∙ is)

pub expr_begins_one : (d e : Expr) (more : List ℕ) → IsProperExpr d → IsProperExpr e → length (spelled_expr e) < 2 ^ 64 → spelled_expr d ++ more ≡ spelled_expr e → d ≡ e
expr_begins_one d e more pd pe small is =
    let n : ℕ = max (depth_expr d) (depth_expr e) in
    let size : length (spelled_expr d) + length more ≡ length (spelled_expr e) = sym (length-append (spelled_expr d) more) ∙ ap length is in
    let a = only_expr d n more pd (omega arith) (omega (arith, small, size)) [] in
    let b = only_expr e n [] pe (omega arith) (omega (arith, small)) [] in
    same_read (read_expr n (spelled_expr d ++ more, [])) d e more [] a.0 b.0 a.1 (ap (λ x. read_expr n (x, [])) (is ∙ sym (append-nil (spelled_expr e))) ∙ b.1)

pub exprs_apart : (d e : Expr) → IsProperExpr d → IsProperExpr e → length (spelled_expr d) < 2 ^ 64 → spelled_expr d ≡ spelled_expr e → d ≡ e
exprs_apart d e pd pe small is =
    let same : length (spelled_expr d) ≡ length (spelled_expr e) = ap length is in
    expr_begins_one d e [] pd pe (omega (arith, small, same)) (append-nil (spelled_expr d) ∙ is)
