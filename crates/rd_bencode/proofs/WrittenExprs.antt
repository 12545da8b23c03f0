-- What is written of an expression is one item, in which each number has its one spelling.
use Rattle.std.proofs.Common.{◌≡◌, ℕ, ◌+◌, ◌≤◌, List, [], ◌∷◌, ◌++◌, length, map, codes, ◌∙◌, append_assoc, arith}
use Rattle.std.proofs.lemmas.List.{length-append}
use Rattle.rd_value.specs.declared.class.Class.{Class}
use Rattle.rd_value.specs.declared.expr.OpKind.{OpKind}
use Rattle.rd_value.specs.declared.expr.Lazy.TheVariants as expr
use Rattle.rd_value.specs.declared.expr.Lazy.TheOpen.{Lazy-F}
use Rattle.rd_value.specs.Canon.{canon_expr, string, joined, named, under_key, op_text}
use Rattle.rd_value.specs.Class.{name}
use Rattle.rd_value.proofs.Ind.{Each, EachSecond, lazy_ind}
use Rattle.rd_bencode.specs.declared.form.Spelling.TheVariants.{One}
use Rattle.rd_bencode.specs.Form.{IsItem, AreItems}
use Rattle.rd_bencode.specs.Proper.{IsProperExpr, AreProperKeys}
use Rattle.rd_bencode.specs.Values.{Value}
use Rattle.rd_bencode.specs.Exprs.{Expr}
use Rattle.rd_bencode.proofs.Layers.{canon_val, canon_call, canon_input, canon_op, canon_list_of, canon_dict_of, canon_cond, canon_map, canon_catch}
use Rattle.rd_bencode.proofs.ExprsFound.{spelled_expr}
use Rattle.rd_bencode.proofs.ExprsOnly.{layer, held, list_by, op_by, call_by, dict_by, cond_by, map_by, catch_by, shorter, left_short, right_short, text_short}
use Rattle.rd_bencode.proofs.ValuesFound.{spelled}
use Rattle.rd_bencode.proofs.ValuesOnly.{most, class_short}
use Rattle.rd_bencode.proofs.Written.{string_item, items_join, alone, listed_item, tagged_item, two_items, value_item}

abbrev pub ItemExpr : Expr → Type 0
ItemExpr e = IsProperExpr e → length (spelled_expr e) ≤ most → IsItem One (spelled_expr e)

each_expr : (xs : List Expr) → Each ItemExpr xs → Each IsProperExpr xs → length (joined (map spelled_expr xs)) ≤ most → AreItems One (joined (map spelled_expr xs))
each_expr [] hs ps le = AreItems.none
each_expr (x ∷ xs) hs ps le =
    let rest : List ℕ = joined (map spelled_expr xs) in
    AreItems.more (spelled_expr x) rest (hs.0 ps.0 (left_short (spelled_expr x) rest le)) (each_expr xs hs.1 ps.1 (right_short (spelled_expr x) rest le))

abbrev names_of : List (List ℕ × Expr) → List ℕ
names_of ks = joined (map named (map (λ p. (p.0, canon_expr (λ f. f) p.1)) ks))

each_name : (ks : List (List ℕ × Expr)) → EachSecond ItemExpr ks → EachSecond IsProperExpr ks → length (names_of ks) ≤ most → AreItems One (names_of ks)
each_name [] hs ps le = AreItems.none
each_name (k ∷ ks) hs ps le =
    let two : List ℕ = string k.0 ++ spelled_expr k.1 in
    let here = left_short two (names_of ks) le in
    items_join two (names_of ks) (two_items (string k.0) (spelled_expr k.1) (string_item k.0 (text_short k.0 (left_short (string k.0) (spelled_expr k.1) here))) (hs.0 ps.0 (right_short (string k.0) (spelled_expr k.1) here))) (each_name ks hs.1 ps.1 (right_short two (names_of ks) le))

abbrev keys_of : List (Value × Expr) → List ℕ
keys_of ps = joined (map (under_key (λ f. f)) (map (λ p. (p.0, canon_expr (λ f. f) p.1)) ps))

each_key : (ps : List (Value × Expr)) → EachSecond ItemExpr ps → AreProperKeys ps → EachSecond IsProperExpr ps → length (keys_of ps) ≤ most → AreItems One (keys_of ps)
each_key [] hs ks qs le = AreItems.none
each_key (p ∷ ps) hs ks qs le =
    let two : List ℕ = spelled p.0 ++ spelled_expr p.1 in
    let here = left_short two (keys_of ps) le in
    items_join two (keys_of ps) (two_items (spelled p.0) (spelled_expr p.1) (value_item p.0 ks.0 (left_short (spelled p.0) (spelled_expr p.1) here)) (hs.0 qs.0 (right_short (spelled p.0) (spelled_expr p.1) here))) (each_key ps hs.1 ks.1 qs.1 (right_short two (keys_of ps) le))

val_item : (v : Value) → ItemExpr (expr.Val v)
val_item v proper le =
    let is = canon_val (λ f. f) v in
    let own = layer (expr.Val v) (Lazy-F.Val v) (expr.outs-Val v) proper in
    tagged_item 118 (spelled v) (spelled_expr (expr.Val v)) is (alone (spelled v) (value_item v own (shorter 118 (spelled v) (spelled_expr (expr.Val v)) is le)))

call_whole : (t x w : List ℕ) → codes "l1:c" ++ t ++ codes "l" ++ x ++ codes "el" ++ w ++ codes "ee" ≡ 108 ∷ 49 ∷ 58 ∷ 99 ∷ ((t ++ ((108 ∷ (x ++ (101 ∷ []))) ++ (108 ∷ (w ++ (101 ∷ []))))) ++ (101 ∷ []))
call_whole t x w = simp append_assoc

inside_short : (x : List ℕ) → length (108 ∷ (x ++ (101 ∷ []))) ≤ most → length x ≤ most
inside_short x le = let p : length (x ++ (101 ∷ [])) ≡ length x + 1 = length-append x (101 ∷ []) in omega (arith, p, le)

call_item : (t : List ℕ) (xs : List Expr) (ks : List (List ℕ × Expr)) → Each ItemExpr xs → EachSecond ItemExpr ks → ItemExpr (expr.Call t xs ks)
call_item t xs ks hs gs proper le =
    let x : List ℕ = joined (map spelled_expr xs) in
    let w : List ℕ = names_of ks in
    let lx : List ℕ = 108 ∷ (x ++ (101 ∷ [])) in
    let lw : List ℕ = 108 ∷ (w ++ (101 ∷ [])) in
    let body : List ℕ = string t ++ (lx ++ lw) in
    let is : spelled_expr (expr.Call t xs ks) ≡ 108 ∷ 49 ∷ 58 ∷ 99 ∷ (body ++ (101 ∷ [])) = canon_call (λ f. f) t xs ks ∙ call_whole (string t) x w in
    let small = shorter 99 body (spelled_expr (expr.Call t xs ks)) is le in
    let lists = right_short (string t) (lx ++ lw) small in
    let y = held (expr.Call t xs ks) (Lazy-F.Call t xs ks) (expr.outs-Call t xs ks) proper in
    let parts = call_by t xs ks y.0 y.1 in
    let first : IsItem One lx = listed_item x (each_expr xs hs parts.0 (inside_short x (left_short lx lw lists))) in
    let second : IsItem One lw = listed_item w (each_name ks gs parts.1 (inside_short w (right_short lx lw lists))) in
    tagged_item 99 body (spelled_expr (expr.Call t xs ks)) is (AreItems.more (string t) (lx ++ lw) (string_item t (text_short t (left_short (string t) (lx ++ lw) small))) (two_items lx lw first second))

input_item : (p : List ℕ) → ItemExpr (expr.Input p)
input_item p proper le =
    let is = canon_input (λ f. f) p in
    tagged_item 105 (string p) (spelled_expr (expr.Input p)) is (alone (string p) (string_item p (text_short p (shorter 105 (string p) (spelled_expr (expr.Input p)) is le))))

op_item : (o : OpKind) (xs : List Expr) → Each ItemExpr xs → ItemExpr (expr.Op o xs)
op_item o xs hs proper le =
    let x : List ℕ = joined (map spelled_expr xs) in
    let body : List ℕ = string (op_text o) ++ x in
    let is = canon_op (λ f. f) o xs in
    let small = shorter 111 body (spelled_expr (expr.Op o xs)) is le in
    let y = held (expr.Op o xs) (Lazy-F.Op o xs) (expr.outs-Op o xs) proper in
    tagged_item 111 body (spelled_expr (expr.Op o xs)) is (AreItems.more (string (op_text o)) x (string_item (op_text o) (text_short (op_text o) (left_short (string (op_text o)) x small))) (each_expr xs hs (op_by o xs y.0 y.1) (right_short (string (op_text o)) x small)))

list_of_item : (xs : List Expr) → Each ItemExpr xs → ItemExpr (expr.ListOf xs)
list_of_item xs hs proper le =
    let x : List ℕ = joined (map spelled_expr xs) in
    let is = canon_list_of (λ f. f) xs in
    let y = held (expr.ListOf xs) (Lazy-F.ListOf xs) (expr.outs-ListOf xs) proper in
    tagged_item 108 x (spelled_expr (expr.ListOf xs)) is (each_expr xs hs (list_by xs y.0 y.1) (shorter 108 x (spelled_expr (expr.ListOf xs)) is le))

dict_of_item : (ps : List (Value × Expr)) → EachSecond ItemExpr ps → ItemExpr (expr.DictOf ps)
dict_of_item ps hs proper le =
    let is = canon_dict_of (λ f. f) ps in
    let own = layer (expr.DictOf ps) (Lazy-F.DictOf ps) (expr.outs-DictOf ps) proper in
    let y = held (expr.DictOf ps) (Lazy-F.DictOf ps) (expr.outs-DictOf ps) proper in
    tagged_item 100 (keys_of ps) (spelled_expr (expr.DictOf ps)) is (each_key ps hs own.0 (dict_by ps y.0 y.1) (shorter 100 (keys_of ps) (spelled_expr (expr.DictOf ps)) is le))

cond_item : (a b c : Expr) → ItemExpr a → ItemExpr b → ItemExpr c → ItemExpr (expr.Cond a b c)
cond_item a b c f g h proper le =
    let two : List ℕ = spelled_expr a ++ spelled_expr b in
    let body : List ℕ = two ++ spelled_expr c in
    let is = canon_cond (λ f. f) a b c in
    let small = shorter 110 body (spelled_expr (expr.Cond a b c)) is le in
    let front = left_short two (spelled_expr c) small in
    let y = held (expr.Cond a b c) (Lazy-F.Cond a b c) (expr.outs-Cond a b c) proper in
    let parts = cond_by a b c y.0 y.1 in
    tagged_item 110 body (spelled_expr (expr.Cond a b c)) is
    (items_join two (spelled_expr c) (two_items (spelled_expr a) (spelled_expr b) (f parts.0 (left_short (spelled_expr a) (spelled_expr b) front)) (g parts.1 (right_short (spelled_expr a) (spelled_expr b) front))) (alone (spelled_expr c) (h parts.2 (right_short two (spelled_expr c) small))))

map_item : (t : List ℕ) (e : Expr) → ItemExpr e → ItemExpr (expr.Map t e)
map_item t e f proper le =
    let body : List ℕ = string t ++ spelled_expr e in
    let is = canon_map (λ f. f) t e in
    let small = shorter 109 body (spelled_expr (expr.Map t e)) is le in
    let y = held (expr.Map t e) (Lazy-F.Map t e) (expr.outs-Map t e) proper in
    tagged_item 109 body (spelled_expr (expr.Map t e)) is (two_items (string t) (spelled_expr e) (string_item t (text_short t (left_short (string t) (spelled_expr e) small))) (f (map_by t e y.0 y.1) (right_short (string t) (spelled_expr e) small)))

catch_item : (e : Expr) (c : Class) (t : List ℕ) → ItemExpr e → ItemExpr (expr.Catch e c t)
catch_item e c t f proper le =
    let two : List ℕ = spelled_expr e ++ string (name c) in
    let body : List ℕ = two ++ string t in
    let is = canon_catch (λ f. f) e c t in
    let small = shorter 116 body (spelled_expr (expr.Catch e c t)) is le in
    let front = left_short two (string t) small in
    let y = held (expr.Catch e c t) (Lazy-F.Catch e c t) (expr.outs-Catch e c t) proper in
    tagged_item 116 body (spelled_expr (expr.Catch e c t)) is
    (items_join two (string t) (two_items (spelled_expr e) (string (name c)) (f (catch_by e c t y.0 y.1) (left_short (spelled_expr e) (string (name c)) front)) (string_item (name c) (omega (arith, class_short c)))) (alone (string t) (string_item t (text_short t (right_short two (string t) small)))))

pub expr_item : (e : Expr) → ItemExpr e
expr_item = lazy_ind ItemExpr val_item call_item input_item op_item list_of_item dict_of_item cond_item map_item catch_item
