-- The canonical bytes of a proper expression are read as it.
use Rattle.std.proofs.Common.{◌≡◌, ℕ, zero, suc, ◌+◌, ◌≤◌, true, false, List, [], ◌∷◌, ◌++◌, length, map, codes, Some, refl, sym, ap, subst, ◌∙◌, append_assoc, arith}
use Rattle.std.specs.Str.{IsUtf8}
use Rattle.std.proofs.lemmas.List.{length-append}
use Rattle.rd_base.specs.Path.{is_path}
use Rattle.rd_value.specs.declared.class.Class.{Class}
use Rattle.rd_value.specs.declared.value.FileValue.{FileValue}
use Rattle.rd_value.specs.declared.expr.OpKind.{OpKind}
use Rattle.rd_value.specs.declared.expr.OpKind.TheVariants.{Add, Sub, Mul, FloorDiv, Mod, Neg, Eq, Ne, Lt, Le, Gt, Ge, Index}
use Rattle.rd_value.specs.declared.expr.Lazy.{out-Lazy}
use Rattle.rd_value.specs.declared.expr.Lazy.TheVariants as expr
use Rattle.rd_value.specs.declared.expr.Lazy.TheOpen.{Lazy-F}
use Rattle.rd_value.specs.declared.expr.Lazy.TheFolds.{every_here-Lazy, every_held-Lazy, map-Lazy}
use Rattle.rd_value.specs.Canon.{string, joined, named, under_key, op_text}
use Rattle.rd_value.specs.Class.{name}
use Rattle.rd_value.specs.Depth.{depth, depth_expr, greatest, named_depth, keyed_depth}
use Rattle.rd_value.proofs.Ind.{Each, EachSecond, lazy_ind, datum_ind}
use Rattle.rd_value.proofs.ExprLayers.{depth_call, depth_dict_of}
use Rattle.rd_value.proofs.Layers.{depth_list, depth_dict}
use Rattle.rd_bencode.specs.Reader.{Reader, begins_item, read_many_by, read_many}
use Rattle.rd_bencode.specs.Values.{Value, read_text, read_value, read_pair, read_pairs_by}
use Rattle.rd_bencode.specs.Exprs.{Expr, op_of, is_val, is_lazy_at, is_lazy, read_input, read_val, read_named, read_call, read_one, read_two, read_parts, read_op, read_list_of, read_dict_of, read_cond, read_map, read_catch, read_expr_kind, read_any_expr, read_expr}
use Rattle.rd_bencode.specs.Proper.{IsProper, IsProperExpr, IsProperExprAt, AreNew, AreTexts, AreProperKeys, arity}
use Rattle.rd_bencode.proofs.Layers.{canon_val, canon_call, canon_input, canon_op, canon_list_of, canon_dict_of, canon_cond, canon_map, canon_catch, depth_val, depth_input, depth_op, depth_list_of, depth_cond, depth_map, depth_catch, depth_nothing, depth_bool, depth_int, depth_text, depth_file, depth_error}
use Rattle.rd_bencode.proofs.Meaning.{is_text, is_path_text}
use Rattle.rd_bencode.proofs.Strings.{string_only}
use Rattle.rd_bencode.proofs.ValuesFound.{spelled}
use Rattle.rd_bencode.proofs.ValuesOnly.{Reads, most, digit_first, string_longer, string_begins, value_begins, class_is, class_short, key_reads, only_value}
use Rattle.rd_bencode.proofs.ExprsFound.{spelled_expr}

-- ---- the parts of a proper expression

abbrev pub Held : Type 0
Held = (e : Expr) × IsProperExpr e

abbrev pub first_held : Held → Expr
first_held h = h.0

pub layer : (e : Expr) (x : Lazy-F FileValue Expr) → out-Lazy FileValue e ≡ x → IsProperExpr e → IsProperExprAt x
layer e x is h = subst IsProperExprAt is (every_here-Lazy FileValue IsProperExprAt e h)

each_of : (hs : List Held) → Each IsProperExpr (map first_held hs)
each_of [] = tt
each_of (h ∷ hs) = (h.1, each_of hs)

seconds_of : {K : Type 0} (hs : List (K × Held)) → EachSecond IsProperExpr (map (λ h. (h.0, first_held h.1)) hs)
seconds_of [] = tt
seconds_of (h ∷ hs) = (h.1.1, seconds_of hs)

abbrev pub Layer : Type 0
Layer = Lazy-F FileValue Held

abbrev pub under : Layer → Lazy-F FileValue Expr
under = map-Lazy FileValue Held Expr first_held

pub held : (e : Expr) (x : Lazy-F FileValue Expr) → out-Lazy FileValue e ≡ x → IsProperExpr e → (y : Layer) × (under y ≡ x)
held e x is h = let y = every_held-Lazy FileValue IsProperExprAt e h in (y.0, y.1 ∙ is)

pub list_by : (es : List Expr) (y : Layer) → under y ≡ Lazy-F.ListOf es → Each IsProperExpr es
list_by es (Lazy-F.ListOf hs) e = let is : map first_held hs ≡ es = cc in subst (Each IsProperExpr) is (each_of hs)
list_by es _ e = absurd cc

pub op_by : (o : OpKind) (es : List Expr) (y : Layer) → under y ≡ Lazy-F.Op o es → Each IsProperExpr es
op_by o es (Lazy-F.Op p hs) e = let is : map first_held hs ≡ es = cc in subst (Each IsProperExpr) is (each_of hs)
op_by o es _ e = absurd cc

pub call_by : (t : List ℕ) (es : List Expr) (ks : List (List ℕ × Expr)) (y : Layer) → under y ≡ Lazy-F.Call t es ks → Each IsProperExpr es × EachSecond IsProperExpr ks
call_by t es ks (Lazy-F.Call u hs gs) e = let is : map first_held hs ≡ es = cc in let at : map (λ h. (h.0, first_held h.1)) gs ≡ ks = cc in (subst (Each IsProperExpr) is (each_of hs), subst (EachSecond IsProperExpr) at (seconds_of gs))
call_by t es ks _ e = absurd cc

pub dict_by : (ps : List (Value × Expr)) (y : Layer) → under y ≡ Lazy-F.DictOf ps → EachSecond IsProperExpr ps
dict_by ps (Lazy-F.DictOf hs) e = let is : map (λ h. (h.0, first_held h.1)) hs ≡ ps = cc in subst (EachSecond IsProperExpr) is (seconds_of hs)
dict_by ps _ e = absurd cc

pub cond_by : (a b c : Expr) (y : Layer) → under y ≡ Lazy-F.Cond a b c → IsProperExpr a × IsProperExpr b × IsProperExpr c
cond_by a b c (Lazy-F.Cond f g h) e = let p : f.0 ≡ a = cc in let q : g.0 ≡ b = cc in let r : h.0 ≡ c = cc in (subst IsProperExpr p f.1, subst IsProperExpr q g.1, subst IsProperExpr r h.1)
cond_by a b c _ e = absurd cc

pub map_by : (t : List ℕ) (x : Expr) (y : Layer) → under y ≡ Lazy-F.Map t x → IsProperExpr x
map_by t x (Lazy-F.Map u h) e = let p : h.0 ≡ x = cc in subst IsProperExpr p h.1
map_by t x _ e = absurd cc

pub catch_by : (x : Expr) (c : Class) (t : List ℕ) (y : Layer) → under y ≡ Lazy-F.Catch x c t → IsProperExpr x
catch_by x c t (Lazy-F.Catch h d u) e = let p : h.0 ≡ x = cc in subst IsProperExpr p h.1
catch_by x c t _ e = absurd cc

-- ---- first bytes

abbrev pub Begins : Expr → Type 0
Begins e = (k : List ℕ) → begins_item (spelled_expr e ++ k) ≡ true

expr_begins : (e : Expr) → Begins e
expr_begins = lazy_ind Begins
    (λ v k. rw (canon_val (λ f. f) v) refl)
    (λ t xs ks hs gs k. rw (canon_call (λ f. f) t xs ks) refl)
    (λ p k. rw (canon_input (λ f. f) p) refl)
    (λ o xs hs k. rw (canon_op (λ f. f) o xs) refl)
    (λ xs hs k. rw (canon_list_of (λ f. f) xs) refl)
    (λ ps hs k. rw (canon_dict_of (λ f. f) ps) refl)
    (λ a b c f g h k. rw (canon_cond (λ f. f) a b c) refl)
    (λ t e f k. rw (canon_map (λ f. f) t e) refl)
    (λ e c r f k. rw (canon_catch (λ f. f) e c r) refl)

expr_length : (e : Expr) → 1 ≤ length (spelled_expr e)
expr_length e = by_list (spelled_expr e) (expr_begins e [])
  where
    by_list : (bs : List ℕ) → begins_item (bs ++ []) ≡ true → 1 ≤ length bs
    by_list [] h = absurd (let bad : false ≡ true = h in cc)
    by_list (b ∷ bs) h = omega arith

op_is : (o : OpKind) → op_of (op_text o) ≡ Some o
unfolding op_of
op_is Add = refl
op_is Sub = refl
op_is Mul = refl
op_is FloorDiv = refl
op_is Mod = refl
op_is Neg = refl
op_is Eq = refl
op_is Ne = refl
op_is Lt = refl
op_is Le = refl
op_is Gt = refl
op_is Ge = refl
op_is Index = refl

op_short : (o : OpKind) → length (op_text o) ≤ 5
op_short Add = omega arith
op_short Sub = omega arith
op_short Mul = omega arith
op_short FloorDiv = omega arith
op_short Mod = omega arith
op_short Neg = omega arith
op_short Eq = omega arith
op_short Ne = omega arith
op_short Lt = omega arith
op_short Le = omega arith
op_short Gt = omega arith
op_short Ge = omega arith
op_short Index = omega arith

module _ (n : ℕ) (inside : Reader Expr) where
  abbrev Inside : Expr → Type 0
  Inside e = (k : List ℕ) → Reads inside (spelled_expr e ++ k) e k

  -- between a letter and an end
  abbrev KindReads : ℕ → List ℕ → Expr → Type 0
  KindReads c body e = (k : List ℕ) → Reads (read_expr_kind n inside c) (body ++ (101 ∷ k)) e (101 ∷ k)

  tagged_reads : (c : ℕ) (body : List ℕ) (e : Expr) (k : List ℕ) → is_lazy e ≡ true → KindReads c body e → Reads (read_any_expr n inside) ((108 ∷ 49 ∷ 58 ∷ c ∷ (body ++ (101 ∷ []))) ++ k) e k
  unfolding read_any_expr
  tagged_reads c body e k lazy f last =
      let g = f k (49 ∷ 58 ∷ c ∷ (body ++ (101 ∷ k))) in
      let assoc : (body ++ (101 ∷ [])) ++ k ≡ body ++ (101 ∷ k) = append_assoc body (101 ∷ []) k in
      (g.0, rw (assoc, g.1, lazy) refl)

  input_reads : (p : List ℕ) → is_path p ≡ true → IsUtf8 p → length p ≤ most → KindReads 105 (string p) (expr.Input p)
  unfolding read_expr_kind read_input
  input_reads p lawful utf8 le k last = (string p ++ (101 ∷ k), rw (string_only p (101 ∷ k) le, is_path_text p utf8 lawful) refl)

  val_reads : (v : Value) → ((k : List ℕ) → Reads (read_value (suc n)) (spelled v ++ k) v k) → KindReads 118 (spelled v) (expr.Val v)
  unfolding read_expr_kind read_val
  val_reads v f k last = let g = f (101 ∷ k) last in (g.0, rw g.1 refl)

  -- ---- lists

  many_reads : (m : ℕ) (xs : List Expr) (k : List ℕ) → Each Inside xs → length xs ≤ m → Reads (read_many_by inside m) (joined (map spelled_expr xs) ++ (101 ∷ k)) xs (101 ∷ k)
  many_reads zero [] k hs fuel last = (last, refl)
  many_reads zero (x ∷ xs) k hs fuel last = absurd (omega arith)
  many_reads (suc m) [] k hs fuel last = (last, refl)
  many_reads (suc m) (x ∷ xs) k hs fuel last =
      let behind : List ℕ = joined (map spelled_expr xs) ++ (101 ∷ k) in
      let one = hs.0 behind last in
      let rest = many_reads m xs k hs.1 (omega (arith, fuel)) one.0 in
      let assoc : (spelled_expr x ++ joined (map spelled_expr xs)) ++ (101 ∷ k) ≡ spelled_expr x ++ behind = append_assoc (spelled_expr x) (joined (map spelled_expr xs)) (101 ∷ k) in
      (rest.0, rw (assoc, expr_begins x behind, one.1, rest.1) refl)

  more_bytes : (xs : List Expr) → length xs ≤ length (joined (map spelled_expr xs))
  more_bytes [] = omega arith
  more_bytes (x ∷ xs) =
      let whole : length (joined (map spelled_expr (x ∷ xs))) ≡ length (spelled_expr x) + length (joined (map spelled_expr xs)) = length-append (spelled_expr x) (joined (map spelled_expr xs)) in
      omega (arith, whole, expr_length x, more_bytes xs)

  all_reads : (xs : List Expr) (k : List ℕ) → Each Inside xs → Reads (read_many inside) (joined (map spelled_expr xs) ++ (101 ∷ k)) xs (101 ∷ k)
  all_reads xs k hs last =
      let size : length (joined (map spelled_expr xs) ++ (101 ∷ k)) ≡ length (joined (map spelled_expr xs)) + length (101 ∷ k) = length-append (joined (map spelled_expr xs)) (101 ∷ k) in
      many_reads (length (joined (map spelled_expr xs) ++ (101 ∷ k))) xs k hs (omega (arith, size, more_bytes xs)) last

  list_of_reads : (xs : List Expr) → Each Inside xs → KindReads 108 (joined (map spelled_expr xs)) (expr.ListOf xs)
  unfolding read_expr_kind read_list_of
  list_of_reads xs hs k last = let m = all_reads xs k hs last in (m.0, rw m.1 refl)

  -- ---- names

  abbrev spelled_second : {K : Type 0} → K × Expr → K × List ℕ
  spelled_second p = (p.0, spelled_expr p.1)

  abbrev names_bytes : List (List ℕ × Expr) → List ℕ
  names_bytes ks = joined (map named (map spelled_second ks))

  names_read : (m : ℕ) (ks : List (List ℕ × Expr)) (k : List ℕ) → AreTexts ks → EachSecond Inside ks → length ks ≤ m → length (names_bytes ks) ≤ most → Reads (read_many_by (read_named n inside) m) (names_bytes ks ++ (101 ∷ k)) ks (101 ∷ k)
  unfolding read_named read_text
  names_read zero [] k us hs fuel le last = (last, refl)
  names_read zero (x ∷ xs) k us hs fuel le last = absurd (omega arith)
  names_read (suc m) [] k us hs fuel le last = (last, refl)
  names_read (suc m) (x ∷ xs) k us hs fuel le last =
      let whole : length (names_bytes (x ∷ xs)) ≡ length (string x.0 ++ spelled_expr x.1) + length (names_bytes xs) = length-append (string x.0 ++ spelled_expr x.1) (names_bytes xs) in
      let two : length (string x.0 ++ spelled_expr x.1) ≡ length (string x.0) + length (spelled_expr x.1) = length-append (string x.0) (spelled_expr x.1) in
      let small : length x.0 ≤ most = omega (arith, le, whole, two, string_longer x.0) in
      let behind : List ℕ = names_bytes xs ++ (101 ∷ k) in
      let middle : List ℕ = spelled_expr x.1 ++ behind in
      let one = hs.0 behind (string x.0 ++ middle) in
      let rest = names_read m xs k us.1 hs.1 (omega (arith, fuel)) (omega (arith, le, whole)) one.0 in
      let assoc : ((string x.0 ++ spelled_expr x.1) ++ names_bytes xs) ++ (101 ∷ k) ≡ string x.0 ++ middle = append_assoc (string x.0 ++ spelled_expr x.1) (names_bytes xs) (101 ∷ k) ∙ append_assoc (string x.0) (spelled_expr x.1) behind in
      let b = string_begins x.0 middle small in
      let begins : begins_item (string x.0 ++ middle) ≡ true = rw b.2 (digit_first b.0 b.3) in
      (rest.0, rw (assoc, begins, string_only x.0 middle small, is_text x.0 us.0, one.1, rest.1) refl)

  more_name_bytes : (ks : List (List ℕ × Expr)) → length ks ≤ length (names_bytes ks)
  more_name_bytes [] = omega arith
  more_name_bytes (x ∷ xs) =
      let whole : length (names_bytes (x ∷ xs)) ≡ length (string x.0 ++ spelled_expr x.1) + length (names_bytes xs) = length-append (string x.0 ++ spelled_expr x.1) (names_bytes xs) in
      let two : length (string x.0 ++ spelled_expr x.1) ≡ length (string x.0) + length (spelled_expr x.1) = length-append (string x.0) (spelled_expr x.1) in
      omega (arith, whole, two, expr_length x.1, more_name_bytes xs)

  names_all : (ks : List (List ℕ × Expr)) (k : List ℕ) → AreTexts ks → EachSecond Inside ks → length (names_bytes ks) ≤ most → Reads (read_many (read_named n inside)) (names_bytes ks ++ (101 ∷ k)) ks (101 ∷ k)
  names_all ks k us hs le last =
      let size : length (names_bytes ks ++ (101 ∷ k)) ≡ length (names_bytes ks) + length (101 ∷ k) = length-append (names_bytes ks) (101 ∷ k) in
      names_read (length (names_bytes ks ++ (101 ∷ k))) ks k us hs (omega (arith, size, more_name_bytes ks)) le last

  abbrev call_body : List ℕ → List ℕ → List ℕ → List ℕ
  call_body t x w = (((t ++ (108 ∷ [])) ++ x) ++ (101 ∷ 108 ∷ [])) ++ w ++ (101 ∷ [])

  call_bytes : (t x w r : List ℕ) → call_body t x w ++ r ≡ t ++ (108 ∷ (x ++ (101 ∷ (108 ∷ (w ++ (101 ∷ r))))))
  call_bytes t x w r = simp append_assoc

  call_reads : (t : List ℕ) (xs : List Expr) (ks : List (List ℕ × Expr)) → IsUtf8 t → length t ≤ most → Each Inside xs → AreTexts ks → EachSecond Inside ks → length (names_bytes ks) ≤ most →
      KindReads 99 (call_body (string t) (joined (map spelled_expr xs)) (names_bytes ks)) (expr.Call t xs ks)
  unfolding read_expr_kind read_call read_text
  call_reads t xs ks utf8 le hs us gs small k last =
      let w : List ℕ = names_bytes ks in
      let x : List ℕ = joined (map spelled_expr xs) in
      let behind : List ℕ = 108 ∷ (w ++ (101 ∷ (101 ∷ k))) in
      let middle : List ℕ = 108 ∷ (x ++ (101 ∷ behind)) in
      let m = all_reads xs behind hs middle in
      let q = names_all ks (101 ∷ k) us gs small behind in
      (q.0, rw (call_bytes (string t) x w (101 ∷ k), string_only t middle le, is_text t utf8, m.1, q.1) refl)

  -- ---- operators

  one_reads : (xs : List Expr) (k : List ℕ) → length xs ≡ 1 → Each Inside xs → Reads (read_one n inside) (joined (map spelled_expr xs) ++ k) xs k
  unfolding read_one
  one_reads [] k is hs last = absurd (omega arith)
  one_reads (x ∷ []) k is hs last = let g = hs.0 k last in let assoc : (spelled_expr x ++ []) ++ k ≡ spelled_expr x ++ k = append_assoc (spelled_expr x) [] k in (g.0, rw (assoc, g.1) refl)
  one_reads (x ∷ y ∷ xs) k is hs last = absurd (omega arith)

  two_reads : (xs : List Expr) (k : List ℕ) → length xs ≡ 2 → Each Inside xs → Reads (read_two n inside) (joined (map spelled_expr xs) ++ k) xs k
  unfolding read_two
  two_reads [] k is hs last = absurd (omega arith)
  two_reads (x ∷ []) k is hs last = absurd (omega arith)
  two_reads (x ∷ y ∷ []) k is hs last =
      let g = hs.0 (spelled_expr y ++ k) last in
      let h = hs.1.0 k g.0 in
      let assoc : (spelled_expr x ++ (spelled_expr y ++ [])) ++ k ≡ spelled_expr x ++ (spelled_expr y ++ k) = append_assoc (spelled_expr x) (spelled_expr y ++ []) k ∙ ap (λ r. spelled_expr x ++ r) (append_assoc (spelled_expr y) [] k) in
      (h.0, rw (assoc, g.1, h.1) refl)
  two_reads (x ∷ y ∷ z ∷ xs) k is hs last = absurd (omega arith)

  abbrev PartsRead : OpKind → Type 0
  PartsRead o = (xs : List Expr) (k : List ℕ) → length xs ≡ arity o → Each Inside xs → Reads (read_parts n inside o) (joined (map spelled_expr xs) ++ k) xs k

  parts_read : (o : OpKind) → PartsRead o
  parts_read Neg = one_reads
  parts_read Add = two_reads
  parts_read Sub = two_reads
  parts_read Mul = two_reads
  parts_read FloorDiv = two_reads
  parts_read Mod = two_reads
  parts_read Eq = two_reads
  parts_read Ne = two_reads
  parts_read Lt = two_reads
  parts_read Le = two_reads
  parts_read Gt = two_reads
  parts_read Ge = two_reads
  parts_read Index = two_reads

  op_reads : (o : OpKind) (xs : List Expr) → length xs ≡ arity o → Each Inside xs → KindReads 111 (string (op_text o) ++ joined (map spelled_expr xs)) (expr.Op o xs)
  unfolding read_expr_kind read_op
  op_reads o xs is hs k last =
      let x : List ℕ = joined (map spelled_expr xs) in
      let assoc : (string (op_text o) ++ x) ++ (101 ∷ k) ≡ string (op_text o) ++ (x ++ (101 ∷ k)) = append_assoc (string (op_text o)) x (101 ∷ k) in
      let g = parts_read o xs (101 ∷ k) is hs (string (op_text o) ++ (x ++ (101 ∷ k))) in
      (g.0, rw (assoc, string_only (op_text o) (x ++ (101 ∷ k)) (omega (arith, op_short o)), op_is o, g.1) refl)

  -- ---- dicts

  abbrev pairs_bytes : List (Value × Expr) → List ℕ
  pairs_bytes ps = joined (map (under_key (λ f. f)) (map spelled_second ps))

  abbrev depth_second : {K : Type 0} → K × Expr → K × ℕ
  depth_second p = (p.0, depth_expr p.1)

  pairs_read : (m : ℕ) (keys : List Value) (ps : List (Value × Expr)) (k : List ℕ) → AreProperKeys ps → greatest (map keyed_depth (map depth_second ps)) ≤ n → EachSecond Inside ps → AreNew keys ps → length ps ≤ m → length (pairs_bytes ps) ≤ most →
      Reads (read_pairs_by n inside m keys) (pairs_bytes ps ++ (101 ∷ k)) ps (101 ∷ k)
  unfolding read_pair
  pairs_read zero keys [] k proper shallow hs new fuel le last = (last, refl)
  pairs_read zero keys (p ∷ ps) k proper shallow hs new fuel le last = absurd (omega arith)
  pairs_read (suc m) keys [] k proper shallow hs new fuel le last = (last, refl)
  pairs_read (suc m) keys (p ∷ ps) k proper shallow hs new fuel le last =
      let others : List ℕ = pairs_bytes ps in
      let whole : length (pairs_bytes (p ∷ ps)) ≡ length (spelled p.0 ++ spelled_expr p.1) + length others = length-append (spelled p.0 ++ spelled_expr p.1) others in
      let two : length (spelled p.0 ++ spelled_expr p.1) ≡ length (spelled p.0) + length (spelled_expr p.1) = length-append (spelled p.0) (spelled_expr p.1) in
      let behind : List ℕ = others ++ (101 ∷ k) in
      let middle : List ℕ = spelled_expr p.1 ++ behind in
      let first = key_reads n keys p.0 new.0 proper.0 (omega (arith, shallow)) (omega (arith, le, whole, two)) middle last in
      let second = hs.0 behind first.0 in
      let rest = pairs_read m (keys ++ p.0 ∷ []) ps k proper.1 (omega (arith, shallow)) hs.1 new.1 (omega (arith, fuel)) (omega (arith, le, whole)) second.0 in
      let assoc : ((spelled p.0 ++ spelled_expr p.1) ++ others) ++ (101 ∷ k) ≡ spelled p.0 ++ middle = append_assoc (spelled p.0 ++ spelled_expr p.1) others (101 ∷ k) ∙ append_assoc (spelled p.0) (spelled_expr p.1) behind in
      let begins : begins_item (spelled p.0 ++ middle) ≡ true = value_begins p.0 middle (omega (arith, le, whole, two)) in
      (rest.0, rw (assoc, begins, first.1, second.1, rest.1) refl)

  more_pair_bytes : (ps : List (Value × Expr)) → length ps ≤ length (pairs_bytes ps)
  more_pair_bytes [] = omega arith
  more_pair_bytes (p ∷ ps) =
      let whole : length (pairs_bytes (p ∷ ps)) ≡ length (spelled p.0 ++ spelled_expr p.1) + length (pairs_bytes ps) = length-append (spelled p.0 ++ spelled_expr p.1) (pairs_bytes ps) in
      let two : length (spelled p.0 ++ spelled_expr p.1) ≡ length (spelled p.0) + length (spelled_expr p.1) = length-append (spelled p.0) (spelled_expr p.1) in
      omega (arith, whole, two, expr_length p.1, more_pair_bytes ps)

  dict_of_reads : (ps : List (Value × Expr)) → AreProperKeys ps → greatest (map keyed_depth (map depth_second ps)) ≤ n → EachSecond Inside ps → AreNew [] ps → length (pairs_bytes ps) ≤ most → KindReads 100 (pairs_bytes ps) (expr.DictOf ps)
  unfolding read_expr_kind read_dict_of
  dict_of_reads ps proper shallow hs new le k last =
      let size : length (pairs_bytes ps ++ (101 ∷ k)) ≡ length (pairs_bytes ps) + length (101 ∷ k) = length-append (pairs_bytes ps) (101 ∷ k) in
      let m = pairs_read (length (pairs_bytes ps ++ (101 ∷ k))) [] ps k proper shallow hs new (omega (arith, size, more_pair_bytes ps)) le last in
      (m.0, rw m.1 refl)

  -- ---- conditionals, maps, catches

  cond_reads : (a b c : Expr) → Inside a → Inside b → Inside c → KindReads 110 ((spelled_expr a ++ spelled_expr b) ++ spelled_expr c) (expr.Cond a b c)
  unfolding read_expr_kind read_cond
  cond_reads a b c f g h k last =
      let behind : List ℕ = spelled_expr c ++ (101 ∷ k) in
      let p = f (spelled_expr b ++ behind) last in
      let q = g behind p.0 in
      let r = h (101 ∷ k) q.0 in
      let assoc : ((spelled_expr a ++ spelled_expr b) ++ spelled_expr c) ++ (101 ∷ k) ≡ spelled_expr a ++ (spelled_expr b ++ behind) = append_assoc (spelled_expr a ++ spelled_expr b) (spelled_expr c) (101 ∷ k) ∙ append_assoc (spelled_expr a) (spelled_expr b) behind in
      (r.0, rw (assoc, p.1, q.1, r.1) refl)

  map_reads : (t : List ℕ) (e : Expr) → IsUtf8 t → length t ≤ most → Inside e → KindReads 109 (string t ++ spelled_expr e) (expr.Map t e)
  unfolding read_expr_kind read_map read_text
  map_reads t e utf8 le f k last =
      let behind : List ℕ = spelled_expr e ++ (101 ∷ k) in
      let p = f (101 ∷ k) (string t ++ behind) in
      let assoc : (string t ++ spelled_expr e) ++ (101 ∷ k) ≡ string t ++ behind = append_assoc (string t) (spelled_expr e) (101 ∷ k) in
      (p.0, rw (assoc, string_only t behind le, is_text t utf8, p.1) refl)

  catch_reads : (e : Expr) (c : Class) (t : List ℕ) → IsUtf8 t → length t ≤ most → Inside e → KindReads 116 ((spelled_expr e ++ string (name c)) ++ string t) (expr.Catch e c t)
  unfolding read_expr_kind read_catch read_text
  catch_reads e c t utf8 le f k last =
      let behind : List ℕ = string t ++ (101 ∷ k) in
      let p = f (string (name c) ++ behind) last in
      let assoc : ((spelled_expr e ++ string (name c)) ++ string t) ++ (101 ∷ k) ≡ spelled_expr e ++ (string (name c) ++ behind) = append_assoc (spelled_expr e ++ string (name c)) (string t) (101 ∷ k) ∙ append_assoc (spelled_expr e) (string (name c)) behind in
      (behind, rw (assoc, p.1, string_only (name c) behind (omega (arith, class_short c)), class_is c, string_only t (101 ∷ k) le, is_text t utf8) refl)

-- ---- expressions

abbrev pub OnlyExpr : Expr → Type 0
OnlyExpr e = (n : ℕ) (k : List ℕ) → IsProperExpr e → depth_expr e ≤ n → length (spelled_expr e) ≤ most → Reads (read_expr n) (spelled_expr e ++ k) e k

-- with a level at least
abbrev WithLevel : Expr → Type 0
WithLevel e = (n : ℕ) (k : List ℕ) → IsProperExpr e → depth_expr e ≤ suc n → length (spelled_expr e) ≤ most → Reads (read_any_expr n (read_expr n)) (spelled_expr e ++ k) e k

leveled : (e : Expr) → 1 ≤ depth_expr e → WithLevel e → OnlyExpr e
unfolding read_expr
leveled e low f zero k proper shallow le last = absurd (omega (arith, low, shallow))
leveled e low f (suc n) k proper shallow le last = f n k proper shallow le last

kind_any : (n c : ℕ) (body : List ℕ) (e : Expr) (k : List ℕ) → spelled_expr e ≡ 108 ∷ 49 ∷ 58 ∷ c ∷ (body ++ (101 ∷ [])) → is_lazy e ≡ true → KindReads n (read_expr n) c body e → Reads (read_any_expr n (read_expr n)) (spelled_expr e ++ k) e k
kind_any n c body e k is lazy f = subst (λ s. Reads (read_any_expr n (read_expr n)) (s ++ k) e k) (sym is) (tagged_reads n (read_expr n) c body e k lazy f)

lazy_by : (e : Expr) (x : Lazy-F FileValue Expr) → out-Lazy FileValue e ≡ x → is_lazy_at is_val x ≡ true → is_lazy e ≡ true
lazy_by e x is h = ap (is_lazy_at is_val) is ∙ h

-- what stands between the letter and the end is shorter than all
pub shorter : (c : ℕ) (body s : List ℕ) → s ≡ 108 ∷ 49 ∷ 58 ∷ c ∷ (body ++ (101 ∷ [])) → length s ≤ most → length body ≤ most
shorter c body s is le =
    let size : length s ≡ length (108 ∷ 49 ∷ 58 ∷ c ∷ (body ++ (101 ∷ []))) = ap length is in
    let parts : length (body ++ (101 ∷ [])) ≡ length body + 1 = length-append body (101 ∷ []) in
    omega (arith, size, parts, le)

pub left_short : (a b : List ℕ) → length (a ++ b) ≤ most → length a ≤ most
left_short a b le = let p : length (a ++ b) ≡ length a + length b = length-append a b in omega (arith, p, le)

pub right_short : (a b : List ℕ) → length (a ++ b) ≤ most → length b ≤ most
right_short a b le = let p : length (a ++ b) ≡ length a + length b = length-append a b in omega (arith, p, le)

pub text_short : (t : List ℕ) → length (string t) ≤ most → length t ≤ most
text_short t le = omega (arith, le, string_longer t)

each_inside : (n : ℕ) (xs : List Expr) → Each OnlyExpr xs → Each IsProperExpr xs → greatest (map depth_expr xs) ≤ n → length (joined (map spelled_expr xs)) ≤ most → Each (Inside n (read_expr n)) xs
each_inside n [] hs ps shallow le = tt
each_inside n (x ∷ xs) hs ps shallow le =
    ((λ k. hs.0 n k ps.0 (omega (arith, shallow)) (left_short (spelled_expr x) (joined (map spelled_expr xs)) le)), each_inside n xs hs.1 ps.1 (omega (arith, shallow)) (right_short (spelled_expr x) (joined (map spelled_expr xs)) le))

names_inside : (n : ℕ) (ks : List (List ℕ × Expr)) → EachSecond OnlyExpr ks → EachSecond IsProperExpr ks → greatest (map named_depth (map (depth_second n (read_expr n)) ks)) ≤ n → length (names_bytes n (read_expr n) ks) ≤ most → EachSecond (Inside n (read_expr n)) ks
names_inside n [] hs ps shallow le = tt
names_inside n (x ∷ xs) hs ps shallow le =
    let others : List ℕ = names_bytes n (read_expr n) xs in
    ((λ k. hs.0 n k ps.0 (omega (arith, shallow)) (right_short (string x.0) (spelled_expr x.1) (left_short (string x.0 ++ spelled_expr x.1) others le))), names_inside n xs hs.1 ps.1 (omega (arith, shallow)) (right_short (string x.0 ++ spelled_expr x.1) others le))

pairs_inside : (n : ℕ) (ps : List (Value × Expr)) → EachSecond OnlyExpr ps → EachSecond IsProperExpr ps → greatest (map keyed_depth (map (depth_second n (read_expr n)) ps)) ≤ n → length (pairs_bytes n (read_expr n) ps) ≤ most → EachSecond (Inside n (read_expr n)) ps
pairs_inside n [] hs ps shallow le = tt
pairs_inside n (x ∷ xs) hs ps shallow le =
    let others : List ℕ = pairs_bytes n (read_expr n) xs in
    ((λ k. hs.0 n k ps.0 (omega (arith, shallow)) (right_short (spelled x.0) (spelled_expr x.1) (left_short (spelled x.0 ++ spelled_expr x.1) others le))), pairs_inside n xs hs.1 ps.1 (omega (arith, shallow)) (right_short (spelled x.0 ++ spelled_expr x.1) others le))

val_any : (v : Value) → WithLevel (expr.Val v)
val_any v n k proper shallow le =
    let is = canon_val (λ f. f) v in
    let small = shorter 118 (spelled v) (spelled_expr (expr.Val v)) is le in
    let flat : depth v ≤ suc n = let d = depth_val v in omega (arith, d, shallow) in
    let fine : IsProper v = layer (expr.Val v) (Lazy-F.Val v) (expr.outs-Val v) proper in
    kind_any n 118 (spelled v) (expr.Val v) k is (lazy_by (expr.Val v) (Lazy-F.Val v) (expr.outs-Val v) refl) (val_reads n (read_expr n) v (λ k. only_value v (suc n) k fine flat small))

call_whole : (t x w : List ℕ) → codes "l1:c" ++ t ++ codes "l" ++ x ++ codes "el" ++ w ++ codes "ee" ≡ 108 ∷ 49 ∷ 58 ∷ 99 ∷ (((((t ++ (108 ∷ [])) ++ x) ++ (101 ∷ 108 ∷ [])) ++ w ++ (101 ∷ [])) ++ (101 ∷ []))
call_whole t x w = simp append_assoc

call_any : (t : List ℕ) (xs : List Expr) (ks : List (List ℕ × Expr)) → Each OnlyExpr xs → EachSecond OnlyExpr ks → WithLevel (expr.Call t xs ks)
call_any t xs ks hs gs n k proper shallow le =
    let x : List ℕ = joined (map spelled_expr xs) in
    let w : List ℕ = names_bytes n (read_expr n) ks in
    let is : spelled_expr (expr.Call t xs ks) ≡ 108 ∷ 49 ∷ 58 ∷ 99 ∷ (call_body n (read_expr n) (string t) x w ++ (101 ∷ [])) = canon_call (λ f. f) t xs ks ∙ call_whole (string t) x w in
    let small = shorter 99 (call_body n (read_expr n) (string t) x w) (spelled_expr (expr.Call t xs ks)) is le in
    let a1 = left_short ((((string t ++ (108 ∷ [])) ++ x) ++ (101 ∷ 108 ∷ [])) ++ w) (101 ∷ []) small in
    let w_short = right_short (((string t ++ (108 ∷ [])) ++ x) ++ (101 ∷ 108 ∷ [])) w a1 in
    let a2 = left_short ((string t ++ (108 ∷ [])) ++ x) (101 ∷ 108 ∷ []) (left_short (((string t ++ (108 ∷ [])) ++ x) ++ (101 ∷ 108 ∷ [])) w a1) in
    let x_short = right_short (string t ++ (108 ∷ [])) x a2 in
    let t_short = text_short t (left_short (string t) (108 ∷ []) (left_short (string t ++ (108 ∷ [])) x a2)) in
    let d = depth_call t xs ks in
    let own = layer (expr.Call t xs ks) (Lazy-F.Call t xs ks) (expr.outs-Call t xs ks) proper in
    let y = held (expr.Call t xs ks) (Lazy-F.Call t xs ks) (expr.outs-Call t xs ks) proper in
    let parts = call_by t xs ks y.0 y.1 in
    let flat : greatest (map depth_expr xs) ≤ n = omega (arith, d, shallow) in
    let flat_names : greatest (map named_depth (map (depth_second n (read_expr n)) ks)) ≤ n = omega (arith, d, shallow) in
    kind_any n 99 (call_body n (read_expr n) (string t) x w) (expr.Call t xs ks) k is (lazy_by (expr.Call t xs ks) (Lazy-F.Call t xs ks) (expr.outs-Call t xs ks) refl)
    (call_reads n (read_expr n) t xs ks own.0 t_short (each_inside n xs hs parts.0 flat x_short) own.1 (names_inside n ks gs parts.1 flat_names w_short) w_short)

input_any : (p : List ℕ) → WithLevel (expr.Input p)
input_any p n k proper shallow le =
    let is = canon_input (λ f. f) p in
    let small = text_short p (shorter 105 (string p) (spelled_expr (expr.Input p)) is le) in
    let own = layer (expr.Input p) (Lazy-F.Input p) (expr.outs-Input p) proper in
    kind_any n 105 (string p) (expr.Input p) k is (lazy_by (expr.Input p) (Lazy-F.Input p) (expr.outs-Input p) refl) (input_reads n (read_expr n) p own.0 own.1 small)

op_any : (o : OpKind) (xs : List Expr) → Each OnlyExpr xs → WithLevel (expr.Op o xs)
op_any o xs hs n k proper shallow le =
    let x : List ℕ = joined (map spelled_expr xs) in
    let is = canon_op (λ f. f) o xs in
    let small = right_short (string (op_text o)) x (shorter 111 (string (op_text o) ++ x) (spelled_expr (expr.Op o xs)) is le) in
    let own = layer (expr.Op o xs) (Lazy-F.Op o xs) (expr.outs-Op o xs) proper in
    let y = held (expr.Op o xs) (Lazy-F.Op o xs) (expr.outs-Op o xs) proper in
    let flat : greatest (map depth_expr xs) ≤ n = let d = depth_op o xs in omega (arith, d, shallow) in
    kind_any n 111 (string (op_text o) ++ x) (expr.Op o xs) k is (lazy_by (expr.Op o xs) (Lazy-F.Op o xs) (expr.outs-Op o xs) refl) (op_reads n (read_expr n) o xs own (each_inside n xs hs (op_by o xs y.0 y.1) flat small))

list_of_any : (xs : List Expr) → Each OnlyExpr xs → WithLevel (expr.ListOf xs)
list_of_any xs hs n k proper shallow le =
    let x : List ℕ = joined (map spelled_expr xs) in
    let is = canon_list_of (λ f. f) xs in
    let small = shorter 108 x (spelled_expr (expr.ListOf xs)) is le in
    let own = layer (expr.ListOf xs) (Lazy-F.ListOf xs) (expr.outs-ListOf xs) proper in
    let y = held (expr.ListOf xs) (Lazy-F.ListOf xs) (expr.outs-ListOf xs) proper in
    let flat : greatest (map depth_expr xs) ≤ n = let d = depth_list_of xs in omega (arith, d, shallow) in
    kind_any n 108 x (expr.ListOf xs) k is (lazy_by (expr.ListOf xs) (Lazy-F.ListOf xs) (expr.outs-ListOf xs) own) (list_of_reads n (read_expr n) xs (each_inside n xs hs (list_by xs y.0 y.1) flat small))

dict_of_any : (ps : List (Value × Expr)) → EachSecond OnlyExpr ps → WithLevel (expr.DictOf ps)
dict_of_any ps hs n k proper shallow le =
    let x : List ℕ = pairs_bytes n (read_expr n) ps in
    let is = canon_dict_of (λ f. f) ps in
    let small = shorter 100 x (spelled_expr (expr.DictOf ps)) is le in
    let own = layer (expr.DictOf ps) (Lazy-F.DictOf ps) (expr.outs-DictOf ps) proper in
    let y = held (expr.DictOf ps) (Lazy-F.DictOf ps) (expr.outs-DictOf ps) proper in
    let flat : greatest (map keyed_depth (map (depth_second n (read_expr n)) ps)) ≤ n = let d = depth_dict_of ps in omega (arith, d, shallow) in
    kind_any n 100 x (expr.DictOf ps) k is (lazy_by (expr.DictOf ps) (Lazy-F.DictOf ps) (expr.outs-DictOf ps) own.2) (dict_of_reads n (read_expr n) ps own.0 flat (pairs_inside n ps hs (dict_by ps y.0 y.1) flat small) own.1 small)

cond_any : (a b c : Expr) → OnlyExpr a → OnlyExpr b → OnlyExpr c → WithLevel (expr.Cond a b c)
cond_any a b c f g h n k proper shallow le =
    let body : List ℕ = (spelled_expr a ++ spelled_expr b) ++ spelled_expr c in
    let is = canon_cond (λ f. f) a b c in
    let small = shorter 110 body (spelled_expr (expr.Cond a b c)) is le in
    let two = left_short (spelled_expr a ++ spelled_expr b) (spelled_expr c) small in
    let y = held (expr.Cond a b c) (Lazy-F.Cond a b c) (expr.outs-Cond a b c) proper in
    let parts = cond_by a b c y.0 y.1 in
    let d = depth_cond a b c in
    kind_any n 110 body (expr.Cond a b c) k is (lazy_by (expr.Cond a b c) (Lazy-F.Cond a b c) (expr.outs-Cond a b c) refl)
    (cond_reads n (read_expr n) a b c (λ k. f n k parts.0 (omega (arith, d, shallow)) (left_short (spelled_expr a) (spelled_expr b) two)) (λ k. g n k parts.1 (omega (arith, d, shallow)) (right_short (spelled_expr a) (spelled_expr b) two)) (λ k. h n k parts.2 (omega (arith, d, shallow)) (right_short (spelled_expr a ++ spelled_expr b) (spelled_expr c) small)))

map_any : (t : List ℕ) (e : Expr) → OnlyExpr e → WithLevel (expr.Map t e)
map_any t e f n k proper shallow le =
    let is = canon_map (λ f. f) t e in
    let small = shorter 109 (string t ++ spelled_expr e) (spelled_expr (expr.Map t e)) is le in
    let own = layer (expr.Map t e) (Lazy-F.Map t e) (expr.outs-Map t e) proper in
    let y = held (expr.Map t e) (Lazy-F.Map t e) (expr.outs-Map t e) proper in
    let d = depth_map t e in
    kind_any n 109 (string t ++ spelled_expr e) (expr.Map t e) k is (lazy_by (expr.Map t e) (Lazy-F.Map t e) (expr.outs-Map t e) refl)
    (map_reads n (read_expr n) t e own (text_short t (left_short (string t) (spelled_expr e) small)) (λ k. f n k (map_by t e y.0 y.1) (omega (arith, d, shallow)) (right_short (string t) (spelled_expr e) small)))

catch_any : (e : Expr) (c : Class) (t : List ℕ) → OnlyExpr e → WithLevel (expr.Catch e c t)
catch_any e c t f n k proper shallow le =
    let body : List ℕ = (spelled_expr e ++ string (name c)) ++ string t in
    let is = canon_catch (λ f. f) e c t in
    let small = shorter 116 body (spelled_expr (expr.Catch e c t)) is le in
    let own = layer (expr.Catch e c t) (Lazy-F.Catch e c t) (expr.outs-Catch e c t) proper in
    let y = held (expr.Catch e c t) (Lazy-F.Catch e c t) (expr.outs-Catch e c t) proper in
    let d = depth_catch e c t in
    kind_any n 116 body (expr.Catch e c t) k is (lazy_by (expr.Catch e c t) (Lazy-F.Catch e c t) (expr.outs-Catch e c t) refl)
    (catch_reads n (read_expr n) e c t own (text_short t (right_short (spelled_expr e ++ string (name c)) (string t) small)) (λ k. f n k (catch_by e c t y.0 y.1) (omega (arith, d, shallow)) (left_short (spelled_expr e) (string (name c)) (left_short (spelled_expr e ++ string (name c)) (string t) small))))

value_deep : (v : Value) → 1 ≤ depth v
value_deep v = low v
  where
    low : (v : Value) → 1 ≤ depth v
    low = datum_ind (λ v. 1 ≤ depth v) (omega (arith, depth_nothing)) (λ b. omega (arith, depth_bool b)) (λ z. omega (arith, depth_int z)) (λ t. omega (arith, depth_text t)) (λ xs hs. let d = depth_list xs in omega (arith, d)) (λ ps hs. let d = depth_dict ps in omega (arith, d)) (λ f. omega (arith, depth_file f)) (λ e. omega (arith, depth_error e))

pub only_expr : (e : Expr) → OnlyExpr e
only_expr = lazy_ind OnlyExpr
    (λ v. leveled (expr.Val v) (let d = depth_val v in omega (arith, d, value_deep v)) (val_any v))
    (λ t xs ks hs gs. leveled (expr.Call t xs ks) (let d = depth_call t xs ks in omega (arith, d)) (call_any t xs ks hs gs))
    (λ p. leveled (expr.Input p) (let d = depth_input p in omega (arith, d)) (input_any p))
    (λ o xs hs. leveled (expr.Op o xs) (let d = depth_op o xs in omega (arith, d)) (op_any o xs hs))
    (λ xs hs. leveled (expr.ListOf xs) (let d = depth_list_of xs in omega (arith, d)) (list_of_any xs hs))
    (λ ps hs. leveled (expr.DictOf ps) (let d = depth_dict_of ps in omega (arith, d)) (dict_of_any ps hs))
    (λ a b c f g h. leveled (expr.Cond a b c) (let d = depth_cond a b c in omega (arith, d)) (cond_any a b c f g h))
    (λ t e f. leveled (expr.Map t e) (let d = depth_map t e in omega (arith, d)) (map_any t e f))
    (λ e c t f. leveled (expr.Catch e c t) (let d = depth_catch e c t in omega (arith, d)) (catch_any e c t f))
