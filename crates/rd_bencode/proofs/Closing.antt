-- Steps over open lists pass their parts and their ends, and nothing else.
use Rattle.std.proofs.Common.{◌≡◌, ℕ, zero, suc, ◌+◌, ◌-◌, ◌<◌, ◌≤◌, ◌==◌, Bool, true, false, cond, List, [], ◌∷◌, ◌++◌, length, Option, Some, None, refl, sym, ap, subst, ◌∙◌, append_assoc, append-nil, length-append, arith}
use Rattle.std.specs.List.{list_all}
use Rattle.std.specs.Option.{option_map, IfSome}
use Rattle.std.proofs.lemmas.Bool.Decides.{nat_tests}
use Rattle.rd_bencode.specs.Reader.{is_digit, is_first}
use Rattle.rd_bencode.specs.declared.form.Spelling.{Spelling}
use Rattle.rd_bencode.specs.Form.{IsNumber, IsItem, AreItems}
use Rattle.rd_bencode.specs.Front.{behind_plain_item, step, InFront, Closes}
use Rattle.rd_bencode.proofs.Fronts.{both_true, plain_item_found, plain_item_only, begins_list}

-- ---- the first byte of an item

abbrev Begins : List ℕ → Type 0
Begins item = (b : ℕ) × (more : List ℕ) × (item ≡ b ∷ more) × (is_first b ≡ true)

digit_first : (b : ℕ) → is_digit b ≡ true → is_first b ≡ true
digit_first b h = grind (arith, nat_tests)

string_begins : (s : Spelling) (ds text : List ℕ) → IsNumber s ds → Begins (ds ++ (58 ∷ []) ++ text)
string_begins s [] text n = absurd (let h : false ≡ true = n.1 in cc)
string_begins s (d ∷ ds) text n = (d, ds ++ (58 ∷ []) ++ text, refl, digit_first d (both_true (is_digit d) (list_all is_digit ds) n.0).0)

pub item_begins : (s : Spelling) (item : List ℕ) → IsItem s item → Begins item
item_begins s item (IsItem.integer ds n) = (105, ds ++ (101 ∷ []), refl, refl)
item_begins s item (IsItem.negative ds n) = (105, 45 ∷ (ds ++ (101 ∷ [])), refl, refl)
item_begins s item (IsItem.string ds text n size) = string_begins s ds text n
item_begins s item (IsItem.list parts all) = (108, parts ++ (101 ∷ []), refl, refl)

pub heads : (a b : ℕ) (xs ys : List ℕ) → a ∷ xs ≡ b ∷ ys → (a ≡ b) × (xs ≡ ys)
heads a b xs ys e = (cc, cc)

-- the end of a list begins no item
pub no_item : (s : Spelling) (item parts bs : List ℕ) → IsItem s item → 101 ∷ bs ≡ item ++ parts → ⊥
no_item s item parts bs i e =
    let f = item_begins s item i in
    let same : 101 ∷ bs ≡ f.0 ∷ (f.1 ++ parts) = e ∙ ap (λ x. x ++ parts) f.2 in
    let h : is_first 101 ≡ true = subst (λ b. is_first b ≡ true) (sym (heads 101 f.0 bs (f.1 ++ parts) same).0) f.3 in
    let g : false ≡ true = h in absurd cc

-- ---- the parts of an open list

pub end_closes : (s : Spelling) (bs mid parts : List ℕ) → AreItems s parts → 101 ∷ bs ≡ parts ++ (101 ∷ mid) → bs ≡ mid
end_closes s bs mid parts AreItems.none e = (heads 101 101 bs mid e).1
end_closes s bs mid parts (AreItems.more item more i all) e = absurd (no_item s item (more ++ (101 ∷ mid)) bs i (e ∙ append_assoc item more (101 ∷ mid)))

abbrev pub Same : Spelling → ℕ → List ℕ → ℕ → List ℕ → Type 0
Same s m bs n x = (rest : List ℕ) → (Closes s m bs rest → Closes s n x rest) × (Closes s n x rest → Closes s m bs rest)

end_same : (s : Spelling) (m : ℕ) (bs : List ℕ) → Same s (suc m) (101 ∷ bs) m bs
end_same s m bs rest = (
  λ c. subst (λ x. Closes s m x rest) (sym (end_closes s bs c.1 c.0 c.2 c.3)) c.4,
  λ c. ([], bs, AreItems.none, refl, c),
)

-- a part in front, where the byte in front ends no list
part_in_front : (s : Spelling) (b : ℕ) (bs mid parts : List ℕ) → (b == 101) ≡ false → AreItems s parts → b ∷ bs ≡ parts ++ (101 ∷ mid) → (item more : List ℕ) × IsItem s item × AreItems s more × (b ∷ bs ≡ item ++ (more ++ (101 ∷ mid)))
part_in_front s b bs mid parts other AreItems.none e = absurd (let h : b ≡ 101 = (heads b 101 bs mid e).0 in let t : (101 == 101) ≡ false = subst (λ c. (c == 101) ≡ false) h other in let g : true ≡ false = t in cc)
part_in_front s b bs mid parts other (AreItems.more item more i all) e = (item, more, i, all, e ∙ append_assoc item more (101 ∷ mid))

no_list : (s : Spelling) (ds text bs behind : List ℕ) → IsNumber s ds → 108 ∷ bs ≡ (ds ++ (58 ∷ []) ++ text) ++ behind → ⊥
no_list s [] text bs behind n e = let h : false ≡ true = n.1 in cc
no_list s (d ∷ ds) text bs behind n e =
    let h : 108 ≡ d = (heads 108 d bs ((ds ++ (58 ∷ []) ++ text) ++ behind) e).0 in
    let g : is_digit 108 ≡ true = subst (λ b. is_digit b ≡ true) (sym h) (both_true (is_digit d) (list_all is_digit ds) n.0).0 in
    let f : false ≡ true = g in cc

-- what begins with `l` is a list
pub list_inside : (s : Spelling) (item bs behind : List ℕ) → IsItem s item → 108 ∷ bs ≡ item ++ behind → (parts : List ℕ) × AreItems s parts × (bs ≡ parts ++ (101 ∷ behind))
list_inside s item bs behind (IsItem.integer ds n) e = absurd (let h : 108 ≡ 105 = (heads 108 105 bs ((ds ++ (101 ∷ [])) ++ behind) e).0 in omega arith)
list_inside s item bs behind (IsItem.negative ds n) e = absurd (let h : 108 ≡ 105 = (heads 108 105 bs (45 ∷ ((ds ++ (101 ∷ [])) ++ behind)) e).0 in omega arith)
list_inside s item bs behind (IsItem.string ds text n size) e = absurd (no_list s ds text bs behind n e)
list_inside s item bs behind (IsItem.list parts all) e = (parts, all, (heads 108 108 bs ((parts ++ (101 ∷ [])) ++ behind) e).1 ∙ append_assoc parts (101 ∷ []) behind)

open_inward : (s : Spelling) (m : ℕ) (bs rest : List ℕ) → Closes s (suc m) (108 ∷ bs) rest → Closes s (suc (suc m)) bs rest
open_inward s m bs rest c =
    let p = part_in_front s 108 bs c.1 c.0 refl c.2 c.3 in
    let l = list_inside s p.0 bs (p.1 ++ (101 ∷ c.1)) p.2 p.4 in
    (l.0, p.1 ++ (101 ∷ c.1), l.1, l.2, (p.1, c.1, p.3, refl, c.4))

regroup : (inner parts mid : List ℕ) → ((inner ++ (101 ∷ [])) ++ parts) ++ (101 ∷ mid) ≡ inner ++ (101 ∷ (parts ++ (101 ∷ mid)))
regroup inner parts mid = simp append_assoc

open_outward : (s : Spelling) (m : ℕ) (bs rest : List ℕ) → Closes s (suc (suc m)) bs rest → Closes s (suc m) (108 ∷ bs) rest
open_outward s m bs rest c =
    let inner : List ℕ = c.0 in
    let d = c.4 in
    let parts : List ℕ = d.0 in (
      (108 ∷ (inner ++ (101 ∷ []))) ++ parts,
      d.1,
      AreItems.more (108 ∷ (inner ++ (101 ∷ []))) parts (IsItem.list inner c.2) d.2,
      ap (λ x. 108 ∷ x) (c.3 ∙ (ap (λ x. inner ++ (101 ∷ x)) d.3 ∙ sym (regroup inner parts d.1))),
      d.4,
    )

open_same : (s : Spelling) (m : ℕ) (bs : List ℕ) → Same s (suc m) (108 ∷ bs) (suc (suc m)) bs
open_same s m bs rest = (open_inward s m bs rest, open_outward s m bs rest)

-- a part that is no list
list_test : (item : List ℕ) (b : ℕ) (bs behind : List ℕ) → (b == 108) ≡ false → Begins item → b ∷ bs ≡ item ++ behind → begins_list item ≡ false
list_test item b bs behind other f e =
    let same : b ∷ bs ≡ f.0 ∷ (f.1 ++ behind) = e ∙ ap (λ x. x ++ behind) f.2 in
    let h : b ≡ f.0 = (heads b f.0 bs (f.1 ++ behind) same).0 in
    ap begins_list f.2 ∙ subst (λ c. (c == 108) ≡ false) h other

passed : (s : Spelling) (b : ℕ) (bs item behind : List ℕ) → (b == 108) ≡ false → IsItem s item → b ∷ bs ≡ item ++ behind → behind_plain_item s (b ∷ bs) ≡ Some behind
passed s b bs item behind other i e = ap (behind_plain_item s) e ∙ plain_item_only s item behind i (list_test item b bs behind other (item_begins s item i) e)

pub some_inj : {A : Type 0} (a b : A) → (let o : Option A = Some a in o) ≡ Some b → a ≡ b
some_inj a b e = cc

pass_same : (s : Spelling) (m b : ℕ) (bs x : List ℕ) → (b == 108) ≡ false → (b == 101) ≡ false → behind_plain_item s (b ∷ bs) ≡ Some x → Same s (suc m) (b ∷ bs) (suc m) x
pass_same s m b bs x no_begin no_end h rest = (
  λ c.
      let p = part_in_front s b bs c.1 c.0 no_end c.2 c.3 in
      let behind : List ℕ = p.1 ++ (101 ∷ c.1) in
      let same : x ≡ behind = some_inj x behind (sym h ∙ passed s b bs p.0 behind no_begin p.2 p.4) in
      (p.1, c.1, p.3, same, c.4),
  λ c.
      let f = plain_item_found s (b ∷ bs) x h in
      (f.0 ++ c.0, c.1, AreItems.more f.0 c.0 f.1 c.2, f.2 ∙ (ap (λ y. f.0 ++ y) c.3 ∙ sym (append_assoc f.0 c.0 (101 ∷ c.1))), c.4),
)

pass_none : (s : Spelling) (m b : ℕ) (bs : List ℕ) → (b == 108) ≡ false → (b == 101) ≡ false → behind_plain_item s (b ∷ bs) ≡ None → (rest : List ℕ) → Closes s (suc m) (b ∷ bs) rest → ⊥
pass_none s m b bs no_begin no_end h rest c =
    let p = part_in_front s b bs c.1 c.0 no_end c.2 c.3 in
    let e = sym h ∙ passed s b bs p.0 (p.1 ++ (101 ∷ c.1)) no_begin p.2 p.4 in cc

-- ---- a step

abbrev with_lists : ℕ → List ℕ → ℕ × List ℕ
with_lists m x = (m, x)

abbrev pub went : ℕ → List ℕ → Option (ℕ × List ℕ)
went m x = Some (m, x)

both_same : (m n : ℕ) (x y : List ℕ) → (let o : Option (ℕ × List ℕ) = Some (m, x) in o) ≡ Some (n, y) → (m ≡ n) × (x ≡ y)
both_same m n x y e = let p : (let q : ℕ × List ℕ = (m, x) in q) ≡ (n, y) = cc in (ap (λ (q : ℕ × List ℕ). q.0) p, ap (λ (q : ℕ × List ℕ). q.1) p)

same_at : (s : Spelling) (m : ℕ) (bs : List ℕ) (k n : ℕ) (x y : List ℕ) → k ≡ n → x ≡ y → Same s m bs k x → Same s m bs n y
same_at s m bs k n x y p q f = subst (λ n. Same s m bs n y) p (subst (λ y. Same s m bs k y) q f)

same_byte : (m n : ℕ) → (m == n) ≡ true → m ≡ n
same_byte m n h = grind (arith, nat_tests)

paired : (m n : ℕ) (x : List ℕ) (o : Option (List ℕ)) → option_map (with_lists m) o ≡ Some (n, x) → (r : List ℕ) × (o ≡ Some r) × (m ≡ n) × (r ≡ x)
paired m n x None e = absurd cc
paired m n x (Some r) e = let b = both_same m n r x e in (r, refl, b.0, b.1)

step_other : (s : Spelling) (m b : ℕ) (bs : List ℕ) (n : ℕ) (x : List ℕ) (t : Bool) → (b == 108) ≡ false → (b == 101) ≡ t → cond t (went (suc m - 1) bs) (option_map (with_lists (suc m)) (behind_plain_item s (b ∷ bs))) ≡ Some (n, x) → Same s (suc m) (b ∷ bs) n x
step_other s m b bs n x true other e h =
    let p = both_same (suc m - 1) n bs x h in
    let less : suc m - 1 ≡ m = omega arith in
    subst (λ c. Same s (suc m) (c ∷ bs) n x) (sym (same_byte b 101 e)) (same_at s (suc m) (101 ∷ bs) m n bs x (sym less ∙ p.0) p.1 (end_same s m bs))
step_other s m b bs n x false other e h =
    let p = paired (suc m) n x (behind_plain_item s (b ∷ bs)) h in
    same_at s (suc m) (b ∷ bs) (suc m) n p.0 x p.2 p.3 (pass_same s m b bs p.0 other e p.1)

step_by : (s : Spelling) (m b : ℕ) (bs : List ℕ) (n : ℕ) (x : List ℕ) (t : Bool) → (b == 108) ≡ t → cond t (went (suc (suc m)) bs) (cond (b == 101) (went (suc m - 1) bs) (option_map (with_lists (suc m)) (behind_plain_item s (b ∷ bs)))) ≡ Some (n, x) → Same s (suc m) (b ∷ bs) n x
step_by s m b bs n x true e h =
    let p = both_same (suc (suc m)) n bs x h in
    subst (λ c. Same s (suc m) (c ∷ bs) n x) (sym (same_byte b 108 e)) (same_at s (suc m) (108 ∷ bs) (suc (suc m)) n bs x p.0 p.1 (open_same s m bs))
step_by s m b bs n x false e h = step_other s m b bs n x (b == 101) e refl h

pub step_same : (s : Spelling) (m : ℕ) (bs : List ℕ) (n : ℕ) (x : List ℕ) → step s (suc m) bs ≡ Some (n, x) → Same s (suc m) bs n x
step_same s m [] n x h = absurd cc
step_same s m (b ∷ bs) n x h = step_by s m b bs n x (b == 108) refl h

abbrev pub nothing : Option (ℕ × List ℕ)
nothing = None

none_paired : (m : ℕ) (o : Option (List ℕ)) → option_map (with_lists m) o ≡ nothing → o ≡ None
none_paired m None e = refl
none_paired m (Some r) e = absurd cc

none_other : (s : Spelling) (m b : ℕ) (bs : List ℕ) (t : Bool) → (b == 108) ≡ false → (b == 101) ≡ t → cond t (went (suc m - 1) bs) (option_map (with_lists (suc m)) (behind_plain_item s (b ∷ bs))) ≡ nothing → (rest : List ℕ) → Closes s (suc m) (b ∷ bs) rest → ⊥
none_other s m b bs true other e h rest c = absurd cc
none_other s m b bs false other e h rest c = pass_none s m b bs other e (none_paired (suc m) (behind_plain_item s (b ∷ bs)) h) rest c

none_by : (s : Spelling) (m b : ℕ) (bs : List ℕ) (t : Bool) → (b == 108) ≡ t → cond t (went (suc (suc m)) bs) (cond (b == 101) (went (suc m - 1) bs) (option_map (with_lists (suc m)) (behind_plain_item s (b ∷ bs)))) ≡ nothing → (rest : List ℕ) → Closes s (suc m) (b ∷ bs) rest → ⊥
none_by s m b bs true e h rest c = absurd cc
none_by s m b bs false e h rest c = none_other s m b bs (b == 101) e refl h rest c

no_room : (parts mid : List ℕ) → [] ≡ parts ++ (101 ∷ mid) → ⊥
no_room [] mid e = cc
no_room (p ∷ ps) mid e = cc

-- bytes are needed to close a list
pub nothing_closes : (s : Spelling) (m : ℕ) (rest : List ℕ) → Closes s (suc m) [] rest → ⊥
nothing_closes s m rest c = no_room c.0 c.1 c.3

pub step_none : (s : Spelling) (m : ℕ) (bs : List ℕ) → step s (suc m) bs ≡ nothing → (rest : List ℕ) → Closes s (suc m) bs rest → ⊥
step_none s m [] h rest c = nothing_closes s m rest c
step_none s m (b ∷ bs) h rest c = none_by s m b bs (b == 108) refl h rest c

-- ---- each step passes a byte at least

abbrev pub Less : ℕ → List ℕ → ℕ → List ℕ → Type 0
Less m bs n x = (length x < length bs) × (n + length x ≤ m + length bs)

less_pass : (s : Spelling) (b : ℕ) (bs x : List ℕ) → behind_plain_item s (b ∷ bs) ≡ Some x → length x < length (b ∷ bs)
less_pass s b bs x h =
    let f = plain_item_found s (b ∷ bs) x h in
    let i = item_begins s f.0 f.1 in
    let size : length (b ∷ bs) ≡ length (i.0 ∷ (i.1 ++ x)) = ap length (f.2 ∙ ap (λ y. y ++ x) i.2) in
    let more : length (i.1 ++ x) ≡ length i.1 + length x = length-append i.1 x in
    omega (arith, size, more)

less_other : (s : Spelling) (m b : ℕ) (bs : List ℕ) (n : ℕ) (x : List ℕ) (t : Bool) → (b == 101) ≡ t → cond t (went (m - 1) bs) (option_map (with_lists m) (behind_plain_item s (b ∷ bs))) ≡ Some (n, x) → Less m (b ∷ bs) n x
less_other s m b bs n x true e h = let p = both_same (m - 1) n bs x h in let q : length bs ≡ length x = ap length p.1 in (omega (arith, q), omega (arith, q, p.0))
less_other s m b bs n x false e h =
    let p = paired m n x (behind_plain_item s (b ∷ bs)) h in
    let less : length p.0 < length (b ∷ bs) = less_pass s b bs p.0 p.1 in
    let q : length p.0 ≡ length x = ap length p.3 in
    (omega (arith, q, less), omega (arith, q, less, p.2))

less_by : (s : Spelling) (m b : ℕ) (bs : List ℕ) (n : ℕ) (x : List ℕ) (t : Bool) → (b == 108) ≡ t → cond t (went (suc m) bs) (cond (b == 101) (went (m - 1) bs) (option_map (with_lists m) (behind_plain_item s (b ∷ bs)))) ≡ Some (n, x) → Less m (b ∷ bs) n x
less_by s m b bs n x true e h = let p = both_same (suc m) n bs x h in let q : length bs ≡ length x = ap length p.1 in (omega (arith, q), omega (arith, q, p.0))
less_by s m b bs n x false e h = less_other s m b bs n x (b == 101) refl h

pub step_less : (s : Spelling) (m : ℕ) (bs : List ℕ) (n : ℕ) (x : List ℕ) → step s m bs ≡ Some (n, x) → Less m bs n x
step_less s m [] n x h = absurd cc
step_less s m (b ∷ bs) n x h = less_by s m b bs n x (b == 108) refl h

-- ---- turns of the loop

-- what is open here is what was open at the begin
pub record Passes (s : Spelling) (bytes : List ℕ) (turns lists : ℕ) (left : List ℕ) : Type 0 where
  pub same : Same s 1 bytes lists left
  pub is_open : 0 < lists
  pub few : lists + length left ≤ 1 + length bytes
  pub short : length left + turns ≤ length bytes

pub passes_first : (s : Spelling) (bytes : List ℕ) → Passes s bytes 0 1 bytes
passes_first s bytes = record { same = λ rest. ((λ c. c), (λ c. c)); is_open = omega arith; few = omega arith; short = omega arith }

passes_by : (s : Spelling) (bytes : List ℕ) (turns lists : ℕ) (left : List ℕ) (n : ℕ) (x : List ℕ) → Passes s bytes turns (suc lists) left → step s (suc lists) left ≡ Some (n, x) → Same s 1 bytes n x
passes_by s bytes turns lists left n x p h rest =
    let a = p.same rest in
    let b = step_same s lists left n x h rest in
    ((λ c. b.0 (a.0 c)), (λ c. a.1 (b.1 c)))

pub passes_same : (s : Spelling) (bytes : List ℕ) (turns lists : ℕ) (left : List ℕ) (n : ℕ) (x : List ℕ) → Passes s bytes turns lists left → step s lists left ≡ Some (n, x) → Same s 1 bytes n x
passes_same s bytes turns zero left n x p h = absurd (let z : 0 < 0 = p.is_open in omega (arith, z))
passes_same s bytes turns (suc lists) left n x p h = passes_by s bytes turns lists left n x p h

pub passes_more : (s : Spelling) (bytes : List ℕ) (turns lists : ℕ) (left : List ℕ) (n : ℕ) (x : List ℕ) → Passes s bytes turns lists left → step s lists left ≡ Some (n, x) → 0 < n → Passes s bytes (turns + 1) n x
passes_more s bytes turns lists left n x p h pos_n =
    let l = step_less s lists left n x h in
    let a = p.few in
    let b = p.short in
    record { same = passes_same s bytes turns lists left n x p h; is_open = pos_n; few = omega (arith, l.0, l.1, a); short = omega (arith, l.0, b) }

-- the end of the first list
pub passes_end : (s : Spelling) (bytes : List ℕ) (turns lists : ℕ) (left : List ℕ) (x : List ℕ) → Passes s bytes turns lists left → step s lists left ≡ Some (0, x) → (Closes s 1 bytes x) × ((rest : List ℕ) → Closes s 1 bytes rest → (let o : Option (List ℕ) = Some x in o) ≡ Some rest)
passes_end s bytes turns lists left x p h =
    let same = passes_same s bytes turns lists left 0 x p h in
    ((same x).1 refl, λ rest c. ap (λ r. let o : Option (List ℕ) = Some r in o) ((same rest).0 c))

stop_by : (s : Spelling) (bytes : List ℕ) (turns lists : ℕ) (left : List ℕ) → Passes s bytes turns lists left → step s lists left ≡ nothing → (rest : List ℕ) → Closes s 1 bytes rest → ⊥
stop_by s bytes turns zero left p h rest c = let z : 0 < 0 = p.is_open in omega (arith, z)
stop_by s bytes turns (suc lists) left p h rest c = step_none s lists left h rest ((p.same rest).0 c)

-- no step is left
pub passes_stop : (s : Spelling) (bytes : List ℕ) (turns lists : ℕ) (left : List ℕ) → Passes s bytes turns lists left → step s lists left ≡ nothing → (rest : List ℕ) → Closes s 1 bytes rest → (let o : Option (List ℕ) = None in o) ≡ Some rest
passes_stop s bytes turns lists left p h rest c = absurd (stop_by s bytes turns lists left p h rest c)

over_by : (s : Spelling) (bytes : List ℕ) (turns lists : ℕ) (left : List ℕ) → left ≡ [] → Passes s bytes turns lists left → (rest : List ℕ) → Closes s 1 bytes rest → ⊥
over_by s bytes turns zero left e p rest c = let z : 0 < 0 = p.is_open in omega (arith, z)
over_by s bytes turns (suc lists) left e p rest c = nothing_closes s lists rest (subst (λ x. Closes s (suc lists) x rest) e ((p.same rest).0 c))

no_bytes : (x : List ℕ) → length x ≤ 0 → x ≡ []
no_bytes [] h = refl
no_bytes (b ∷ bs) h = absurd (omega arith)

-- no byte is left
pub passes_over : (s : Spelling) (bytes : List ℕ) (turns lists : ℕ) (left : List ℕ) → length bytes ≤ turns → Passes s bytes turns lists left → (rest : List ℕ) → Closes s 1 bytes rest → (let o : Option (List ℕ) = None in o) ≡ Some rest
passes_over s bytes turns lists left over p rest c = let b = p.short in absurd (over_by s bytes turns lists left (no_bytes left (omega (arith, b, over))) p rest c)

-- ---- an item in front

pub list_found : (s : Spelling) (bs rest : List ℕ) → Closes s 1 bs rest → InFront s (108 ∷ bs) rest
list_found s bs rest c = (108 ∷ (c.0 ++ (101 ∷ [])), IsItem.list c.0 c.2, ap (λ x. 108 ∷ x) (c.3 ∙ (ap (λ x. c.0 ++ (101 ∷ x)) c.4 ∙ sym (append_assoc c.0 (101 ∷ []) rest))))

pub list_only : (s : Spelling) (bs rest : List ℕ) → InFront s (108 ∷ bs) rest → Closes s 1 bs rest
list_only s bs rest f = let l = list_inside s f.0 bs rest f.1 f.2 in (l.0, rest, l.1, l.2, refl)

pub item_only : (s : Spelling) (b : ℕ) (bs rest : List ℕ) → (b == 108) ≡ false → InFront s (b ∷ bs) rest → behind_plain_item s (b ∷ bs) ≡ Some rest
item_only s b bs rest other f = passed s b bs f.0 rest other f.1 f.2

pub empty_only : (s : Spelling) (rest : List ℕ) → InFront s [] rest → ⊥
empty_only s rest f = let i = item_begins s f.0 f.1 in let e : [] ≡ i.0 ∷ (i.1 ++ rest) = f.2 ∙ ap (λ x. x ++ rest) i.2 in cc

-- bytes that begin no list
pub plain_only_in_front : (s : Spelling) (bs rest : List ℕ) → begins_list bs ≡ false → InFront s bs rest → behind_plain_item s bs ≡ Some rest
plain_only_in_front s [] rest other f = absurd (empty_only s rest f)
plain_only_in_front s (b ∷ bs) rest other f = item_only s b bs rest other f

-- ---- one item alone

alone : (x : List ℕ) → (length x == 0) ≡ true → x ≡ []
alone x h = no_bytes x (let e : length x ≡ 0 = same_byte (length x) 0 h in omega (arith, e))

pub whole_item : (s : Spelling) (bs x : List ℕ) → InFront s bs x → ((rest : List ℕ) → InFront s bs rest → (let o : Option (List ℕ) = Some x in o) ≡ Some rest) → ((length x == 0) ≡ true → IsItem s bs) × (IsItem s bs → (length x == 0) ≡ true)
whole_item s bs x f only = (
  λ h. let e : bs ≡ f.0 = f.2 ∙ (ap (λ y. f.0 ++ y) (alone x h) ∙ append-nil f.0) in subst (IsItem s) (sym e) f.1,
  λ i. let e : x ≡ [] = some_inj x [] (only [] (bs, i, sym (append-nil bs))) in ap (λ y. length y == 0) e,
)

pub no_whole_item : (s : Spelling) (bs : List ℕ) → ((rest : List ℕ) → InFront s bs rest → (let o : Option (List ℕ) = None in o) ≡ Some rest) → IsItem s bs → ⊥
no_whole_item s bs only i = let e = only [] (bs, i, sym (append-nil bs)) in cc

-- ---- what functions gave

module _ {X : Type 0} (now : X → List ℕ) where
  pub found_list : (s : Spelling) (bs tail : List ℕ) (o : Option X) → bs ≡ 108 ∷ tail → IfSome o (λ r. Closes s 1 tail (now r)) → IfSome o (λ r. InFront s bs (now r))
  found_list s bs tail None e h = tt
  found_list s bs tail (Some r) e h = subst (λ b. InFront s b (now r)) (sym e) (list_found s tail (now r) h)

  pub found_plain : (s : Spelling) (bs : List ℕ) (o : Option X) → option_map now o ≡ behind_plain_item s bs → IfSome o (λ r. InFront s bs (now r))
  found_plain s bs None h = tt
  found_plain s bs (Some r) h = plain_item_found s bs (now r) (sym h)
