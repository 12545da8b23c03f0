-- No item is a proper front of another.
use Rattle.std.proofs.Common.{◌≡◌, ℕ, ◌==◌, true, false, List, [], ◌∷◌, ◌++◌, refl, sym, ap, ◌∙◌, append_assoc, arith}
use Rattle.std.specs.List.{list_all}
use Rattle.std.proofs.lemmas.List.{append_cancel_right}
use Rattle.rd_bencode.specs.Reader.{is_digit}
use Rattle.rd_bencode.specs.declared.form.Spelling.{Spelling}
use Rattle.rd_bencode.specs.declared.form.Spelling.TheVariants.{Any, One}
use Rattle.rd_bencode.specs.Form.{IsNumber, IsBelow, IsItem, AreItems}
use Rattle.rd_bencode.specs.Front.{behind_plain_item}
use Rattle.rd_bencode.proofs.Fronts.{both_true, not_letter, plain_item_only, begins_list}
use Rattle.rd_bencode.proofs.Closing.{item_begins, no_item, end_closes, list_inside, some_inj, heads}

first_is_list : (s : Spelling) (a b x y : List ℕ) → IsItem s a → IsItem s b → a ++ x ≡ b ++ y → begins_list a ≡ begins_list b
first_is_list s a b x y i j e =
    let f = item_begins s a i in
    let g = item_begins s b j in
    let same : f.0 ∷ (f.1 ++ x) ≡ g.0 ∷ (g.1 ++ y) = ap (λ z. z ++ x) (sym f.2) ∙ (e ∙ ap (λ z. z ++ y) g.2) in
    ap begins_list f.2 ∙ (ap (λ c. c == 108) (heads f.0 g.0 (f.1 ++ x) (g.1 ++ y) same).0 ∙ sym (ap begins_list g.2))

-- an item that is no list tells what stands behind it
plain_rest : (s : Spelling) (a b x y : List ℕ) → IsItem s a → IsItem s b → begins_list a ≡ false → a ++ x ≡ b ++ y → x ≡ y
plain_rest s a b x y i j other e =
    let nor : begins_list b ≡ false = sym (first_is_list s a b x y i j e) ∙ other in
    some_inj x y (sym (plain_item_only s a x i other) ∙ (ap (behind_plain_item s) e ∙ plain_item_only s b y j nor))

string_no_list : (s : Spelling) (ds text : List ℕ) → IsNumber s ds → begins_list (ds ++ (58 ∷ []) ++ text) ≡ false
string_no_list s [] text n = absurd (let h : false ≡ true = n.1 in cc)
string_no_list s (d ∷ ds) text n = not_letter d 108 (both_true (is_digit d) (list_all is_digit ds) n.0).0 (omega arith)

mutual
  item_rest : (s : Spelling) (a b x y : List ℕ) → IsItem s a → IsItem s b → a ++ x ≡ b ++ y → x ≡ y
  item_rest s a b x y (IsItem.integer ds n) j e = plain_rest s (105 ∷ (ds ++ (101 ∷ []))) b x y (IsItem.integer ds n) j refl e
  item_rest s a b x y (IsItem.negative ds n) j e = plain_rest s (105 ∷ (45 ∷ (ds ++ (101 ∷ [])))) b x y (IsItem.negative ds n) j refl e
  item_rest s a b x y (IsItem.string ds text n size) j e = plain_rest s (ds ++ (58 ∷ []) ++ text) b x y (IsItem.string ds text n size) j (string_no_list s ds text n) e
  item_rest s a b x y (IsItem.list parts all) j e =
      let l = list_inside s b ((parts ++ (101 ∷ [])) ++ x) y j e in
      parts_rest s parts l.0 x y all l.1 (sym (append_assoc parts (101 ∷ []) x) ∙ l.2)

  parts_rest : (s : Spelling) (ps qs x y : List ℕ) → AreItems s ps → AreItems s qs → ps ++ (101 ∷ x) ≡ qs ++ (101 ∷ y) → x ≡ y
  parts_rest s ps qs x y AreItems.none others e = end_closes s x y qs others e
  parts_rest s ps qs x y (AreItems.more item ms i all) AreItems.none e = absurd (no_item s item (ms ++ (101 ∷ x)) y i (sym e ∙ append_assoc item ms (101 ∷ x)))
  parts_rest s ps qs x y (AreItems.more item ms i all) (AreItems.more other ns j others) e =
      parts_rest s ms ns x y all others (item_rest s item other (ms ++ (101 ∷ x)) (ns ++ (101 ∷ y)) i j (sym (append_assoc item ms (101 ∷ x)) ∙ (e ∙ append_assoc other ns (101 ∷ y))))

pub items_apart : (s : Spelling) (a b x y : List ℕ) → IsItem s a → IsItem s b → a ++ x ≡ b ++ y → (a ≡ b) × (x ≡ y)
items_apart s a b x y i j e =
    let r : x ≡ y = item_rest s a b x y i j e in
    (append_cancel_right a b y (ap (λ z. a ++ z) (sym r) ∙ e), r)

-- ---- what has one spelling is an item

number_any : (ds : List ℕ) → IsNumber One ds → IsNumber Any ds
number_any [] n = n
number_any (d ∷ ds) n = (n.0, refl)

below_any : (ds : List ℕ) → IsBelow One ds → IsBelow Any ds
below_any [] n = n
below_any (d ∷ ds) n = (n.0, refl)

mutual
  item_any : (a : List ℕ) → IsItem One a → IsItem Any a
  item_any a (IsItem.integer ds n) = IsItem.integer ds (number_any ds n)
  item_any a (IsItem.negative ds n) = IsItem.negative ds (below_any ds n)
  item_any a (IsItem.string ds text n size) = IsItem.string ds text (number_any ds n) size
  item_any a (IsItem.list parts all) = IsItem.list parts (items_any parts all)

  items_any : (ps : List ℕ) → AreItems One ps → AreItems Any ps
  items_any ps AreItems.none = AreItems.none
  items_any ps (AreItems.more item ms i all) = AreItems.more item ms (item_any item i) (items_any ms all)

pub any_item : (a : List ℕ) → IsItem One a → IsItem Any a
any_item a i = item_any a i
