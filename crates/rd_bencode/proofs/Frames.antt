-- Blobs and names are found where they are.
use Rattle.std.proofs.Common.{◌≡◌, ℕ, ◌+◌, ◌-◌, ◌==◌, Bool, true, false, cond, List, [], ◌∷◌, ◌++◌, length, take, drop, Option, Some, None, ◌⊎◌, inl, inr, refl, sym, ap, subst, ◌∙◌, append_assoc, length-append, arith}
use Rattle.std.specs.Option.{option_map, IfSome}
use Rattle.std.specs.Cmp.Lexicographic.{pointwise, bytes_decides}
use Rattle.std.proofs.lemmas.List.{take-append-drop}
use Rattle.std.proofs.Math.Seq.{take-append_seam, drop-append_seam}
use Rattle.rd_value.specs.Canon.{string}
use Rattle.rd_bencode.specs.Blob.{kind_text, blob}
use Rattle.rd_bencode.specs.Reader.{opt_then, behind, string_at}
use Rattle.rd_bencode.specs.Meaning.{text_of}
use Rattle.rd_bencode.specs.declared.kind.Kind.{Kind}
use Rattle.rd_bencode.specs.declared.kind.Kind.TheVariants.{Task, Args, Value, Expr, Writes, Children, Footprint, Evaluation, Call, Execution}
use Rattle.rd_bencode.specs.declared.form.Spelling.TheVariants.{Any}
use Rattle.rd_bencode.specs.Form.{IsItem, IsBlob, IsNamed, IsTaskForm}
use Rattle.rd_bencode.specs.Front.{or_else, kind_among, kinds, before, front_kind, framed, front_string, front_name}
use Rattle.rd_bencode.proofs.Strings.{opt_inv, behind_found, behind_only, string_only}
use Rattle.rd_bencode.proofs.Blobs.{text_short, same_kind, both_same}
use Rattle.rd_bencode.proofs.Steps.{text_found}
use Rattle.rd_bencode.proofs.Meaning.{is_text}
use Rattle.rd_bencode.proofs.Fronts.{front_string_found, front_string_only, map_inv}

-- ---- kinds

abbrev KindFound : List ℕ → Kind × List ℕ → Type 0
KindFound bs x = bs ≡ string (kind_text x.0) ++ x.1

kind_by : (k : Kind) (ks : List Kind) (bs : List ℕ) (x : Kind × List ℕ) (o : Option (List ℕ)) → behind (string (kind_text k)) bs ≡ o → (kind_among ks bs ≡ Some x → KindFound bs x) → or_else (option_map (λ r. (k, r)) o) (kind_among ks bs) ≡ Some x → KindFound bs x
kind_by k ks bs x None e f h = f h
kind_by k ks bs x (Some r) e f h = let p : (let q : Kind × List ℕ = (k, r) in q) ≡ x = cc in behind_found (string (kind_text k)) bs r e ∙ ap (λ (q : Kind × List ℕ). string (kind_text q.0) ++ q.1) p

kind_among_found : (ks : List Kind) (bs : List ℕ) (x : Kind × List ℕ) → kind_among ks bs ≡ Some x → KindFound bs x
kind_among_found [] bs x h = absurd cc
kind_among_found (k ∷ ks) bs x h = kind_by k ks bs x (behind (string (kind_text k)) bs) refl (kind_among_found ks bs x) h

front_kind_found : (bs : List ℕ) (x : Kind × List ℕ) → front_kind bs ≡ Some x → KindFound bs x
unfolding front_kind
front_kind_found bs x h = kind_among_found kinds bs x h

-- strings of kinds tell the kind and what stands behind them
kind_told : (j k : Kind) (r s : List ℕ) → string (kind_text j) ++ r ≡ string (kind_text k) ++ s → (j ≡ k) × (r ≡ s)
kind_told j k r s e =
    let read = sym (string_only (kind_text j) r (omega (arith, text_short j))) ∙ (ap string_at e ∙ string_only (kind_text k) s (omega (arith, text_short k))) in
    let p = both_same (kind_text j) r (kind_text k) s read in
    (same_kind j k p.0, p.1)

abbrev Has : Kind → List Kind → Type 0
Has k [] = ⊥
Has k (j ∷ js) = (k ≡ j) ⊎ Has k js

has_by : (j k : Kind) (r : List ℕ) (A : Type 0) → behind (string (kind_text j)) (string (kind_text k) ++ r) ≡ None → (k ≡ j) ⊎ A → A
has_by j k r A e (inl same) = absurd (let h : behind (string (kind_text j)) (string (kind_text j) ++ r) ≡ None = subst (λ k. behind (string (kind_text j)) (string (kind_text k) ++ r) ≡ None) same e in let g = sym (behind_only (string (kind_text j)) r) ∙ h in cc)
has_by j k r A e (inr a) = a

only_by : (j : Kind) (js : List Kind) (k : Kind) (r : List ℕ) (o : Option (List ℕ)) → behind (string (kind_text j)) (string (kind_text k) ++ r) ≡ o → (Has k js → kind_among js (string (kind_text k) ++ r) ≡ Some (k, r)) → Has k (j ∷ js) → or_else (option_map (λ r. (j, r)) o) (kind_among js (string (kind_text k) ++ r)) ≡ Some (k, r)
only_by j js k r None e f h = f (has_by j k r (Has k js) e h)
only_by j js k r (Some x) e f h =
    let p = kind_told j k x r (sym (behind_found (string (kind_text j)) (string (kind_text k) ++ r) x e)) in
    rw (p.0, p.1) refl

kind_among_only : (js : List Kind) (k : Kind) (r : List ℕ) → Has k js → kind_among js (string (kind_text k) ++ r) ≡ Some (k, r)
kind_among_only [] k r h = absurd h
kind_among_only (j ∷ js) k r h = only_by j js k r (behind (string (kind_text j)) (string (kind_text k) ++ r)) refl (kind_among_only js k r) h

has_kind : (k : Kind) → Has k kinds
has_kind Task = inl refl
has_kind Args = inr (inl refl)
has_kind Value = inr (inr (inl refl))
has_kind Expr = inr (inr (inr (inl refl)))
has_kind Writes = inr (inr (inr (inr (inl refl))))
has_kind Children = inr (inr (inr (inr (inr (inl refl)))))
has_kind Footprint = inr (inr (inr (inr (inr (inr (inl refl))))))
has_kind Evaluation = inr (inr (inr (inr (inr (inr (inr (inl refl)))))))
has_kind Call = inr (inr (inr (inr (inr (inr (inr (inr (inl refl))))))))
has_kind Execution = inr (inr (inr (inr (inr (inr (inr (inr (inr (inl refl)))))))))

front_kind_only : (k : Kind) (r : List ℕ) → front_kind (string (kind_text k) ++ r) ≡ Some (k, r)
unfolding front_kind
front_kind_only k r = kind_among_only kinds k r (has_kind k)

-- ---- what stands before an end

before_by : (text bs r : List ℕ) (t : Bool) → pointwise ◌==◌ (drop (length bs - length text) bs) text ≡ t → cond t (Some (take (length bs - length text) bs)) None ≡ Some r → bs ≡ r ++ text
before_by text bs r true e h =
    let d : drop (length bs - length text) bs ≡ text = (bytes_decides (drop (length bs - length text) bs) text).0 e in
    let f : take (length bs - length text) bs ≡ r = cc in
    sym (take-append-drop (length bs - length text) bs) ∙ (ap (λ x. x ++ drop (length bs - length text) bs) f ∙ ap (λ x. r ++ x) d)
before_by text bs r false e h = absurd cc

before_found : (text bs r : List ℕ) → before text bs ≡ Some r → bs ≡ r ++ text
before_found text bs r h = before_by text bs r _ refl h

before_only : (text r : List ℕ) → before text (r ++ text) ≡ Some r
before_only text r =
    let size : length (r ++ text) ≡ length r + length text = length-append r text in
    let at : length (r ++ text) - length text ≡ length r = omega (arith, size) in
    let same : pointwise ◌==◌ (drop (length r) (r ++ text)) text ≡ true = (bytes_decides _ text).1 (drop-append_seam r text) in
    rw (at, same, take-append_seam r text) refl

-- ---- blobs

pub framed_found : (bs : List ℕ) (x : Kind × List ℕ) → framed bs ≡ Some x → bs ≡ blob x.0 x.1
framed_found bs x h =
    let a = opt_inv (behind (108 ∷ []) bs) (λ r. opt_then (front_kind r) (λ p. option_map (λ s. (p.0, s)) (before (101 ∷ []) p.1))) x h in
    let b = opt_inv (front_kind a.0) (λ p. option_map (λ s. (p.0, s)) (before (101 ∷ []) p.1)) x a.2 in
    let c = map_inv (λ (s : List ℕ). let p : Kind × List ℕ = (b.0.0, s) in p) (before (101 ∷ []) b.0.1) x b.2 in
    let tail : b.0.1 ≡ c.0 ++ (101 ∷ []) = before_found (101 ∷ []) b.0.1 c.0 c.1 in
    let first : bs ≡ 108 ∷ a.0 = behind_found (108 ∷ []) bs a.0 a.1 in
    let second : a.0 ≡ string (kind_text b.0.0) ++ b.0.1 = front_kind_found a.0 b.0 b.1 in
    let whole : bs ≡ blob b.0.0 c.0 = first ∙ ap (λ r. 108 ∷ r) (second ∙ (ap (λ r. string (kind_text b.0.0) ++ r) tail ∙ sym (append_assoc (string (kind_text b.0.0)) c.0 (101 ∷ [])))) in
    whole ∙ ap (λ (p : Kind × List ℕ). blob p.0 p.1) c.2

pub framed_only : (k : Kind) (s : List ℕ) → framed (blob k s) ≡ Some (k, s)
framed_only k s =
    let assoc : (string (kind_text k) ++ s) ++ (101 ∷ []) ≡ string (kind_text k) ++ (s ++ (101 ∷ [])) = append_assoc (string (kind_text k)) s (101 ∷ []) in
    rw (assoc, front_kind_only k (s ++ (101 ∷ []))) (ap (option_map (λ r. let p : Kind × List ℕ = (k, r) in p)) (before_only (101 ∷ []) s))

-- ---- names

name_apart : (ds name rest : List ℕ) → ((ds ++ (58 ∷ [])) ++ name) ++ rest ≡ ds ++ (58 ∷ (name ++ rest))
name_apart ds name rest = simp append_assoc

pub name_found : (bs name : List ℕ) → front_name bs ≡ Some name → IsNamed bs name
name_found bs name h =
    let a = opt_inv (behind (108 ∷ []) bs) (λ r. opt_then (front_string Any r) (λ p. text_of p.0)) name h in
    let b = opt_inv (front_string Any a.0) (λ p. text_of p.0) name a.2 in
    let f = front_string_found Any a.0 b.0 b.1 in
    let t = text_found b.0.0 name b.2 in
    let first : bs ≡ 108 ∷ a.0 = behind_found (108 ∷ []) bs a.0 a.1 in
    (f.0, b.0.1, f.1, f.2 ∙ ap length t.0, t.1, first ∙ ap (λ r. 108 ∷ r) (f.3 ∙ (ap (λ n. f.0 ++ (58 ∷ (n ++ b.0.1))) t.0 ∙ sym (name_apart f.0 name b.0.1))))

pub name_only : (bs name : List ℕ) → IsNamed bs name → front_name bs ≡ Some name
name_only bs name n =
    let ds : List ℕ = n.0 in
    let rest : List ℕ = n.1 in
    let at : bs ≡ 108 ∷ (ds ++ (58 ∷ (name ++ rest))) = n.5 ∙ ap (λ r. 108 ∷ r) (name_apart ds name rest) in
    let read : front_string Any (ds ++ (58 ∷ (name ++ rest))) ≡ Some (name, rest) = front_string_only Any ds name rest n.2 n.3 in
    rw (at, read) (is_text name n.4)

module _ {X : Type 0} (now : X → List ℕ) where
  pub found_name : (bs : List ℕ) (o : Option X) → option_map now o ≡ front_name bs → IfSome o (λ t. IsNamed bs (now t))
  found_name bs None h = tt
  found_name bs (Some t) h = name_found bs (now t) (sym h)

pub no_name : (bs : List ℕ) → ((name : List ℕ) → IsNamed bs name → (let o : Option (List ℕ) = None in o) ≡ Some name) → IsTaskForm bs → ⊥
no_name bs only t = let e = only t.1.0 t.1.1 in cc

-- ---- whole blobs

pub blob_only : (bs : List ℕ) (k : Kind) (s : List ℕ) → IsBlob bs k s → framed bs ≡ Some (k, s)
blob_only bs k s b = ap framed b.0 ∙ framed_only k s

pub not_item : (bs : List ℕ) (j k : Kind) (r s : List ℕ) → (let o : Option (Kind × List ℕ) = Some (j, r) in o) ≡ framed bs → (IsItem Any r → ⊥) → IsBlob bs k s → ⊥
not_item bs j k r s e bad b =
    let p : (let o : Option (Kind × List ℕ) = Some (j, r) in o) ≡ Some (k, s) = e ∙ blob_only bs k s b in
    let q : (let x : Kind × List ℕ = (j, r) in x) ≡ (k, s) = cc in
    bad (subst (IsItem Any) (sym (ap (λ (x : Kind × List ℕ). x.1) q)) b.1)
