-- A blob tells its kind and its structure.
use Rattle.std.proofs.Common.{◌≡◌, ℕ, ◌+◌, ◌≤◌, List, [], ◌∷◌, ◌++◌, length, take, cond, Some, None, Option, refl, sym, ap, ◌∙◌, append_assoc, arith}
use Rattle.std.specs.Str.{bytes_eq}
use Rattle.std.proofs.Math.Seq.{take-append_seam}
use Rattle.std.proofs.lemmas.List.{length-append}
use Rattle.rd_value.specs.Canon.{string}
use Rattle.rd_bencode.specs.Blob.{kind_text, blob}
use Rattle.rd_bencode.specs.Reader.{string_at}
use Rattle.rd_bencode.specs.declared.kind.Kind.{Kind}
use Rattle.rd_bencode.specs.declared.kind.Kind.TheVariants.{Task, Args, Value, Expr, Writes, Children, Footprint, Evaluation, Call, Execution}
use Rattle.rd_bencode.proofs.Strings.{string_only}

pub text_short : (k : Kind) → length (kind_text k) ≤ 10
text_short Task = omega arith
text_short Args = omega arith
text_short Value = omega arith
text_short Expr = omega arith
text_short Writes = omega arith
text_short Children = omega arith
text_short Footprint = omega arith
text_short Evaluation = omega arith
text_short Call = omega arith
text_short Execution = omega arith

-- the one of these kinds that has this text
abbrev kind_in : List Kind → List ℕ → Option Kind
kind_in [] bs = None
kind_in (k ∷ ks) bs = cond (bytes_eq bs (kind_text k)) (Some k) (kind_in ks bs)

abbrev kind_of : List ℕ → Option Kind
kind_of = kind_in (Task ∷ Args ∷ Value ∷ Expr ∷ Writes ∷ Children ∷ Footprint ∷ Evaluation ∷ Call ∷ Execution ∷ [])

kind_is : (k : Kind) → kind_of (kind_text k) ≡ Some k
kind_is Task = refl
kind_is Args = refl
kind_is Value = refl
kind_is Expr = refl
kind_is Writes = refl
kind_is Children = refl
kind_is Footprint = refl
kind_is Evaluation = refl
kind_is Call = refl
kind_is Execution = refl

pub same_kind : (k j : Kind) → kind_text k ≡ kind_text j → k ≡ j
same_kind k j e = let p : (let o : Option Kind = Some k in o) ≡ Some j = sym (kind_is k) ∙ (ap kind_of e ∙ kind_is j) in cc

pub both_same : (a b c d : List ℕ) → (let o : Option (List ℕ × List ℕ) = Some (a, b) in o) ≡ Some (c, d) → (a ≡ c) × (b ≡ d)
both_same a b c d e = let p : (let q : List ℕ × List ℕ = (a, b) in q) ≡ (c, d) = cc in (ap (λ (q : List ℕ × List ℕ). q.0) p, ap (λ (q : List ℕ × List ℕ). q.1) p)

without_end : (s t : List ℕ) → s ++ (101 ∷ []) ≡ t ++ (101 ∷ []) → s ≡ t
without_end s t e =
    let a : length (s ++ (101 ∷ [])) ≡ length s + 1 = length-append s (101 ∷ []) in
    let b : length (t ++ (101 ∷ [])) ≡ length t + 1 = length-append t (101 ∷ []) in
    let same : length (s ++ (101 ∷ [])) ≡ length (t ++ (101 ∷ [])) = ap length e in
    let size : length s ≡ length t = omega (arith, a, b, same) in
    sym (take-append_seam s (101 ∷ [])) ∙ (ap (take (length s)) e ∙ (ap (λ n. take n (t ++ (101 ∷ []))) size ∙ take-append_seam t (101 ∷ [])))

tail_of : List ℕ → List ℕ
tail_of [] = []
tail_of (b ∷ bs) = bs

pub blobs_apart : (k j : Kind) (s t : List ℕ) → blob k s ≡ blob j t → (k ≡ j) × (s ≡ t)
unfolding tail_of
blobs_apart k j s t e =
    let tails : (string (kind_text k) ++ s) ++ (101 ∷ []) ≡ (string (kind_text j) ++ t) ++ (101 ∷ []) = ap tail_of e in
    let strings : string (kind_text k) ++ (s ++ (101 ∷ [])) ≡ string (kind_text j) ++ (t ++ (101 ∷ [])) = sym (append_assoc (string (kind_text k)) s (101 ∷ [])) ∙ (tails ∙ append_assoc (string (kind_text j)) t (101 ∷ [])) in
    let read = sym (string_only (kind_text k) (s ++ (101 ∷ [])) (omega (arith, text_short k))) ∙ (ap string_at strings ∙ string_only (kind_text j) (t ++ (101 ∷ [])) (omega (arith, text_short j))) in
    let parts = both_same (kind_text k) (s ++ (101 ∷ [])) (kind_text j) (t ++ (101 ∷ [])) read in
    (same_kind k j parts.0, without_end s t parts.1)
