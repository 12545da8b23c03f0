-- What a call answers, from what its reader reads exactly.
use Rattle.std.proofs.Common.{◌≡◌, ℕ, ◌≤◌, List, [], length, Result, Ok, Err, IfOk, refl, sym, ap, subst, ◌∙◌, inr, append-nil}
use Rattle.rd_bencode.specs.declared.read.error.ReadError.{ReadError}
use Rattle.rd_bencode.specs.declared.read.error.ReadError.TheVariants as error
use Rattle.rd_bencode.specs.Reader.{Place, Reader}
use Rattle.rd_bencode.specs.Whole.{all_read, read_all, Answers, ErrorTells, IsOrMemory}
use Rattle.rd_bencode.proofs.Exact.{Exact}
use Rattle.rd_bencode.proofs.ValuesOnly.{most}
use Rattle.rd_bencode.proofs.Whole.{all_found, told_ok}

module _ {A : Type 0} (p : Reader A) (sp : A → List ℕ) (F : A → Type 0) (e : Exact p sp F) (bs : List ℕ) where
  whole_found : (a : A) → read_all p bs ≡ Ok a → (bs ≡ sp a) × F a
  whole_found a h = let x = all_found (p (bs, bs)) a h in let f = e.found (bs, bs) (a, ([], x.0)) x.1 in (f.0 ∙ append-nil (sp a), f.1)

  pub whole_only : (a : A) → F a → length bs ≤ most → bs ≡ sp a → read_all p bs ≡ Ok a
  whole_only a fine small is =
      let g = e.only a [] fine (subst (λ b. length b ≤ most) is small) bs in
      ap all_read (ap (λ b. p (b, bs)) (is ∙ sym (append-nil (sp a))) ∙ g.1)

  pub answer_found : (here : Place) (r : Result A ReadError) → here ≡ (bs, bs) → Answers bs r (all_read (p here)) → IfOk r (λ a. bs ≡ sp a)
  answer_found here (Ok a) is h = (whole_found a (ap (λ z. all_read (p z)) (sym is) ∙ h)).0
  answer_found here (Err e) is h = tt

  pub answer_within : (here : Place) (r : Result A ReadError) → here ≡ (bs, bs) → Answers bs r (all_read (p here)) → IfOk r F
  answer_within here (Ok a) is h = (whole_found a (ap (λ z. all_read (p z)) (sym is) ∙ h)).1
  answer_within here (Err e) is h = tt

  error_only : (d : ReadError) (a : A) → ErrorTells bs d (read_all p bs) → read_all p bs ≡ Ok a → IsOrMemory (Err d) a
  error_only (error.NotCanonical at) a h q = absurd (let stops : read_all p bs ≡ Err h.left = h.stops in cc)
  error_only error.OutOfMemory a h q = inr refl

  result_only : (r : Result A ReadError) (a : A) → Answers bs r (read_all p bs) → read_all p bs ≡ Ok a → IsOrMemory r a
  result_only (Ok b) a h q = told_ok (read_all p bs) b a h q
  result_only (Err d) a h q = error_only d a h q

  pub answer_only : (here : Place) (r : Result A ReadError) → here ≡ (bs, bs) → length bs ≤ most → Answers bs r (all_read (p here)) → (a : A) → F a → bs ≡ sp a → IsOrMemory r a
  answer_only here r is small h a fine spelled = result_only r a (subst (λ z. Answers bs r (all_read (p z))) is h) (whole_only a fine small spelled)
