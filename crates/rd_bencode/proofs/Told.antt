-- What reading tells of a structure.
use Rattle.std.proofs.Common.{◌≡◌, ℕ, ◌↔◌, Bool, true, false, List, Result, Ok, Err, IfOk, IsTrue, sym, subst, ◌∙◌, inl, inr}
use Rattle.rd_bencode.specs.Canonical.{IsCanonical, Spells, TellsError, TellsRead}
use Rattle.rd_bencode.specs.declared.kind.Kind.{Kind}
use Rattle.rd_bencode.specs.declared.read.error.ReadError.{ReadError}
use Rattle.rd_bencode.specs.declared.read.error.ReadError.TheVariants as error
use Rattle.rd_bencode.specs.Whole.{IsOrMemory}

never : {A : Type 0} (at : ℕ) (a : A) → IsOrMemory (Err (error.NotCanonical at)) a → ⊥
never at a (inl e) = absurd cc
never at a (inr e) = absurd cc

module _ {A : Type 0} (sp : A → List ℕ) (Fine : A → Type 0) (bs : List ℕ) where
  told_error : (e : ReadError) (b : Bool) → TellsError e b → ((a : A) → Fine a → bs ≡ sp a → IsOrMemory (Err e) a) → IsTrue b ↔ Spells sp Fine bs
  told_error (error.NotCanonical at) b tells only = (λ yes. absurd (let bad : false ≡ true = sym tells ∙ yes in cc), λ s. absurd (never at s.0 (only s.0 s.1 s.2)))
  told_error error.OutOfMemory b tells only = absurd tells

  told_read : (r : Result A ReadError) (b : Bool) → TellsRead r b → IfOk r (λ a. bs ≡ sp a) → IfOk r Fine → ((a : A) → Fine a → bs ≡ sp a → IsOrMemory r a) → IsTrue b ↔ Spells sp Fine bs
  told_read (Ok a) b tells found within only = (λ yes. (a, within, found), λ s. tells)
  told_read (Err e) b tells found within only = told_error e b tells only

  pub told_canonical : {E : Type 0} (k : Kind) (r : Result A ReadError) (t : Result Bool E) → IsCanonical k bs ≡ Spells sp Fine bs → IfOk t (λ told. TellsRead r told) → IfOk r (λ a. bs ≡ sp a) → IfOk r Fine →
      ((a : A) → Fine a → bs ≡ sp a → IsOrMemory r a) → IfOk t (λ told. IsTrue told ↔ IsCanonical k bs)
  told_canonical k r (Ok b) is tells found within only = subst (λ (T : Type 0). IsTrue b ↔ T) (sym is) (told_read r b tells found within only)
  told_canonical k r (Err e) is tells found within only = tt
