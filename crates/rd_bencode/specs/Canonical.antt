-- Structures that are canonical for a kind.
use Rattle.std.specs.Prelude.{◌≡◌, ℕ, Bool, true, false, List, Result, Ok, Err}
use Rattle.rd_value.specs.Canon.{canon, canon_expr}
use Rattle.rd_value.specs.Limits.{is_within, is_within_expr}
use Rattle.rd_bencode.specs.declared.kind.Kind.{Kind}
use Rattle.rd_bencode.specs.declared.kind.Kind.TheVariants as kind
use Rattle.rd_bencode.specs.declared.read.error.ReadError.{ReadError}
use Rattle.rd_bencode.specs.declared.read.error.ReadError.TheVariants as error
use Rattle.rd_bencode.specs.Exprs.{Expr}
use Rattle.rd_bencode.specs.Form.{IsTaskForm}
use Rattle.rd_bencode.specs.Proper.{IsProper, IsProperExpr}
use Rattle.rd_bencode.specs.ProperRecords.{AreProperArgs, AreProperWrites, AreProperChildren, IsProperFootprint, IsProperExecution, AreDigests}
use Rattle.rd_bencode.specs.Records.{canon_args, canon_writes, canon_children, canon_footprint, canon_execution, canon_digests}
use Rattle.rd_bencode.specs.Values.{Value}

-- the canonical bytes of something that is as it should be
abbrev pub Spells : {A : Type 0} → (A → List ℕ) → (A → Type 0) → List ℕ → Type 0
Spells {A} spell Fine bs = (a : A) × Fine a × (bs ≡ spell a)

-- a proper value within the limits
abbrev pub IsKept : Value → Type 0
IsKept v = (is_within (λ f. f) v ≡ true) × IsProper v

abbrev pub IsKeptExpr : Expr → Type 0
IsKeptExpr e = (is_within_expr (λ f. f) e ≡ true) × IsProperExpr e

-- The canonical bytes of what such a blob holds. A task's structure is told by its form, and the rows of evaluations and of
-- calls are lists of four and of five digests.
abbrev pub IsCanonical : Kind → List ℕ → Type 0
IsCanonical kind.Task bs = IsTaskForm bs
IsCanonical kind.Args bs = Spells (canon_args (λ f. f)) AreProperArgs bs
IsCanonical kind.Value bs = Spells (canon (λ f. f)) IsKept bs
IsCanonical kind.Expr bs = Spells (canon_expr (λ f. f)) IsKeptExpr bs
IsCanonical kind.Writes bs = Spells canon_writes AreProperWrites bs
IsCanonical kind.Children bs = Spells canon_children AreProperChildren bs
IsCanonical kind.Footprint bs = Spells canon_footprint IsProperFootprint bs
IsCanonical kind.Evaluation bs = Spells canon_digests (AreDigests 4) bs
IsCanonical kind.Call bs = Spells canon_digests (AreDigests 5) bs
IsCanonical kind.Execution bs = Spells canon_execution IsProperExecution bs

-- whether something was read, where memory sufficed
abbrev pub TellsError : ReadError → Bool → Type 0
TellsError (error.NotCanonical at) told = told ≡ false
TellsError error.OutOfMemory told = ⊥

abbrev pub TellsRead : {A : Type 0} → Result A ReadError → Bool → Type 0
TellsRead (Ok a) told = told ≡ true
TellsRead (Err e) told = TellsError e told
