-- Lists of any length, in which what came before tells what may come next.
use Rattle.std.specs.Prelude.{ℕ, zero, suc, if◌then◌else◌, List, [], ◌∷◌, length, Ok}
use Rattle.rd_bencode.specs.Reader.{Reader, ◌>>=◌, pure, begins_item}

-- items, each read in view of a state that those before it left: no more items than bytes
module _ {S A : Type 0} (p : S → Reader A) (after : S → A → S) where
  abbrev pub read_each_by : ℕ → S → Reader (List A)
  read_each_by zero st = pure []
  read_each_by (suc n) st = λ s. if begins_item s.0 then (p st >>= λ a. read_each_by n (after st a) >>= λ more. pure (a ∷ more)) s else Ok ([], s)

  abbrev pub read_each : S → Reader (List A)
  read_each st = λ s. read_each_by (length s.0) st s

-- each item fits the state that those before it left
module _ {S A : Type 0} (Fits : S → A → Type 0) (after : S → A → S) where
  abbrev pub EachFits : S → List A → Type 0
  EachFits st [] = Unit {0}
  EachFits st (a ∷ more) = Fits st a × EachFits (after st a) more
